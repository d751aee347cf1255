use Rattle.std.proofs.Common.{◌≡◌, ◌+◌, ◌≤◌, length, drop}
use Rattle.std.specs.Prelude.{map}
use Rattle.texts.specs.Tokens.{site_of, tokens, tokens_of, in_front}
use Rattle.lexer.specs.Seen.{site, token}
use Rattle.lexer.proofs.lex.Given as goal

abbrev pub invariant-loop-at : goal.invariant-loop-at
invariant-loop-at l = record {
  limit : length l.text ≤ 65536;
  line : l.next.line ≤ l.at + 1;
  column : l.next.column ≤ l.at + 1;
  site : site l.next ≡ site_of l.text l.at;
  same : tokens_of l.text ≡ in_front (map token l.tokens.items) (tokens l.text l.skip l.at (drop l.at l.text));
}
