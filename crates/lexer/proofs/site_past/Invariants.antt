use Rattle.std.proofs.Common.{◌≡◌, ◌+◌, ◌<◌, ◌^◌, length, drop}
use Rattle.std.specs.Prelude.{fold}
use Rattle.texts.specs.Tokens.{past}
use Rattle.lexer.specs.Seen.{site}
use Rattle.lexer.proofs.site_past.Given as goal

abbrev pub invariant-loop-byte : goal.invariant-loop-byte
invariant-loop-byte l = record {
  line : l.site.line + length (drop l.byte-index l.bytes) < 2 ^ 32;
  column : l.site.column + length (drop l.byte-index l.bytes) < 2 ^ 32;
  same : fold past (site l.fn.before) l.bytes ≡ fold past (site l.site) (drop l.byte-index l.bytes);
}
