use Rattle.std.proofs.Common.{◌≡◌, drop}
use Rattle.texts.specs.Tokens.{is_line_over}
use Rattle.lexer.proofs.comment.is_line_over.Given as goal

abbrev pub invariant-loop-b : goal.invariant-loop-b
invariant-loop-b l = is_line_over l.bytes ≡ is_line_over (drop l.b-index l.bytes)
