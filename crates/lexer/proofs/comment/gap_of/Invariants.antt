use Rattle.std.proofs.Common.{◌≡◌, ◌≤◌, ◌-◌, drop}
use Rattle.texts.specs.Tokens.{first_place}
use Rattle.lexer.specs.Seen.{leaves}
use Rattle.lexer.proofs.comment.gap_of.Given as goal

abbrev pub invariant-loop-i : goal.invariant-loop-i
invariant-loop-i l = first_place (leaves l.comment) 0 l.count l.bytes ≡ first_place (leaves l.comment) l.i (l.count - l.i) (drop l.i l.bytes)
