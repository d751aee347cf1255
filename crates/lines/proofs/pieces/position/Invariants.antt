use Rattle.std.proofs.Common.{◌≡◌, ◌+◌, drop, nat_eq}
use Rattle.std.specs.List.{position_or_len}
use Rattle.lines.proofs.pieces.position.Given as goal

abbrev pub invariant-loop-i : goal.invariant-loop-i
invariant-loop-i l = position_or_len (λ b. nat_eq b l.separator) l.text ≡ l.i + position_or_len (λ b. nat_eq b l.separator) (drop l.i l.text)
