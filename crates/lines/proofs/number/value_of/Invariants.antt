use Rattle.std.proofs.Common.{◌≡◌, ◌+◌, ◌-◌, ◌*◌, drop}
use Rattle.std.specs.Prelude.{fold}
use Rattle.lines.specs.Lines.{value_of}
use Rattle.lines.proofs.number.value_of.Given as goal

abbrev pub invariant-loop-b : goal.invariant-loop-b
invariant-loop-b l = value_of l.digits ≡ fold (λ n b. n * 10 + (b - 48)) l.n (drop l.b-index l.digits)
