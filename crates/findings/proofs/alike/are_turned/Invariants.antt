use Rattle.std.proofs.Common.{◌≡◌, ◌<◌, ◌-◌, ℕ, length, get_or}
use Rattle.findings.specs.declared.finding.Spot.{Spot}
use Rattle.findings.proofs.alike.are_turned.Given as goal

abbrev pub invariant-loop-at : goal.invariant-loop-at
invariant-loop-at l = (k : ℕ) → k < l.at → (d : Spot) → get_or l.one k d ≡ get_or l.other (length l.other - 1 - k) d
