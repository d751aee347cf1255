use Rattle.std.proofs.Common.{◌≡◌, ◌<◌, ℕ, get_or}
use Rattle.findings.specs.declared.finding.Spot.{Spot}
use Rattle.findings.proofs.alike.are_same.Given as goal

abbrev pub invariant-loop-at : goal.invariant-loop-at
invariant-loop-at l = (k : ℕ) → k < l.at → (d : Spot) → get_or l.one k d ≡ get_or l.other k d
