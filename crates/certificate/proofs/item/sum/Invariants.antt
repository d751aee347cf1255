use Rattle.std.proofs.Common.{◌≡◌, [], length, map}
use Rattle.certificate_text.specs.Lines.{sum_of}
use Rattle.lines.specs.Left.{left}
use Rattle.certificate.specs.View as view
use Rattle.certificate.proofs.item.sum.Given as goal

abbrev pub invariant-loop-weight : goal.invariant-loop-weight
invariant-loop-weight l = sum_of [] (left l.words) ≡ sum_of (map view.scaled l.parts.items) (left l.rest)

abbrev pub decreases-loop-weight : goal.decreases-loop-weight
decreases-loop-weight l = length (left l.rest)
