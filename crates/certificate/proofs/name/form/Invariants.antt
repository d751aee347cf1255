use Rattle.std.proofs.Common.{◌≡◌, [], length, map}
use Rattle.certificate_text.specs.Forms.{form_of}
use Rattle.lines.specs.Left.{left}
use Rattle.certificate.specs.View as view
use Rattle.certificate.proofs.name.form.Given as goal

abbrev pub invariant-loop-word : goal.invariant-loop-word
invariant-loop-word l = form_of [] (left l.words) ≡ form_of (map view.term l.terms.items) (left l.rest)

abbrev pub decreases-loop-word : goal.decreases-loop-word
decreases-loop-word l = length (left l.rest)
