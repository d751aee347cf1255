use Rattle.std.proofs.Common.{ap, sym, ◌∙◌, ◌∷◌, map}
use Rattle.std.proofs.lemmas.List.{map_push}
use Rattle.lines.specs.Lines.{follows}
use Rattle.certificate_text.specs.Lines.{line_is_before, sum_of}
use Rattle.lines.specs.Left.{left}
use Rattle.certificate.specs.View as view
use Rattle.certificate.proofs.LineSteps.{one_part}
use Rattle.certificate.proofs.item.sum.Goals as goal

pub loop-weight-preserved : goal.loop-weight-preserved
loop-weight-preserved c =
    c.loop-weight.invariant
    ∙ one_part (map view.scaled c.loop-weight.parts.items) (left c.loop-weight.rest) c.in-Some.weight.now c.in-Some-next.line.now (left c.in-Some-next.others) (view.scaled c.in-Some-scaled.part)
    (c.in-Some.ensures ∙ ap (λ ws. c.in-Some.weight.now ∷ ws) c.in-Some-next.ensures) (sym c.in-Some-scaled.ensures)
    (ap (λ ps. follows line_is_before (map view.scaled ps) (view.scaled c.in-Some-scaled.part)) (sym c.as_slice.ensures.value) ∙ sym c.if-not-part_follows.ensures)
    ∙ ap (λ ps. sum_of ps (left c.in-Some-next.others)) (sym (ap (map view.scaled) c.in_ok-push.ensures.items ∙ map_push view.scaled c.loop-weight.parts.items c.in-Some-scaled.part))
