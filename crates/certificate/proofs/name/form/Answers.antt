use Rattle.std.proofs.Common.{ap, sym, ◌∙◌, ◌∷◌, ◌&&◌, map}
use Rattle.std.specs.Prelude.{bytes_eq, codes}
use Rattle.std.proofs.lemmas.List.{map_push}
use Rattle.lines.specs.Lines.{follows}
use Rattle.certificate_text.specs.Forms.{term_is_before, form_of}
use Rattle.lines.specs.Left.{left}
use Rattle.certificate.specs.View as view
use Rattle.certificate.proofs.WordSteps.{one_term}
use Rattle.certificate.proofs.name.form.Goals as goal

pub loop-word-preserved : goal.loop-word-preserved
loop-word-preserved c =
    let terms = c.loop-word.terms.items in
    let term = view.term c.in_ok-term.term in
    let sign = c.in-Some-next.sign.now in
    c.loop-word.invariant
    ∙ one_term (map view.term terms) (left c.loop-word.rest) c.in-Some.word.now sign (left c.in-Some-next.others) term
    (c.in-Some.ensures ∙ ap (λ ws. c.in-Some.word.now ∷ ws) c.in-Some-next.ensures) c.in_ok-term.ensures
    (sym (c.in_ok-goes_on.ensures ∙ ap (λ ts. bytes_eq sign (codes "+") && follows term_is_before (map view.term ts) term) c.as_slice.ensures.value) ∙ c.if-not-branch.false)
    ∙ ap (λ ts. form_of ts (left c.in-Some-next.others)) (sym (ap (map view.term) c.in_ok-push.ensures.items ∙ map_push view.term terms c.in_ok-term.term))
