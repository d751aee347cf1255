use Rattle.std.proofs.Common.{map, ap, ◌∙◌}
use Rattle.certificate_text.specs.Lines.{FactItem, CongruenceItem, MultipleItem}
use Rattle.certificate.specs.View as view
use Rattle.certificate.specs.Tables.{table}
use Rattle.certificate.specs.UsedForms.{with_forms}
use Rattle.certificate.proofs.Noting.{place_noted}
use Rattle.certificate.proofs.tabling.note_place.Goals as goal

pub returns : goal.returns
returns c =
    let seen = table c.args.table.now in
    let one = table c.note_facts.new.table in
    let two = table c.note_congruences.new.table in
    place_noted seen one two (table c.note_multiples.new.table) (view.place c.args.place.now)
    (c.in_ok-note_facts.ensures ∙ ap (λ fs. with_forms seen (map FactItem (map view.form fs))) c.as_slice.ensures.value)
    (c.in_ok-note_congruences.ensures ∙ ap (λ cs. with_forms one (map CongruenceItem (map view.congruence cs))) c.as_slice-2.ensures.value)
    (c.in_ok-note_multiples.ensures ∙ ap (λ ms. with_forms two (map MultipleItem (map view.multiple ms))) c.as_slice-3.ensures.value)
