use Rattle.std.proofs.Common.{[], map, ap, ◌∙◌}
use Rattle.certificate_text.specs.Drafts.{certificate_with}
use Rattle.certificate.specs.Certificates.{certificate}
use Rattle.certificate.specs.View as view
use Rattle.places.specs.View.{place}
use Rattle.certificate_notes.specs.NamesView.{names}
use Rattle.certificate_notes.specs.Noted.{noted_by}
use Rattle.certificate_notes.proofs.OneMore.{rejoined}
use Rattle.certificate_notes.proofs.noting.noted_by.Goals as goal

pub returns : goal.returns
returns c =
    let n = names c.args.names.now in
    let ps = map place c.args.kernel_places.now in
    let cert = certificate c.args.certificate.now in
    let pls = map view.place c.places.result.now in
    let bs = map view.bound c.bounds.result.now in
    let es = map view.entry c.entries.result.now in
    let before = certificate_with c.is_wide.result c.joins.result pls bs [] in
    c.notes.ensures.all ∙ c.in_ok-add_all.ensures ps before c.in_ok-gathering.ensures
    ∙ ap (noted_by n ps) (rejoined cert c.is_wide.result c.joins.result pls bs es c.is_wide.ensures c.joins.ensures c.places.ensures c.bounds.ensures c.entries.ensures)
