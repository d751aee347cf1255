use Rattle.std.proofs.Common.{ap, sym, ◌∙◌}
use Rattle.certificate.specs.View.{entry}
use Rattle.certificate_notes.specs.Gathered.{and_entry}
use Rattle.certificate_notes.specs.NamesView.{names}
use Rattle.certificate_notes.proofs.OneMore.{noted_more}
use Rattle.certificate_notes.proofs.gathering.Gathering.add.Goals as goal

pub returns : goal.returns
returns c = λ ps cert es h.
    let n = names c.args.names.now in
    let e = entry c.args.entry.now in
    c.in_ok-take.ensures ∙ ap (and_entry n e) h ∙ sym (noted_more n ps cert es e)
