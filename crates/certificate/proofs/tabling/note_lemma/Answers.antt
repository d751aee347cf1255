use Rattle.std.proofs.Common.{sym, ◌∙◌}
use Rattle.certificate.specs.View as view
use Rattle.certificate.specs.Tables.{table}
use Rattle.certificate.proofs.Noting.{lemma_noted}
use Rattle.certificate.proofs.tabling.note_lemma.Goals as goal

pub returns : goal.returns
returns c = c.in_ok-note.ensures ∙ sym (lemma_noted (table c.args.table.now) (view.lemma c.args.lemma.now))
