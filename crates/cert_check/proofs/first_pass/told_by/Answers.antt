use Rattle.std.proofs.Common.{◌∙◌, map}
use Rattle.certificate.specs.EntryCursors.{front}
use Rattle.places.specs.View.{place}
use Rattle.cert_check.proofs.first_pass.told_by.Goals as goal

pub returns-clause-notes : goal.returns-clause-notes
returns-clause-notes c = c.notes.ensures.all ∙ c.in_ok-go_over.ensures.notes (map place c.args.places.now) (front c.args.entries.now) c.in_ok-gathering.ensures.notes
