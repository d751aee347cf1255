use Rattle.certificate_text.specs.NumberedReading.{certificate_of_four}
use Rattle.certificate_text.specs.Versions.{certificate_in}
use Rattle.certificate.proofs.EntriesGathered.{own_opens}
use Rattle.certificate.proofs.either_reader.open_wide.Goals as goal

pub returns-in-Ok : goal.returns-in-Ok
returns-in-Ok c = own_opens c.in-Ok.entries (certificate_in c.args.text.now) (certificate_of_four c.args.text.now) c.in-Ok.ensures
