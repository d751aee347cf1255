use Rattle.certificate_text.specs.NumberedReading.{certificate_of_two}
use Rattle.certificate_text.specs.Reading.{certificate_of}
use Rattle.certificate.proofs.EntriesGathered.{own_opens}
use Rattle.certificate.proofs.either_reader.open_any.Goals as goal

pub returns-in-Ok : goal.returns-in-Ok
returns-in-Ok c = own_opens c.in-Ok.entries (certificate_of c.args.text.now) (certificate_of_two c.args.text.now) c.in-Ok.ensures
