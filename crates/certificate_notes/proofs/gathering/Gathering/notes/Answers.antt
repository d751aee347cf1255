use Rattle.certificate_notes.specs.Noted.{noted}
use Rattle.certificate_notes.proofs.Agreeing.{noted-agrees, noted-tells}
use Rattle.certificate_notes.proofs.Tells.{notes-tell, told}
use Rattle.certificate_notes.proofs.gathering.Gathering.notes.Goals as goal

pub returns-clause-notes : goal.returns-clause-notes
returns-clause-notes c = λ k tree ps cert h. noted-agrees c.args.self.notes (noted k tree ps cert) h

pub returns-clause-items : goal.returns-clause-items
returns-clause-items c = λ k tree ps cert h. noted-tells c.args.self.notes (noted k tree ps cert) h (λ m e entries. notes-tell m entries (told k tree ps cert m e))
