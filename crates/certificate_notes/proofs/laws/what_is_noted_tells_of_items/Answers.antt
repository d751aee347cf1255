use Rattle.certificate_notes.proofs.Tells.{notes-tell, told}
use Rattle.certificate_notes.proofs.laws.what_is_noted_tells_of_items.Goals as goal

pub returns : goal.returns
returns c = λ k tree ps cert m entries e. notes-tell m entries (told k tree ps cert m e)
