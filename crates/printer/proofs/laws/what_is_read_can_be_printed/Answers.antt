use Rattle.printer.proofs.ReadBack.{read-printable, read-numbered, read-opens}
use Rattle.printer.proofs.laws.what_is_read_can_be_printed.Goals as goal

pub returns : goal.returns
returns c = λ s k h. (read-printable s k h, read-numbered s k h, read-opens s k h)
