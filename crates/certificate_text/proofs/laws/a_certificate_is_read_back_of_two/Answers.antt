use Rattle.certificate_text.proofs.NumberedWritten.{certificate_of_two_forth}
use Rattle.certificate_text.proofs.laws.a_certificate_is_read_back_of_two.Goals as goal

pub returns : goal.returns
returns c = certificate_of_two_forth
