use Rattle.certificate_text.proofs.NumberedWritten.{certificate_of_four_forth}
use Rattle.certificate_text.proofs.laws.a_certificate_is_read_back_of_four.Goals as goal

pub returns : goal.returns
returns c = certificate_of_four_forth
