use Rattle.certificate_text.proofs.NumberedRead.{certificate_of_four_back}
use Rattle.certificate_text.proofs.laws.a_text_of_four_is_written_back.Goals as goal

pub returns : goal.returns
returns c = certificate_of_four_back
