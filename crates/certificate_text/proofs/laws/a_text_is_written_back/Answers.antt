use Rattle.certificate_text.proofs.Read.{certificate_back}
use Rattle.certificate_text.proofs.laws.a_text_is_written_back.Goals as goal

pub returns : goal.returns
returns c = certificate_back
