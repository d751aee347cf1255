use Rattle.certificate_text.proofs.Written.{certificate_forth}
use Rattle.certificate_text.proofs.laws.a_certificate_is_read_back.Goals as goal

pub returns : goal.returns
returns c = certificate_forth
