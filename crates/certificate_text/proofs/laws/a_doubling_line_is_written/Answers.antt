use Rattle.certificate_text.proofs.NumberedSteps.{doubling_numbered}
use Rattle.certificate_text.proofs.laws.a_doubling_line_is_written.Goals as goal

pub returns : goal.returns
returns c = doubling_numbered
