use Rattle.printer.proofs.BareHeadline.{result-alike}
use Rattle.printer.proofs.laws.the_result_heeds_no_position.Goals as goal

pub returns : goal.returns
returns c = result-alike
