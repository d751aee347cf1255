use Rattle.printer.proofs.BareHeadline.{headline-alike}
use Rattle.printer.proofs.laws.the_headline_heeds_no_position.Goals as goal

pub returns : goal.returns
returns c = headline-alike
