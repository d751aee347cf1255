use Rattle.parser.proofs.Truth.{parsed-truly}
use Rattle.parser.proofs.laws.what_is_refused_has_no_kernel.Goals as goal

pub returns : goal.returns
returns c = parsed-truly
