use Rattle.plain_kernels.proofs.Plainly.{plain-fits}
use Rattle.plain_kernels.proofs.laws.forms_of_plain_kernels_fit.Goals as goal

pub returns : goal.returns
returns c = plain-fits
