use Rattle.launch_text.proofs.LeastFits.{least_fits}
use Rattle.launch_text.proofs.laws.a_least_launch_fits.Goals as goal

pub returns : goal.returns
returns c = least_fits
