use Rattle.plain_kernels.proofs.Plainly.{plain-range}
use Rattle.plain_kernels.proofs.laws.ranges_of_plain_kernels_are_settled.Goals as goal

pub returns : goal.returns
returns c = λ k d n i o l p m e s a. plain-range k d n l p i o m e s a
