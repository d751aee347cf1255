use Rattle.plain_kernels.proofs.Plainly.{plain-path}
use Rattle.plain_kernels.proofs.laws.plain_kernels_have_no_fork.Goals as goal

pub returns : goal.returns
returns c = λ k d n l p. (plain-path k d n l p).1
