use Rattle.plain_kernels.proofs.Plainly.{plain-met, lone, plain-trees, plain-path}
use Rattle.plain_kernels.proofs.laws.plain_kernels_have_one_place.Goals as goal

pub returns-clause-met : goal.returns-clause-met
returns-clause-met c = plain-met

pub returns-clause-one_tree : goal.returns-clause-one_tree
returns-clause-one_tree c = λ k d n l p. (lone k d n l p, plain-trees k d n l p, (plain-path k d n l p).0)
