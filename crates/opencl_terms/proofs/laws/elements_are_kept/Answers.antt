use Rattle.opencl_terms.proofs.Narrow.{kept-again, same, inside}
use Rattle.opencl_terms.proofs.laws.elements_are_kept.Goals as goal

pub returns-clause-back : goal.returns-clause-back
returns-clause-back c = kept-again

pub returns-clause-same : goal.returns-clause-same
returns-clause-same c = same

pub returns-clause-inside : goal.returns-clause-inside
returns-clause-inside c = inside
