use Rattle.opencl_terms.proofs.Narrow.{stores}
use Rattle.opencl_terms.proofs.laws.stores_are_narrowed.Goals as goal

pub returns : goal.returns
returns c = λ s i now of site e vars answers rest v n h. stores s i now vars of site e answers rest v n h
