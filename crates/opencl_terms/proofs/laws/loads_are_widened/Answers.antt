use Rattle.opencl_terms.proofs.Narrow.{loads, asks, fails}
use Rattle.opencl_terms.proofs.laws.loads_are_widened.Goals as goal

pub returns-clause-gives : goal.returns-clause-gives
returns-clause-gives c = λ s i now of site e vars answers rest v n h. loads s i now vars of site e answers rest v n h

pub returns-clause-asks : goal.returns-clause-asks
returns-clause-asks c = λ s i now of site e vars answers a k at n h. asks s i now vars of site e answers a k at n h

pub returns-clause-fails : goal.returns-clause-fails
returns-clause-fails c = λ s i now of site e vars answers f at n h. fails s i now vars of site e answers f at n h
