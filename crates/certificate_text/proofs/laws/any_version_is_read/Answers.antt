use Rattle.certificate_text.proofs.EitherVersion.{one_in_any, two_in_any, four_in_any, in_any, fault_in_any, other_in_any}
use Rattle.certificate_text.proofs.laws.any_version_is_read.Goals as goal

pub returns-clause-one : goal.returns-clause-one
returns-clause-one c = one_in_any

pub returns-clause-two : goal.returns-clause-two
returns-clause-two c = two_in_any

pub returns-clause-four : goal.returns-clause-four
returns-clause-four c = four_in_any

pub returns-clause-narrow : goal.returns-clause-narrow
returns-clause-narrow c = in_any

pub returns-clause-fault : goal.returns-clause-fault
returns-clause-fault c = fault_in_any

pub returns-clause-other : goal.returns-clause-other
returns-clause-other c = other_in_any
