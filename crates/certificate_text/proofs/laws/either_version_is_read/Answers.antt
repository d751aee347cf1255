use Rattle.certificate_text.proofs.EitherVersion.{in_one, in_two, same_in_either}
use Rattle.certificate_text.proofs.laws.either_version_is_read.Goals as goal

pub returns-clause-one : goal.returns-clause-one
returns-clause-one c = in_one

pub returns-clause-two : goal.returns-clause-two
returns-clause-two c = in_two

pub returns-clause-same : goal.returns-clause-same
returns-clause-same c = same_in_either
