use Rattle.std.proofs.Common.{ap}
use Rattle.certificate_text.specs.Migrated.{written}
use Rattle.certificate_text.proofs.Migration.{migrated_back}
use Rattle.certificate_text.proofs.laws.a_text_is_migrated.Goals as goal

pub returns-clause-certificate : goal.returns-clause-certificate
returns-clause-certificate c = λ text made e. ap written e

pub returns-clause-fault : goal.returns-clause-fault
returns-clause-fault c = λ text f e. ap written e

pub returns-clause-same : goal.returns-clause-same
returns-clause-same c = migrated_back
