use Rattle.launch.specs.View.{conditions}
use Rattle.cert_check.proofs.checking.accept.Goals as goal

pub returns-in-Err-clause-stopped : goal.returns-in-Err-clause-stopped
returns-in-Err-clause-stopped c = c.unplaced.ensures c.args.is_wide (conditions c.args.conditions.now) c.args.certificate.now
