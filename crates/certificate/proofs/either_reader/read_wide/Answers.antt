use Rattle.std.proofs.Common.{◌∙◌}
use Rattle.certificate_text.specs.Versions.{certificate_any}
use Rattle.certificate.proofs.EntriesGathered.{says_as}
use Rattle.certificate.proofs.Readable.{any_good}
use Rattle.certificate.proofs.either_reader.read_wide.Goals as goal

pub gather-requires-clause-proper : goal.gather-requires-clause-proper
gather-requires-clause-proper c = λ k e. any_good c.args.text.now k (c.in-Ok.ensures.0 ∙ e)

pub returns-in-Ok : goal.returns-in-Ok
returns-in-Ok c = says_as c.gather.result _ (certificate_any c.args.text.now) c.gather.ensures c.in-Ok.ensures.0
