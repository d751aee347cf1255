use Rattle.std.proofs.Common.{subst}
use Rattle.cert_check.specs.Refusing.{RefusesBy}
use Rattle.verify.proofs.Unproved.{searched}
use Rattle.verify.proofs.verifying.unproved.Goals as goal

pub returns-in-Show : goal.returns-in-Show
returns-in-Show c = λ is_wide workers kernel conditions certificate count refused.
    c.unshown.ensures is_wide workers kernel conditions count (searched is_wide c.in-Show.error kernel conditions certificate (subst (λ e. RefusesBy is_wide e kernel conditions certificate) c.in-Show.is refused))
