use Rattle.std.proofs.Common.{subst}
use Rattle.std.specs.String.{string_bytes}
use Rattle.telling.specs.ProvingVerdicts.{Proves}
use Rattle.telling.proofs.ProvingMeanings.{explains}
use Rattle.telling.proofs.explained.unfound.Goals as goal

pub returns-in-Refused : goal.returns-in-Refused
returns-in-Refused c = λ is_wide kernel conditions h.
    explains is_wide kernel conditions (string_bytes c.in-Refused.told) c.going_on.result
    (subst (λ s. Proves is_wide s 1 kernel conditions) c.in-Refused.is (c.unproved.ensures is_wide 1 kernel conditions h)) c.going_on.ensures
