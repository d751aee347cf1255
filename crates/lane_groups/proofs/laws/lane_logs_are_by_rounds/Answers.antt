use Rattle.std.proofs.Common.{ap}
use Rattle.std.proofs.Math.Logic.{∥∥₁_elim}
use Rattle.std.specs.Coded.{Coded-set, coded_ℤ, coded_option}
use Rattle.std.specs.Prelude.{None}
use Rattle.semantics.specs.Rounds.{log_of}
use Rattle.lane_groups.proofs.laws.lane_logs_are_by_rounds.Goals as goal

pub returns : goal.returns
returns c = λ cs s plain bound g array index full inside fits orderly safe kept.
    ∥∥₁_elim orderly (Coded-set (coded_option coded_ℤ) _ _)
    (λ o. ap (λ xs. log_of xs (record { owner = 0; array = array; index = index }) None) (c.lane_code_is_by_rounds.ensures cs s plain bound g o.low o.high full inside fits o.numbered o.within safe kept))
