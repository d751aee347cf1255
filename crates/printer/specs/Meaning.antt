-- What it is for two kernels to mean the same at a launch.
use Rattle.std.specs.Prelude.{◌≡◌, ℕ}
use Rattle.semantics.specs.Headline.{Headline}
use Rattle.semantics.specs.Launch.{Kernel, Launch, Fits}
use Rattle.semantics.specs.Rounds.{IsDefined, result_by_rounds}
use Rattle.semantics.specs.Setup.{at_launch}

-- the launch is one of both or of neither; both have the headline there within the budget, or neither has; so it is with a result that is
-- defined, and the results are the same
pub record MeansTheSame (k l : Kernel) (given : Launch) (bound : ℕ) : Type 0 where
  pub fits : Fits k given → Fits l given
  pub fits_back : Fits l given → Fits k given
  pub headline : Headline (at_launch k given) bound → Headline (at_launch l given) bound
  pub headline_back : Headline (at_launch l given) bound → Headline (at_launch k given) bound
  pub defined : IsDefined (at_launch k given) bound → IsDefined (at_launch l given) bound
  pub defined_back : IsDefined (at_launch l given) bound → IsDefined (at_launch k given) bound
  pub result : result_by_rounds (at_launch k given) bound ≡ result_by_rounds (at_launch l given) bound
