use Rattle.std.proofs.Common.{◌≡◌, drop}
use Rattle.two_thread.specs.Fitting.{claims_fit}
use Rattle.two_thread.specs.View.{met_claims}
use Rattle.two_thread.proofs.claims.try_denials.Given as goal

abbrev pub invariant-loop-i : goal.invariant-loop-i
invariant-loop-i g l = claims_fit (drop l.i (met_claims l.met)) ≡ claims_fit (met_claims l.met)
