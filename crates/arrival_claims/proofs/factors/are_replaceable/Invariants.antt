use Rattle.std.proofs.Common.{◌≡◌, drop}
use Rattle.linear.specs.Terms.{terms}
use Rattle.path_steps.specs.View.{followed}
use Rattle.obligations.specs.Replacing.{are_replaceable}
use Rattle.obligations.specs.Walking.{on_path}
use Rattle.arrival_claims.specs.View.{placed}
use Rattle.arrival_claims.proofs.factors.are_replaceable.Given as goal

abbrev pub invariant-loop-term : goal.invariant-loop-term
invariant-loop-term g l = are_replaceable (on_path (placed g.D.Domain l.placing) (followed l.path).state) (terms (drop l.term-index l.terms)) ≡ are_replaceable (on_path (placed g.D.Domain l.placing) (followed l.path).state) (terms l.terms)
