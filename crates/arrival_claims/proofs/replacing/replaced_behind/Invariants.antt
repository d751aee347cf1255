use Rattle.std.proofs.Common.{◌≡◌, ◌++◌, drop}
use Rattle.linear.specs.Forms.{form, forms}
use Rattle.linear.specs.Terms.{terms}
use Rattle.path_steps.specs.View.{followed}
use Rattle.obligations.specs.Replacing.{replaced, replaced_from, made, made_from}
use Rattle.obligations.specs.Walking.{on_path}
use Rattle.arrival_claims.specs.View.{placed}
use Rattle.arrival_claims.proofs.replacing.replaced_behind.Given as goal

abbrev pub invariant-loop-term : goal.invariant-loop-term
invariant-loop-term g l = record {
  made : forms l.made.items ++ made_from (on_path (placed g.D.Domain l.placing) (followed l.path).state) (form l.so_far) (terms (drop l.term-index l.term-items)) ≡ forms l.fn.before.items ++ made (on_path (placed g.D.Domain l.placing) (followed l.path).state) (form l.form);
  same : replaced_from (on_path (placed g.D.Domain l.placing) (followed l.path).state) (form l.so_far) (terms (drop l.term-index l.term-items)) ≡ replaced (on_path (placed g.D.Domain l.placing) (followed l.path).state) (form l.form);
}
