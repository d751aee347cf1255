use Rattle.std.proofs.Common.{◌≡◌}
use Rattle.linear.specs.Forms.{form}
use Rattle.linear.specs.Products.{unpacked, replaced_factors, replaced_product}
use Rattle.path_steps.specs.View.{followed}
use Rattle.obligations.specs.Walking.{on_path}
use Rattle.arrival_claims.specs.View.{placed}
use Rattle.arrival_claims.proofs.factors.factors_form.Given as goal

abbrev pub invariant-loop-most : goal.invariant-loop-most
invariant-loop-most g l = replaced_factors (on_path (placed g.D.Domain l.placing) (followed l.path).state) (form l.so_far) (unpacked l.most l.left) ≡ replaced_product (on_path (placed g.D.Domain l.placing) (followed l.path).state) (unpacked 3 l.number)

abbrev pub decreases-loop-most : goal.decreases-loop-most
decreases-loop-most g l = l.most
