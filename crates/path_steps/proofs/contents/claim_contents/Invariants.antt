use Rattle.linear.specs.Forms.{form}
use Rattle.path_steps.specs.View.{followed, setting as seen}
use Rattle.path_steps.proofs.Each.{Follows}
use Rattle.path_steps.proofs.Lines.{all_claimed}
use Rattle.path_steps.proofs.contents.claim_contents.Given as goal

abbrev pub invariant-loop-bound : goal.invariant-loop-bound
invariant-loop-bound g l = Follows (all_claimed (seen g.D.Domain l.setting) l.buffer (form l.form)) l.setting.contents.items (followed l.initial.path) (followed l.path) l.bound-index
