use Rattle.std.proofs.Common.{◌≡◌, subst, arith}
use Rattle.std.proofs.lemmas.Grind.{common_steps}
use Rattle.places.specs.Reaching.{no_exits}
use Rattle.places.specs.View.{lists}
use Rattle.places.proofs.Framing.{back_is}
use Rattle.places.proofs.exits.frame_back.Goals as goal

pub returns : goal.returns
returns c = subst (λ x. lists c.loop-frame.found ≡ x) (back_is c.args.frames.now no_exits c.args.number) (grind (arith, common_steps))
