use Rattle.std.proofs.Common.{◌≡◌, subst, arith}
use Rattle.std.proofs.lemmas.Grind.{common_steps}
use Rattle.places.specs.Reaching.{no_exits}
use Rattle.places.specs.View.{lists}
use Rattle.places.proofs.Framing.{out_is}
use Rattle.places.proofs.exits.frame_out.Goals as goal

pub returns : goal.returns
returns c = subst (λ x. lists c.loop-frame.found ≡ x) (out_is c.args.frames.now no_exits c.args.number) (grind (arith, common_steps))
