use Rattle.std.proofs.Common.{rules, SFits, w64}
use Rattle.std.proofs.lemmas.Int.{to_z-of_z}
use Rattle.linear.specs.Forms.{form}
use Rattle.words.specs.View.{kind}
use Rattle.walk_trees.specs.Bits.{bits_from}
use Rattle.path_steps.specs.View.{followed, setting as seen}
use Rattle.path_walk.specs.BitSteps.{run_above}
use Rattle.path_walk.proofs.BitSteps.{turn_says}
use Rattle.path_walk.proofs.meeting.in_run.Goals as goal

pub returns : goal.returns
returns g c =
    let s = seen g.D.Domain c.args.setting.now in
    let k = kind c.args.kind in
    let n : SFits w64 c.args.number = search rules in
    let h = simp to_z-of_z at c.run_above.ensures in
    turn_says (λ st go. bits_from s k (form c.args.of.now) c.args.lowest st go) (λ q. run_above s k q c.args.lowest c.args.number) (form c.in_ok-above.above) (followed c.args.path.now) (followed c.upper_bits.new.path) (followed c.run_above.new.path) form c.run_above.result c.in_ok-above.ensures.leads h
