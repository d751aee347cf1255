use Rattle.std.proofs.Common.{rules, SFits, w64}
use Rattle.std.proofs.lemmas.Int.{to_z-of_z}
use Rattle.linear.specs.Forms.{form}
use Rattle.words.specs.View.{kind}
use Rattle.facts.proofs.Unmade.{handed}
use Rattle.walk_trees.specs.Quotients.{quotient}
use Rattle.path_steps.specs.View.{followed, setting as seen}
use Rattle.path_walk.proofs.Operating.{first_leads, first_stops}
use Rattle.path_walk.proofs.dividing.quotient_alone.Goals as goal

pub returns : goal.returns
returns g c =
    let z : SFits w64 c.args.number = search rules in
    let h = simp to_z-of_z at c.in_ok-parts.ensures in
    first_leads (quotient (seen g.D.Domain c.args.setting.now) (kind c.args.kind) (form c.args.of.now) c.args.number) (form c.in_ok-parts.parts.0) (form c.in_ok-parts.parts.1) (followed c.args.path.now) (followed c.quotient.new.path) h

pub returns-in_err-parts : goal.returns-in_err-parts
returns-in_err-parts g c =
    let z : SFits w64 c.args.number = search rules in
    let h = simp to_z-of_z at c.in_err-parts.ensures in
    let k = first_stops (quotient (seen g.D.Domain c.args.setting.now) (kind c.args.kind) (form c.args.of.now) c.args.number) (followed c.args.path.now) c.in_err-parts.field-0.0 h in
    handed c.from_residual.result c.in_err-parts.field-0.0 _ _ c.from_residual.ensures k
