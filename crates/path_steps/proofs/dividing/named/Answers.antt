use Rattle.std.proofs.Common.{rules, SFits, w64}
use Rattle.std.proofs.lemmas.Int.{to_z-of_z}
use Rattle.linear.specs.Forms.{form}
use Rattle.path_steps.specs.View.{followed, setting as seen}
use Rattle.path_steps.proofs.Quotients.{named_as}
use Rattle.path_steps.proofs.dividing.named.Goals as goal

pub returns-clause-leads : goal.returns-clause-leads
returns-clause-leads g c =
    let z : SFits w64 c.args.number = search rules in
    let element = simp to_z-of_z at c.up_to.ensures in
    named_as (seen g.D.Domain c.args.setting.now) c.args.number (form c.args.left.now) c.up_to.result (followed c.args.path.now) (followed c.named_by.new.path) c.named_by.result element c.named_by.ensures.leads
