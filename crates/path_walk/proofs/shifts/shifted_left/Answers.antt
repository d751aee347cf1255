use Rattle.std.proofs.Common.{ap, ◌∙◌, ◌^◌, rules, SFits, w64}
use Rattle.std.specs.Prelude.{pos}
use Rattle.std.proofs.lemmas.Int.{to_z-of_z}
use Rattle.linear.specs.Forms.{form}
use Rattle.words.specs.View.{kind}
use Rattle.facts.specs.Symbols.{constant}
use Rattle.path_steps.specs.View.{followed, value, setting as seen}
use Rattle.path_walk.proofs.Operating.{by_number}
use Rattle.path_walk.proofs.shifts.shifted_left.Goals as goal

pub returns : goal.returns
returns g c =
    let z : SFits w64 c.power_of.result = search rules in
    by_number (seen g.D.Domain c.args.setting.now) (kind c.args.kind) (form c.args.of.now) (form c.constant-factor.result) (pos (2 ^ c.args.count)) (followed c.args.path.now) (followed c.ranged_product.new.path) value c.ranged_product.result (c.constant-factor.ensures ∙ ap constant (to_z-of_z w64 c.power_of.result z ∙ c.power_of.ensures.exact)) c.ranged_product.ensures
