use Rattle.std.specs.Prelude.{pos, negsuc}
use Rattle.std.proofs.Common.{◌≡◌, true, refl}
use Rattle.linear.specs.Exact.{multiple}
use Rattle.linear.specs.Forms.{form}
use Rattle.facts.specs.Symbols.{constant, minus}
use Rattle.facts.proofs.Unmade.{matched_some}
use Rattle.walk_trees.specs.Joined.{are_joined}
use Rattle.path_steps.specs.View.{followed, setting as seen}
use Rattle.path_steps.proofs.Testing.{joined_ways, parted_ways, matched_none}
use Rattle.path_steps.proofs.tests.split_number.Goals as goal

pub returns-in-Some : goal.returns-in-Some
returns-in-Some g c =
    let f = form c.args.form.now in
    let d = matched_some _ c.in-Some.negation _ (λ x. (are_joined (seen g.D.Domain c.args.setting.now) (pos 1) f (multiple (negsuc 0) f) (followed c.args.path.now).state ≡ true) × (form x ≡ multiple (negsuc 0) f)) c.in-Some.is c.in_ok-negation.ensures in
    joined_ways (seen g.D.Domain c.args.setting.now) f (multiple (negsuc 0) f) (minus f (constant (pos 1))) (minus (constant (negsuc 0)) f) f (form c.in-Some.negation) _ (followed c.args.path.now) (followed c.split_from_zero.new.path) c.split_from_zero.result d.0 refl d.1 c.split_from_zero.ensures

pub returns-in-None : goal.returns-in-None
returns-in-None g c =
    let f = form c.args.form.now in
    parted_ways (seen g.D.Domain c.args.setting.now) f (multiple (negsuc 0) f) (minus f (constant (pos 1))) (minus (constant (negsuc 0)) f) _ (followed c.args.path.now) (followed c.split_sign.new.path) c.split_sign.result (matched_none _ _ _ c.in-None.is c.in_ok-negation.ensures) c.split_sign.ensures
