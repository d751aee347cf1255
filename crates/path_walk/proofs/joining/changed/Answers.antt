use Rattle.std.proofs.Common.{rules, ◌∙◌, subst, SFits, w64}
use Rattle.std.proofs.lemmas.Int.{to_z-of_z}
use Rattle.linear.specs.Exact.{sum}
use Rattle.linear.specs.Forms.{form}
use Rattle.linear.proofs.FormLists.{form-fits}
use Rattle.facts.specs.Symbols.{constant}
use Rattle.facts.specs.Refusals.{IsUnfit}
use Rattle.facts.proofs.Unmade.{handed}
use Rattle.path_walk.proofs.BitSteps.{unfit_changed}
use Rattle.path_walk.proofs.joining.changed.Goals as goal

pub returns-in_err-more : goal.returns-in_err-more
returns-in_err-more c =
    let z : SFits w64 c.power_of.result = search rules in
    let e = c.in_err-more.field-0.0 in
    let h = subst (λ n. IsUnfit e (sum (form c.args.of.now) (constant n))) (to_z-of_z w64 c.power_of.result z ∙ c.power_of.ensures.exact) c.in_err-more.ensures in
    handed c.from_residual.result e _ _ c.from_residual.ensures (unfit_changed (form c.args.of.now) (form c.args.bit.now) c.args.lowest c.args.number e (form-fits c.args.of.now) c.requires.bare h)
