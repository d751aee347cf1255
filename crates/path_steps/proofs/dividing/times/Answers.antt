use Rattle.std.proofs.Common.{rules, SFits, w64}
use Rattle.std.proofs.lemmas.Int.{to_z-of_z}
use Rattle.linear.specs.Exact.{multiple}
use Rattle.linear.specs.Forms.{form}
use Rattle.linear.proofs.Lists.{fits_signed}
use Rattle.facts.specs.View.{error_of_form}
use Rattle.facts.proofs.Unmade.{memory_of, handed}
use Rattle.path_steps.proofs.Quotients.{small_times}
use Rattle.path_steps.proofs.dividing.times.Goals as goal

pub returns-in_err-form : goal.returns-in_err-form
returns-in_err-form c =
    let z : SFits w64 c.args.number = search rules in
    let l = small_times c.args.number (form c.args.of.now) c.requires.above (fits_signed c.args.number z) c.requires.small in
    let k = memory_of c.times.result c.in_err-form.field-0.0 (multiple c.args.number (form c.args.of.now)) c.in_err-form.was (simp to_z-of_z at c.times.ensures.too_large) l in
    handed c.from_residual.result (error_of_form c.in_err-form.field-0.0) _ _ c.from_residual.ensures k
