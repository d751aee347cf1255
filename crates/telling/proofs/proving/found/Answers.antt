use Rattle.kernel_reading.specs.Sources.{source}
use Rattle.std.proofs.Common.{◌≡◌, sym, subst}
use Rattle.std.specs.Prelude.{IfSome}
use Rattle.semantics.specs.Conditions.{Meets}
use Rattle.kernel_reading.specs.Answers.{kernel_seen}
use Rattle.kernel_reading.proofs.KernelReads.{told-parameters}
use Rattle.kernel_names.specs.View.{names_seen}
use Rattle.core_code.specs.View.{kernel as core}
use Rattle.launch.specs.Least.{probe}
use Rattle.launch.specs.View.{conditions}
use Rattle.launch_text.specs.View.{lined}
use Rattle.launch_text.proofs.ConditionsFit.{conditions_fit}
use Rattle.cert_check.specs.Refusing.{IsPassedBy}
use Rattle.cert_check.specs.View.{typed_of, kept}
use Rattle.telling.specs.Proving.{proved_lines}
use Rattle.telling.proofs.Meanings.{is_safe}
use Rattle.telling.proofs.ProvingMeanings.{is_proof, fits_and_meets}
use Rattle.telling.proofs.proving.found.Goals as goal

pub returns-in-Ok-lines-clause-proved : goal.returns-in-Ok-lines-clause-proved
returns-in-Ok-lines-clause-proved g c =
    let a = c.in-Ok.verified.accepted in
    let t = typed_of a in
    let k = (source c.args.kernel) in
    let o = c.args.conditions.now in
    let is = c.in-Ok.ensures.verified in
    let text = c.bytes_are_the_text_of_what_is_read.ensures k (kernel_seen t) is.kernel in
    let own = told-parameters k (kernel_seen t) is.kernel in
    let of = conditions_fit c.args.effort.is_wide (core t.1) (names_seen t.0).parameters own.0 own.1 o (lined (kept a)) is.conditions in (
      kernel_seen t,
      kept a,
      record {
        safe = is_safe c.args.effort.is_wide k o t (kept a) text (c.what_is_read_of_conditions_is_their_text.ensures c.args.effort.is_wide (names_seen t.0).parameters o (lined (kept a)) is.conditions) is.headline;
        proof = is_proof c.args.effort.is_wide t (conditions (kept a)) c.in-Ok-text_as.text.items (subst (IsPassedBy c.args.effort.is_wide t (conditions (kept a))) (sym c.in-Ok-text_as.ensures) is.passed);
        least = fits_and_meets (core t.1) (conditions (kept a)) (probe (kept a)) (λ l e. c.a_least_launch_fits.ensures (core t.1) (kept a) l of e)
            (subst (λ x. IfSome (probe x) (Meets (conditions x))) c.conditions.ensures.value c.in-Ok-lines.ensures.least);
        text = subst (λ x. c.in-Ok-lines.written.items ≡ proved_lines (probe x)) c.conditions.ensures.value c.in-Ok-lines.ensures.text;
      },
    )
