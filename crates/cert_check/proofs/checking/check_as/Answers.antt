use Rattle.std.proofs.Common.{rules, arith, false, refl, ap, sym, ◌∙◌, subst}
use Rattle.std.proofs.lemmas.Int.{ints}
use Rattle.core_code.specs.View.{kernel}
use Rattle.kernel_names.specs.View.{names_seen}
use Rattle.launch_text.specs.Answers as launches
use Rattle.semantics.specs.Conditions.{Conditions}
use Rattle.launch.specs.View.{conditions}
use Rattle.launch_text.specs.View.{lined}
use Rattle.launch_text.proofs.LeastFits.{conditions_meant}
use Rattle.launch_text.specs.ConditionsReading.{meant}
use Rattle.kernel_reading.specs.Answers.{kernel_seen}
use Rattle.kernel_reading.specs.Sources.{source}
use Rattle.plain_kernels.specs.Kernels.{HasLimits}
use Rattle.cert_check.specs.Accepting.{IsAcceptedWithin}
use Rattle.cert_check.specs.Checked.{StopsBy}
use Rattle.cert_check.specs.Refusing.{IsPassedBy}
use Rattle.cert_check.specs.View.{typed_of, kept}
use Rattle.cert_check.proofs.Alike.{conditions_alike, passed_alike, refused_alike, narrow_alike, migrated_alike}
use Rattle.cert_check.proofs.Headlines.{accepted_within, has_headline, accepted_by}
use Rattle.cert_check.proofs.Lineless.{no_contents}
use Rattle.cert_check.proofs.Plainly.{stops_plain}
use Rattle.cert_check.proofs.Sizes.{has_items, sizes_fit}
use Rattle.cert_check.proofs.Stopped.{refused}
use Rattle.cert_check.proofs.checking.check_as.Goals as goal

pub accept-requires : goal.accept-requires
accept-requires c = sizes_fit (kernel c.in-Ok.typed.1) (c.local_sizes_are_within_limits.ensures (source c.args.kernel) (kernel_seen c.in-Ok.typed) c.in-Ok.ensures)

pub of-requires-clause-promise : goal.of-requires-clause-promise
of-requires-clause-promise c =
    let k = kernel_seen c.in-Ok.typed in
    let cond = c.in-Ok-read_conditions_as.conditions in
    let a = c.in-Ok-accept.ensures.shown in
    let read = c.in-Ok.ensures in
    accepted_within k.core (conditions cond) c.without_lines_all_runs_are_honest.ensures.pair_safe (has_items k.core (c.local_sizes_are_within_limits.ensures (source c.args.kernel) k read))
    (λ l f m. c.what_is_read_and_shown_is_pair_safe_within.ensures (source c.args.kernel) k (conditions cond) a.0 l cond.budget read c.in-Ok-accept.ensures.passed.0 a.1.0 a.1.1 a.1.2 a.1.3 f m)

pub of-requires-clause-parameters : goal.of-requires-clause-parameters
of-requires-clause-parameters c = record { arguments = c.in-Ok-read_conditions_as.ensures.fit.arguments; buffers = c.in-Ok-read_conditions_as.ensures.fit.lengths }

pub of-requires-clause-proper : goal.of-requires-clause-proper
of-requires-clause-proper c = c.what_is_read_is_proper.ensures (source c.args.kernel) (kernel_seen c.in-Ok.typed) c.in-Ok.ensures

pub returns-clause-pair : goal.returns-clause-pair
returns-clause-pair c =
    let k = kernel (typed_of c.of.result).1 in
    let cond = c.in-Ok-read_conditions_as.conditions in
    let a : IsAcceptedWithin k (conditions (kept c.of.result)) = search rules in
    accepted_by c.args.is_wide k (conditions (kept c.of.result)) (λ narrow. ap (λ x. (conditions x).contents) c.of.ensures.conditions ∙ ap (λ (m : Conditions). m.contents) (sym (conditions_meant cond)) ∙ no_contents c.args.is_wide (names_seen c.in-Ok.typed.0).parameters c.args.conditions.now (lined cond) c.in-Ok-read_conditions_as.ensures.value narrow) a

pub returns-clause-headline : goal.returns-clause-headline
returns-clause-headline c =
    let a : IsAcceptedWithin (kernel (typed_of c.of.result).1) (conditions (kept c.of.result)) = search rules in
    has_headline (kernel (typed_of c.of.result).1) (conditions (kept c.of.result)) c.pair_safe_within_on_devices.ensures.headline c.launches_begin_kept.ensures a

pub returns-clause-passed : goal.returns-clause-passed
returns-clause-passed c =
    subst
    (λ t. IsPassedBy c.args.is_wide t (conditions (kept c.of.result)) c.args.certificate.now)
    (sym c.of.ensures.typed)
    (subst (λ x. IsPassedBy c.args.is_wide c.in-Ok.typed (conditions x) c.args.certificate.now) (sym c.of.ensures.conditions) c.in-Ok-accept.ensures.passed)

pub returns-in-Err-accept-clause-refused : goal.returns-in-Err-accept-clause-refused
returns-in-Err-accept-clause-refused c =
    let cond = c.in-Ok-read_conditions_as.conditions in
    let e = c.in-Err-accept.error in
    let s = subst (λ x. StopsBy c.args.is_wide c.in-Ok.typed x c.args.certificate.now e) (sym (conditions_meant cond)) c.in-Err-accept.ensures.stopped in
    refused c.args.is_wide c.in-Ok.typed (lined cond) (source c.args.kernel) c.args.conditions.now c.args.certificate.now (c.in-Ok.ensures, c.in-Ok-read_conditions_as.ensures.value) e s

pub returns-in-Err-accept-clause-plain : goal.returns-in-Err-accept-clause-plain
returns-in-Err-accept-clause-plain c =
    let cond = c.in-Ok-read_conditions_as.conditions in
    let e = c.in-Err-accept.error in
    let s = subst (λ x. StopsBy c.args.is_wide c.in-Ok.typed x c.args.certificate.now e) (sym (conditions_meant cond)) c.in-Err-accept.ensures.stopped in
    let z = c.local_sizes_are_within_limits.ensures (source c.args.kernel) (kernel_seen c.in-Ok.typed) c.in-Ok.ensures in
    let x = cond.groups.x in
    let limits : HasLimits (kernel c.in-Ok.typed.1) (meant (lined cond)) = record { size_x = z.0; size_y = z.1; size_z = z.2; groups_x = (omega (arith, ints, x.some, x.order), omega (arith, ints, x.most)) } in
    stops_plain
    (record { met = c.plain_kernels_have_one_place.ensures.met; one_tree = c.plain_kernels_have_one_place.ensures.one_tree; fit = c.forms_of_plain_kernels_fit.ensures; ranges = c.ranges_of_plain_kernels_are_settled.ensures })
    c.args.is_wide
    c.in-Ok.typed
    (lined cond)
    (source c.args.kernel)
    c.args.conditions.now
    c.args.certificate.now
    limits
    (c.in-Ok.ensures, c.in-Ok-read_conditions_as.ensures.value)
    e
    s

pub of-requires-clause-orderly : goal.of-requires-clause-orderly
of-requires-clause-orderly c = ∣ c.what_is_read_is_orderly.ensures (source c.args.kernel) (kernel_seen c.in-Ok.typed) c.in-Ok.ensures ∣₁

pub returns-in-Err-accept-clause-two : goal.returns-in-Err-accept-clause-two
returns-in-Err-accept-clause-two c = λ two alike.
    let cond = c.in-Ok-read_conditions_as.conditions in
    let e = c.in-Err-accept.error in
    let wide = c.args.is_wide in
    let p = c.args.certificate.now in
    let s = subst (λ x. StopsBy wide c.in-Ok.typed x p e) (sym (conditions_meant cond)) c.in-Err-accept.ensures.stopped in
    let told = refused wide c.in-Ok.typed (lined cond) (source c.args.kernel) c.args.conditions.now p (c.in-Ok.ensures, c.in-Ok-read_conditions_as.ensures.value) e s in
    refused_alike wide wide p two (sym (migrated_alike c.args.is_wide p two alike.0 (c.either_version_is_read.ensures.same p two alike.0 alike.1))) (source c.args.kernel) c.args.conditions.now (λ ps. refl) e told

pub returns-in-Err-accept-clause-one : goal.returns-in-Err-accept-clause-one
returns-in-Err-accept-clause-one c = λ one alike.
    let cond = c.in-Ok-read_conditions_as.conditions in
    let e = c.in-Err-accept.error in
    let wide = c.args.is_wide in
    let p = c.args.certificate.now in
    let s = subst (λ x. StopsBy wide c.in-Ok.typed x p e) (sym (conditions_meant cond)) c.in-Err-accept.ensures.stopped in
    let told = refused wide c.in-Ok.typed (lined cond) (source c.args.kernel) c.args.conditions.now p (c.in-Ok.ensures, c.in-Ok-read_conditions_as.ensures.value) e s in
    refused_alike wide wide p one (migrated_alike c.args.is_wide one p alike.0 (c.either_version_is_read.ensures.same one p alike.0 alike.1)) (source c.args.kernel) c.args.conditions.now (λ ps. refl) e told

pub returns-in-Err-accept-clause-alike : goal.returns-in-Err-accept-clause-alike
returns-in-Err-accept-clause-alike c = λ own one.
    let cond = c.in-Ok-read_conditions_as.conditions in
    let e = c.in-Err-accept.error in
    let wide = c.args.is_wide in
    let p = c.args.certificate.now in
    let s = subst (λ x. StopsBy wide c.in-Ok.typed x p e) (sym (conditions_meant cond)) c.in-Err-accept.ensures.stopped in
    let told = refused wide c.in-Ok.typed (lined cond) (source c.args.kernel) c.args.conditions.now p (c.in-Ok.ensures, c.in-Ok-read_conditions_as.ensures.value) e s in
    refused_alike wide false p p (narrow_alike c.args.is_wide p own) (source c.args.kernel) c.args.conditions.now (conditions_alike c.texts_of_version_1_are_read_alike.ensures wide c.args.conditions.now one) e told

pub returns-clause-two : goal.returns-clause-two
returns-clause-two c = λ two alike.
    let wide = c.args.is_wide in
    let p = c.args.certificate.now in
    let passed =
    subst
    (λ t. IsPassedBy wide t (conditions (kept c.of.result)) p)
    (sym c.of.ensures.typed)
    (subst (λ x. IsPassedBy wide c.in-Ok.typed (conditions x) p) (sym c.of.ensures.conditions) c.in-Ok-accept.ensures.passed) in
    passed_alike wide wide p two (sym (migrated_alike c.args.is_wide p two alike.0 (c.either_version_is_read.ensures.same p two alike.0 alike.1))) (typed_of c.of.result) (conditions (kept c.of.result)) passed

pub returns-clause-one : goal.returns-clause-one
returns-clause-one c = λ one alike.
    let wide = c.args.is_wide in
    let p = c.args.certificate.now in
    let passed =
    subst
    (λ t. IsPassedBy wide t (conditions (kept c.of.result)) p)
    (sym c.of.ensures.typed)
    (subst (λ x. IsPassedBy wide c.in-Ok.typed (conditions x) p) (sym c.of.ensures.conditions) c.in-Ok-accept.ensures.passed) in
    passed_alike wide wide p one (migrated_alike c.args.is_wide one p alike.0 (c.either_version_is_read.ensures.same one p alike.0 alike.1)) (typed_of c.of.result) (conditions (kept c.of.result)) passed

pub returns-clause-alike : goal.returns-clause-alike
returns-clause-alike c = λ own one.
    let wide = c.args.is_wide in
    let p = c.args.certificate.now in
    let passed =
    subst
    (λ t. IsPassedBy wide t (conditions (kept c.of.result)) p)
    (sym c.of.ensures.typed)
    (subst (λ x. IsPassedBy wide c.in-Ok.typed (conditions x) p) (sym c.of.ensures.conditions) c.in-Ok-accept.ensures.passed) in
    passed_alike wide false p p (narrow_alike c.args.is_wide p own) (typed_of c.of.result) (conditions (kept c.of.result)) passed

pub returns-in-Err-read_conditions_as-clause-alike : goal.returns-in-Err-read_conditions_as-clause-alike
returns-in-Err-read_conditions_as-clause-alike c = λ own one.
    let t = c.in-Ok.typed in
    let as_one = conditions_alike c.texts_of_version_1_are_read_alike.ensures c.args.is_wide c.args.conditions.now one (names_seen t.0).parameters in
    (t, c.in-Ok.ensures, subst (launches.Refuses c.in-Err-read_conditions_as.error) as_one c.in-Err-read_conditions_as.ensures.value)
