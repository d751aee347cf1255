use Rattle.std.proofs.Common.{◌≡◌, ◌∙◌, ℕ, ap, refl, subst}
use Rattle.std.specs.Prelude.{IfOk}
use Rattle.std.proofs.lemmas.Result.{IfOk-weaker}
use Rattle.core_code.specs.View.{kernel}
use Rattle.launch.specs.View.{launch, conditions}
use Rattle.semantics.specs.Setup.{at_launch}
use Rattle.semantics.specs.Rounds.{group_log}
use Rattle.lane_groups.specs.Logs.{lane_log}
use Rattle.cert_check.specs.View.{typed_of, kept}
use Rattle.write_log.specs.Written.{written}
use Rattle.executor.proofs.Kernels.{some-items}
use Rattle.executor.proofs.group.run_group.Goals as goal

pub returns : goal.returns
returns c =
    let k = kernel (typed_of c.args.accepted.now).1 in
    let l = launch c.args.launch.now in
    let s = at_launch k l in
    let bound = (kept c.args.accepted.now).budget in
    let g = c.args.group in
    let r = c.run_group.result in
    let in_budget = subst (λ x. IfOk r (λ log. (buffer index : ℕ) → written log buffer index ≡ lane_log (at_launch (kernel c.core.result.now) l) x.budget g buffer index)) c.conditions.ensures.value c.run_group.ensures in
    let of_kernel = subst (λ x. IfOk r (λ log. (buffer index : ℕ) → written log buffer index ≡ lane_log (at_launch (kernel x) l) bound g buffer index)) (c.core.ensures.value ∙ ap (λ t. t.1) c.typed-typed.ensures.value) in_budget in
    let a = c.typed-typed.ensures.accepted in
    let given = conditions (kept c.args.accepted.now) in
    let begins = c.launches_begin_kept.ensures s given c.requires.fits c.requires.meets in
    IfOk-weaker
    r
    (λ log. (buffer index : ℕ) → written log buffer index ≡ lane_log s bound g buffer index)
    (λ log. (buffer index : ℕ) → written log buffer index ≡ group_log s bound g buffer index)
    (λ log h buffer index.
    h buffer index
    ∙ c.lane_logs_are_by_rounds.ensures given.contents s (refl, λ _ _ _ _ _ _ _ _. refl) bound g buffer index (some-items k l a.has_items) c.requires.group c.requires.fits c.typed-typed.ensures.orderly (a.is_pair_safe l c.requires.fits c.requires.meets) begins)
    of_kernel
