use Rattle.std.proofs.Common.{◌∙◌, ap, refl, subst}
use Rattle.core_code.specs.View.{kernel}
use Rattle.launch.specs.View.{launch, conditions}
use Rattle.semantics.specs.Setup.{group_count, at_launch}
use Rattle.semantics.specs.Rounds.{group_log}
use Rattle.lane_groups.specs.Logs.{lane_log}
use Rattle.cert_check.specs.View.{typed_of, kept}
use Rattle.write_log.specs.Written.{words_of}
use Rattle.group_workers.specs.Writing.{HasLogs}
use Rattle.executor.proofs.Kernels.{some-items}
use Rattle.executor.proofs.Buffered.{all-written, same-logs}
use Rattle.executor.proofs.here.run_groups_here.Goals as goal

pub returns : goal.returns
returns c =
    let k = kernel (typed_of c.args.accepted.now).1 in
    let l = launch c.args.launch.now in
    let s = at_launch k l in
    let bound = (kept c.args.accepted.now).budget in
    let old = words_of c.in_ok-buffers.buffers in
    let new = words_of c.run_groups_here.new.buffers in
    let in_budget = subst (λ x. HasLogs (lane_log (at_launch (kernel c.core.result.now) l) x.budget) (group_count (at_launch (kernel c.core.result.now) l)) old new) c.conditions.ensures.value c.in_ok-run_groups_here.ensures in
    let of_kernel = subst (λ x. HasLogs (lane_log (at_launch (kernel x) l) bound) (group_count (at_launch (kernel x) l)) old new) (c.core.ensures.value ∙ ap (λ t. t.1) c.typed-typed.ensures.value) in_budget in
    let a = c.typed-typed.ensures.accepted in
    let given = conditions (kept c.args.accepted.now) in
    let begins = c.launches_begin_kept.ensures s given c.requires.fits c.requires.meets in
    let by_rounds = same-logs (lane_log s bound) (group_log s bound) (group_count s) old new
    (λ n buffer index m. c.lane_logs_are_by_rounds.ensures given.contents s (refl, λ _ _ _ _ _ _ _ _. refl) bound n buffer index (some-items k l a.has_items) m c.requires.fits c.typed-typed.ensures.orderly (a.is_pair_safe l c.requires.fits c.requires.meets) begins)
    of_kernel in
    all-written s bound old new c.in_ok-buffers.ensures by_rounds
