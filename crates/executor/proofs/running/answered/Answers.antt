use Rattle.core_code.specs.View.{kernel}
use Rattle.launch.specs.View.{launch, conditions}
use Rattle.semantics.specs.Setup.{at_launch, on_device}
use Rattle.semantics.specs.Word.{Exact}
use Rattle.cert_check.specs.View.{typed_of, kept}
use Rattle.write_log.specs.Written.{words_of}
use Rattle.executor.proofs.Kernels.{some-items, some-items-on}
use Rattle.executor.proofs.Buffered.{every-end, same-on-device}
use Rattle.executor.proofs.Typed.{stays-the-result, has-kinds}
use Rattle.executor.proofs.running.answered.Goals as goal

pub returns-clause-value : goal.returns-clause-value
returns-clause-value c = λ w.
    let k = kernel (typed_of c.args.accepted.now).1 in
    let l = launch c.args.launch.now in
    let s = at_launch k l in
    let given = conditions (kept c.args.accepted.now) in
    let some = some-items k l c.conditions-conditions.ensures.accepted.has_items in
    let safe = c.conditions-conditions.ensures.accepted.is_pair_safe l c.requires.fits c.requires.meets in
    let begins = c.launches_begin_kept.ensures s given c.requires.fits c.requires.meets in
    let h = c.pair_safe_within_on_devices.ensures.headline Exact given.contents s given.budget some safe begins in
    let same = c.pair_safe_within_on_devices.ensures.result w given.contents s given.budget some safe begins in
    same-on-device w s given.budget (words_of c.in_ok-answer.answer) same
    (stays-the-result s given.budget c.args.buffers.now c.in_ok-answer.answer c.requires.fits h c.requires.ended c.in_ok-answer.ensures)

pub returns-clause-kinds : goal.returns-clause-kinds
returns-clause-kinds c =
    let k = kernel (typed_of c.args.accepted.now).1 in
    let l = launch c.args.launch.now in
    has-kinds (at_launch k l) (kept c.args.accepted.now).budget c.args.buffers.now c.in_ok-answer.answer c.requires.fits c.requires.ended c.in_ok-answer.ensures

pub returns-clause-every : goal.returns-clause-every
returns-clause-every c = λ w.
    let k = kernel (typed_of c.args.accepted.now).1 in
    let l = launch c.args.launch.now in
    let s = at_launch k l in
    let given = conditions (kept c.args.accepted.now) in
    let some = some-items k l c.conditions-conditions.ensures.accepted.has_items in
    let safe = c.conditions-conditions.ensures.accepted.is_pair_safe l c.requires.fits c.requires.meets in
    let begins = c.launches_begin_kept.ensures s given c.requires.fits c.requires.meets in
    let h = c.pair_safe_within_on_devices.ensures.headline w given.contents s given.budget some safe begins in
    every-end (on_device w s) given.budget (words_of c.in_ok-answer.answer) h (returns-clause-value c w)

pub returns-clause-defined : goal.returns-clause-defined
returns-clause-defined c = λ w.
    let k = kernel (typed_of c.args.accepted.now).1 in
    let l = launch c.args.launch.now in
    let s = at_launch k l in
    let given = conditions (kept c.args.accepted.now) in
    let some = some-items k l c.conditions-conditions.ensures.accepted.has_items in
    let safe = c.conditions-conditions.ensures.accepted.is_pair_safe l c.requires.fits c.requires.meets in
    let begins = c.launches_begin_kept.ensures s given c.requires.fits c.requires.meets in
    c.headline_defines_the_result.ensures (on_device w s) given.budget (some-items-on w k l c.conditions-conditions.ensures.accepted.has_items)
    (c.pair_safe_within_on_devices.ensures.headline w given.contents s given.budget some safe begins)
