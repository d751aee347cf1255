use Rattle.std.proofs.Common.{suc, ◌≡◌, ◌≤◌, ◌+◌, ◌-◌, ◌∙◌, ap, ap₂, sym, arith, map, length, min, slice_set}
use Rattle.std.proofs.lemmas.List.{map-set, length-map}
use Rattle.words.specs.View.{value_of}
use Rattle.write_log.specs.Written.{put_bits}
use Rattle.write_log.proofs.Writing.{put_bits-rest}
use Rattle.write_log.proofs.log.write_bits.Goals as goal

pub loop-step-preserved : goal.loop-step-preserved
loop-step-preserved c =
    let stretch = c.args.stretch.now in
    let step = c.loop-step.step in
    let row = map value_of c.args.words.now in
    let next : suc step ≡ step + 1 = omega arith in
    map-set value_of c.loop-step.words (stretch.first + step) c.read_word.result
    ∙ ap₂ (λ xs w. slice_set xs (stretch.first + step) (value_of w)) c.loop-step.invariant c.read_word.ensures
    ∙ ap (λ n. put_bits stretch c.args.bits.now n row) next

pub returns : goal.returns
returns c =
    let stretch = c.args.stretch.now in
    let row = map value_of c.args.words.now in
    let inside = c.saturating_sub-inside.ensures in
    let least = c.min-step-end.ensures in
    let step_end = c.loop-step.auto.step-end in
    let stop = c.loop-step-test.false in
    let count = length-map c.args.words.now value_of in
    let within : c.loop-step.step ≤ c.args.end - stretch.start = omega (arith, least, step_end) in
    let stops : min c.saturating_sub-inside.result (c.args.end - stretch.start) ≤ c.loop-step.step = omega (arith, least, stop) in
    let rest : length row ≤ stretch.first + c.saturating_sub-inside.result = omega (arith, inside, count) in
    c.loop-step.invariant ∙ sym (put_bits-rest stretch c.args.bits.now c.loop-step.step (c.args.end - stretch.start) c.saturating_sub-inside.result row within stops rest)
