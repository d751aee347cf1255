use Rattle.std.proofs.Common.{rules, ◌+◌, drop, map, List, Some, ap, sym, ◌∙◌}
use Rattle.std.proofs.lemmas.List.{map_push}
use Rattle.words.specs.View.{kind}
use Rattle.launch_text.specs.LaunchWords.{each}
use Rattle.launch_text.specs.ConditionsReading as meaning
use Rattle.syntax.specs.View.{parameter}
use Rattle.launch_text.specs.Answers.{cursor}
use Rattle.launch_text.specs.View as view
use Rattle.launch_text.proofs.Rows.{each_over, each_skips, each_due}
use Rattle.launch_text.proofs.conditions.length_lines.Goals as goal

pub loop-parameter-preserved-in-Value : goal.loop-parameter-preserved-in-Value
loop-parameter-preserved-in-Value c =
    let ps = map parameter c.args.parameters.now in
    let done = view.lengths c.loop-parameter.lengths in
    c.loop-parameter.invariant
    ∙ each_skips (meaning.length_due c.args.has_products ps) done parameter c.args.parameters.now c.loop-parameter.parameter-index c.parameter-item.result (cursor c.loop-parameter.rest) c.loop-parameter-test.true c.parameter-item.is
    (ap (λ p. meaning.length_due c.args.has_products ps done (parameter p)) c.in-Value.is)

pub returns-in_err-length : goal.returns-in_err-length
returns-in_err-length c =
    let ps = map parameter c.args.parameters.now in
    let done = view.lengths c.loop-parameter.lengths in
    let k = kind c.in-Buffer.kind in
    rw (c.loop-parameter.invariant
    ∙ each_due (meaning.length_due c.args.has_products ps) done parameter c.args.parameters.now c.loop-parameter.parameter-index c.parameter-item.result (cursor c.loop-parameter.rest) (meaning.length_line c.args.has_products ps k c.as_str.result.now) c.loop-parameter-test.true c.parameter-item.is
    (ap (λ p. meaning.length_due c.args.has_products ps done (parameter p)) c.in-Buffer.is ∙ ap (λ n. Some (meaning.length_line c.args.has_products ps k n)) (sym c.as_str.ensures.value))) (search rules)

pub loop-parameter-preserved : goal.loop-parameter-preserved
loop-parameter-preserved c =
    let ps = map parameter c.args.parameters.now in
    let done = view.lengths c.loop-parameter.lengths in
    let k = kind c.in-Buffer.kind in
    let rest = map parameter (drop (c.loop-parameter.parameter-index + 1) c.args.parameters.now) in
    c.loop-parameter.invariant
    ∙ each_due (meaning.length_due c.args.has_products ps) done parameter c.args.parameters.now c.loop-parameter.parameter-index c.parameter-item.result (cursor c.loop-parameter.rest) (meaning.length_line c.args.has_products ps k c.as_str.result.now) c.loop-parameter-test.true c.parameter-item.is
    (ap (λ p. meaning.length_due c.args.has_products ps done (parameter p)) c.in-Buffer.is ∙ ap (λ n. Some (meaning.length_line c.args.has_products ps k n)) (sym c.as_str.ensures.value))
    ∙ rw c.in_ok-length.ensures (ap (λ (rs : List meaning.Length). each (meaning.length_due c.args.has_products ps) rs rest (cursor c.in_ok-length.after)) (sym (ap (map view.length) c.in_ok-push.ensures.items ∙ map_push view.length c.loop-parameter.lengths.items c.in_ok-length.length)))

pub returns : goal.returns
returns c =
    let ps = map parameter c.args.parameters.now in
    c.loop-parameter.invariant ∙ each_over (meaning.length_due c.args.has_products ps) (view.lengths c.loop-parameter.lengths) parameter c.args.parameters.now c.loop-parameter.parameter-index (cursor c.loop-parameter.rest) c.loop-parameter-test.false
