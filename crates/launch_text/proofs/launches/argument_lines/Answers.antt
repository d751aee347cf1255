use Rattle.std.proofs.Common.{rules, ◌+◌, drop, map, List, Some, ap, sym, ◌∙◌}
use Rattle.std.proofs.lemmas.List.{map_push}
use Rattle.words.specs.View.{kind, word}
use Rattle.semantics.specs.Word.{Word}
use Rattle.launch_text.specs.LaunchWords.{each}
use Rattle.launch_text.specs.LaunchReading as meaning
use Rattle.syntax.specs.View.{parameter}
use Rattle.launch_text.specs.Answers.{cursor}
use Rattle.launch_text.specs.View as view
use Rattle.launch_text.proofs.Rows.{each_over, each_skips, each_due}
use Rattle.launch_text.proofs.launches.argument_lines.Goals as goal

pub loop-parameter-preserved-in-Buffer : goal.loop-parameter-preserved-in-Buffer
loop-parameter-preserved-in-Buffer c =
    let ps = map parameter c.args.parameters.now in
    let done = view.words c.loop-parameter.arguments in
    c.loop-parameter.invariant
    ∙ each_skips (meaning.argument_due ps) done parameter c.args.parameters.now c.loop-parameter.parameter-index c.parameter-item.result (cursor c.loop-parameter.rest) c.loop-parameter-test.true c.parameter-item.is
    (ap (λ p. meaning.argument_due ps done (parameter p)) c.in-Buffer.is)

pub returns-in_err-argument : goal.returns-in_err-argument
returns-in_err-argument c =
    let ps = map parameter c.args.parameters.now in
    let done = view.words c.loop-parameter.arguments in
    let k = kind c.in-Value.kind in
    rw (c.loop-parameter.invariant
    ∙ each_due (meaning.argument_due ps) done parameter c.args.parameters.now c.loop-parameter.parameter-index c.parameter-item.result (cursor c.loop-parameter.rest) (meaning.argument_line ps k c.as_str.result.now) c.loop-parameter-test.true c.parameter-item.is
    (ap (λ p. meaning.argument_due ps done (parameter p)) c.in-Value.is ∙ ap (λ n. Some (meaning.argument_line ps k n)) (sym c.as_str.ensures.value))) (search rules)

pub loop-parameter-preserved : goal.loop-parameter-preserved
loop-parameter-preserved c =
    let ps = map parameter c.args.parameters.now in
    let done = view.words c.loop-parameter.arguments in
    let k = kind c.in-Value.kind in
    let rest = map parameter (drop (c.loop-parameter.parameter-index + 1) c.args.parameters.now) in
    c.loop-parameter.invariant
    ∙ each_due (meaning.argument_due ps) done parameter c.args.parameters.now c.loop-parameter.parameter-index c.parameter-item.result (cursor c.loop-parameter.rest) (meaning.argument_line ps k c.as_str.result.now) c.loop-parameter-test.true c.parameter-item.is
    (ap (λ p. meaning.argument_due ps done (parameter p)) c.in-Value.is ∙ ap (λ n. Some (meaning.argument_line ps k n)) (sym c.as_str.ensures.value))
    ∙ rw c.in_ok-argument.ensures (ap (λ (rs : List Word). each (meaning.argument_due ps) rs rest (cursor c.in_ok-argument.after)) (sym (ap (map word) c.in_ok-push.ensures.items ∙ map_push word c.loop-parameter.arguments.items c.in_ok-argument.argument)))

pub returns : goal.returns
returns c =
    let ps = map parameter c.args.parameters.now in
    c.loop-parameter.invariant ∙ each_over (meaning.argument_due ps) (view.words c.loop-parameter.arguments) parameter c.args.parameters.now c.loop-parameter.parameter-index (cursor c.loop-parameter.rest) c.loop-parameter-test.false
