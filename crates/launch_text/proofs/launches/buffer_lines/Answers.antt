use Rattle.std.proofs.Common.{rules, ◌+◌, ◌-◌, drop, map, List, Some, ap, sym, ◌∙◌, arith}
use Rattle.std.proofs.lemmas.List.{map_push, length-map}
use Rattle.semantics.specs.Word.{Word}
use Rattle.words.specs.View.{kind, word}
use Rattle.launch_text.specs.LaunchWords.{each}
use Rattle.launch_text.specs.LaunchReading as meaning
use Rattle.syntax.specs.View.{parameter}
use Rattle.launch_text.specs.Answers.{cursor}
use Rattle.launch_text.specs.View as view
use Rattle.launch_text.proofs.Lists.{words-push}
use Rattle.launch_text.proofs.Rows.{each_over, each_skips, each_due}
use Rattle.launch_text.proofs.launches.buffer_lines.Goals as goal

pub loop-parameter-preserved-in-Value : goal.loop-parameter-preserved-in-Value
loop-parameter-preserved-in-Value c =
    let ps = map parameter c.args.parameters.now in
    let done = view.buffers c.loop-parameter.buffers in
    record {
      left = c.loop-parameter.invariant.left;
      same =
          c.loop-parameter.invariant.same
          ∙ each_skips (meaning.buffer_due ps) done parameter c.args.parameters.now c.loop-parameter.parameter-index c.parameter-item.result (cursor c.loop-parameter.rest) c.loop-parameter-test.true c.parameter-item.is
          (ap (λ p. meaning.buffer_due ps done (parameter p)) c.in-Value.is);
    }

pub returns-in_err-buffer : goal.returns-in_err-buffer
returns-in_err-buffer c =
    let ps = map parameter c.args.parameters.now in
    let done = view.buffers c.loop-parameter.buffers in
    let k = kind c.in-Buffer.kind in
    rw (c.loop-parameter.invariant.same
    ∙ each_due (meaning.buffer_due ps) done parameter c.args.parameters.now c.loop-parameter.parameter-index c.parameter-item.result (cursor c.loop-parameter.rest) (meaning.buffer_line ps c.loop-parameter.room k c.as_str.result.now) c.loop-parameter-test.true c.parameter-item.is
    (ap (λ p. meaning.buffer_due ps done (parameter p)) c.in-Buffer.is
    ∙ ap (λ n. Some (meaning.buffer_line ps (meaning.most_words - meaning.words_of done) k n)) (sym c.as_str.ensures.value)
    ∙ ap (λ m. Some (meaning.buffer_line ps m k c.as_str.result.now)) (sym c.loop-parameter.invariant.left))) (search rules)

pub loop-parameter-preserved : goal.loop-parameter-preserved
loop-parameter-preserved c =
    let ps = map parameter c.args.parameters.now in
    let done = view.buffers c.loop-parameter.buffers in
    let k = kind c.in-Buffer.kind in
    let rest = map parameter (drop (c.loop-parameter.parameter-index + 1) c.args.parameters.now) in
    let more = ap (map view.words) c.in_ok-push.ensures.items ∙ map_push view.words c.loop-parameter.buffers.items c.in_ok-buffer.buffer in
    record {
      left = omega (arith, c.saturating_sub-room.ensures, c.len.ensures, c.loop-parameter.invariant.left, ap meaning.words_of more, words-push done (view.words c.in_ok-buffer.buffer), length-map c.in_ok-buffer.buffer.items word);
      same =
          c.loop-parameter.invariant.same
          ∙ each_due (meaning.buffer_due ps) done parameter c.args.parameters.now c.loop-parameter.parameter-index c.parameter-item.result (cursor c.loop-parameter.rest) (meaning.buffer_line ps c.loop-parameter.room k c.as_str.result.now) c.loop-parameter-test.true c.parameter-item.is
          (ap (λ p. meaning.buffer_due ps done (parameter p)) c.in-Buffer.is
          ∙ ap (λ n. Some (meaning.buffer_line ps (meaning.most_words - meaning.words_of done) k n)) (sym c.as_str.ensures.value)
          ∙ ap (λ m. Some (meaning.buffer_line ps m k c.as_str.result.now)) (sym c.loop-parameter.invariant.left))
          ∙ rw c.in_ok-buffer.ensures (ap (λ (bs : List (List Word)). each (meaning.buffer_due ps) bs rest (cursor c.in_ok-buffer.after)) (sym more));
    }

pub returns : goal.returns
returns c =
    let ps = map parameter c.args.parameters.now in
    c.loop-parameter.invariant.same ∙ each_over (meaning.buffer_due ps) (view.buffers c.loop-parameter.buffers) parameter c.args.parameters.now c.loop-parameter.parameter-index (cursor c.loop-parameter.rest) c.loop-parameter-test.false
