use Rattle.std.proofs.Common.{rules, ◌-◌, map, List, ap, sym, ◌∙◌}
use Rattle.std.proofs.lemmas.List.{map_push}
use Rattle.semantics.specs.Word.{Word}
use Rattle.words.specs.View.{kind, word}
use Rattle.launch_text.specs.LaunchFaults as texts
use Rattle.launch_text.specs.LaunchWords.{word_at}
use Rattle.launch_text.specs.LaunchReading.{list_at}
use Rattle.launch_text.specs.Answers.{cursor, read}
use Rattle.launch_text.specs.View as view
use Rattle.launch_text.proofs.Lists.{behind_word, list_over, list_due, list_spent, list_more}
use Rattle.launch_text.proofs.launches.list.Goals as goal

pub returns-in_err-word : goal.returns-in_err-word
returns-in_err-word c =
    let k = kind c.args.kind in
    let ws = view.words c.words.words in
    rw (c.words.invariant ∙ list_due k c.words.left ws (cursor c.words.rest) c.in-Some.ensures.0
    ∙ ap (λ d. texts.then (word_at k d) (behind_word k c.words.left ws)) (sym c.in-Some.ensures.1)) (search rules)

pub returns-then-left-eq0 : goal.returns-then-left-eq0
returns-then-left-eq0 c =
    let k = kind c.args.kind in
    let ws = view.words c.words.words in
    rw (c.words.invariant ∙ list_due k c.words.left ws (cursor c.words.rest) c.in-Some.ensures.0
    ∙ ap (λ d. texts.then (word_at k d) (behind_word k c.words.left ws)) (sym c.in-Some.ensures.1)
    ∙ ap (λ r. texts.then r (behind_word k c.words.left ws)) c.in_ok-word.ensures
    ∙ list_spent k c.words.left ws (read word (c.in_ok-word.word, c.in_ok-word.after)) c.if-left-eq0.true) (search rules)

pub words-preserved : goal.words-preserved
words-preserved c =
    let k = kind c.args.kind in
    let ws = view.words c.words.words in
    c.words.invariant ∙ list_due k c.words.left ws (cursor c.words.rest) c.in-Some.ensures.0
    ∙ ap (λ d. texts.then (word_at k d) (behind_word k c.words.left ws)) (sym c.in-Some.ensures.1)
    ∙ ap (λ r. texts.then r (behind_word k c.words.left ws)) c.in_ok-word.ensures
    ∙ list_more k c.words.left ws (read word (c.in_ok-word.word, c.in_ok-word.after)) c.if-left-eq0.false
    ∙ ap (λ (vs : List Word). list_at k (c.words.left - 1) vs (cursor c.in_ok-word.after)) (sym (ap (map word) c.in_ok-push.ensures.items ∙ map_push word c.words.words.items c.in_ok-word.word))

pub returns : goal.returns
returns c =
    c.words.invariant ∙ list_over (kind c.args.kind) c.words.left (view.words c.words.words) (cursor c.words.rest) c.in_default.ensures
