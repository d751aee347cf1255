use Rattle.std.proofs.Common.{◌≡◌, rules, refl, ap, sym, ◌∙◌, map, [], Some, None}
use Rattle.std.specs.Prelude.{List}
use Rattle.semantics.specs.Word.{Word}
use Rattle.launch.specs.View.{launch}
use Rattle.launch.specs.Unmet.{unmet_requirements, unmet_contents}
use Rattle.launch.specs.Least.{least_with, filled, number, met, words_seen}
use Rattle.launch.specs.declared.launches.Buffers.{Buffers}
use Rattle.launch.specs.declared.launches.Launch.{Launch}
use Rattle.launch.proofs.Least.{launch-made, probe-made, words-kept}
use Rattle.launch.proofs.probe.least_launch.Goals as goal

pub returns-clause-least : goal.returns-clause-least
returns-clause-least c =
    let k = c.args.conditions.now in
    let l : Launch = c.in_ok-launch.launch in
    let m : Launch = record { groups = l.groups; arguments = l.arguments; buffers = record { words = c.in-Some.words }; fill = l.fill } in
    let ws : List (List Word) = words_seen c.in-Some.words in
    let required : unmet_requirements (launch l) k.requirements.items ≡ None = search rules in
    let full : Some ws ≡ filled (launch l) k.contents.items 0 1048576 k.lengths.items = search rules in
    let made : launch m ≡ least_with k (map (map number) ws) = launch-made k l m c.in-Some.words.items c.in_ok-launch.ensures refl in
    c.held.ensures.value ∙ ap (λ xs. met (unmet_contents (launch m) xs) (launch m)) c.deref-4.ensures.value
    ∙ ap (λ x. met (unmet_contents x k.contents.items) x) made ∙ sym (probe-made k (launch l) ws c.in_ok-launch.ensures required full)

pub returns-clause-words : goal.returns-clause-words
returns-clause-words c =
    let k = c.args.conditions.now in
    let l : Launch = c.in_ok-launch.launch in
    let bs : Buffers = record { words = c.in-Some.words } in
    let ws : List (List Word) = words_seen c.in-Some.words in
    let full : Some ws ≡ filled (launch l) k.contents.items 0 1048576 k.lengths.items = search rules in
    let whole : filled (least_with k []) k.contents.items 0 1048576 k.lengths.items ≡ Some ws =
    ap (λ x. filled x k.contents.items 0 1048576 k.lengths.items) (sym c.in_ok-launch.ensures) ∙ sym full in
    words-kept c.held.result bs (filled (least_with k []) k.contents.items 0 1048576 k.lengths.items) c.held.ensures.buffers whole
