use Rattle.std.proofs.Common.{◌≡◌, length, rules, sym, ◌∙◌}
use Rattle.std.proofs.lemmas.List.{length-map}
use Rattle.words.specs.View.{word}
use Rattle.launch.specs.View.{launch, buffer}
use Rattle.launch.proofs.Unmet.{met-iff}
use Rattle.launch.proofs.meets.meets.Goals as goal

pub returns-clause-met : goal.returns-clause-met
returns-clause-met c =
    let p : length c.args.conditions.now.arguments.items ≡ length c.args.launch.now.arguments.items = search rules in
    let q : length c.args.conditions.now.lengths.items ≡ length c.args.launch.now.buffers.words.items = search rules in
    let p' = p ∙ sym (length-map c.args.launch.now.arguments.items word) in
    let q' = q ∙ sym (length-map c.args.launch.now.buffers.words.items buffer) in
    met-iff c.args.conditions.now (launch c.args.launch.now) c.first_unmet.result p' q' c.first_unmet.ensures
