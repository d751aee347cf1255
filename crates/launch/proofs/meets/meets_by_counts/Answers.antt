use Rattle.std.proofs.Common.{◌≡◌, length, rules, sym, ◌∙◌}
use Rattle.std.proofs.lemmas.List.{length-map}
use Rattle.words.specs.View.{word}
use Rattle.launch.specs.View.{launch}
use Rattle.launch.proofs.ByCounts.{met-by-counts}
use Rattle.launch.proofs.meets.meets_by_counts.Goals as goal

pub returns-clause-met : goal.returns-clause-met
returns-clause-met c =
    let p : length c.args.conditions.now.arguments.items ≡ length c.args.launch.now.arguments.items = search rules in
    let q : length c.args.conditions.now.lengths.items ≡ length c.args.counts.now = search rules in
    let p' = p ∙ sym (length-map c.args.launch.now.arguments.items word) in
    met-by-counts c.args.conditions.now (launch c.args.launch.now) c.args.counts.now c.first_unmet_by.result p' q c.first_unmet_by.ensures
