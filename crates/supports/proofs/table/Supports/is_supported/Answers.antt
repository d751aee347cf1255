use Rattle.std.proofs.Common.{◌∙◌, [], ap, get_or, sym, length, ◌<◌, arith}
use Rattle.std.proofs.lemmas.List.{length-map}
use Rattle.supports.proofs.Greatest.{test_shows, test_lacks}
use Rattle.supports.proofs.Rows.{viewed}
use Rattle.supports.specs.Sets.{members}
use Rattle.supports.specs.View.{obligations, supports}
use Rattle.supports.proofs.table.Supports.is_supported.Goals as goal

pub returns : goal.returns
returns c =
    let table = c.deref.result.now.items in
    let whole = sym c.self.view_is ∙ ap (λ v. supports v.items) (sym c.deref.ensures) in
    let within : c.args.candidate < length table = omega (arith, c.requires, ap length whole, length-map table (λ candidate. obligations candidate.items)) in
    let seen = viewed (λ candidate. obligations candidate.items) table c.args.candidate c.index.result.now [] within c.index.ensures in
    let row = ap (λ t. get_or t c.args.candidate []) whole ∙ seen ∙ ap obligations (sym c.as_slice.ensures.value) in
    record {
      shown = test_shows c.args.self.now (members c.args.set.now.words) c.args.candidate c.each_lies_in.result _ row c.each_lies_in.ensures;
      lacking = test_lacks c.args.self.now (members c.args.set.now.words) c.args.candidate c.each_lies_in.result _ row c.each_lies_in.ensures;
    }
