use Rattle.std.proofs.Common.{rules, ◌≡◌, sym, ◌∙◌}
use Rattle.std.specs.Prelude.{true, false}
use Rattle.entry_check.specs.Rows.{all_alone, held_rows, left_rows}
use Rattle.entry_check.proofs.Pairing.{alone_behind, alone_first, copied_rows}
use Rattle.entry_check.proofs.Unshown.{ok_mapped}
use Rattle.entry_check.proofs.pairs.are_all_alone.Goals as goal

pub returns-then-not-branch-clause-exact : goal.returns-then-not-branch-clause-exact
returns-then-not-branch-clause-exact g c =
    let t = c.args.terrain.now in
    let k = c.args.kind in
    let f : c.in_ok-are_alone.field-0 ≡ false = search rules in
    alone_first t k (held_rows k c.args.met.now) (left_rows g.D.Domain t k c.args.behind.now) (sym c.in_ok-are_alone.ensures.exact ∙ f)

pub returns-clause-exact : goal.returns-clause-exact
returns-clause-exact g c =
    let t = c.args.terrain.now in
    let k = c.args.kind in
    let f : c.in_ok-are_alone.field-0 ≡ true = search rules in
    let e : all_alone t k (held_rows k c.args.met.now) ≡ true = sym c.in_ok-are_alone.ensures.exact ∙ f in
    let same = copied_rows g.D.Domain t k c.args.behind.now c.in_ok-next.next c.in_ok-next.ensures.accesses c.in_ok-next.ensures.ends in
    ok_mapped c.are_alone_behind.result _ _ (λ b h. alone_behind t k (held_rows k c.args.met.now) (left_rows g.D.Domain t k c.args.behind.now) (left_rows g.D.Domain t k c.in_ok-next.next) b e h same) c.are_alone_behind.ensures.exact
