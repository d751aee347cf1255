use Rattle.std.proofs.Common.{rules, ◌≡◌, ◌<◌, ◌+◌, ◌∙◌, map, length, true, sym, ap, subst}
use Rattle.core_code.specs.View.{kernel}
use Rattle.facts.proofs.Unmade.{passed}
use Rattle.walk_trees.specs.Fitting.{all_fit}
use Rattle.arrival_claims.specs.declared.placing.Placing.{Placing}
use Rattle.obligations.specs.Listing.{Planted, is_some}
use Rattle.obligations.specs.View.{seen}
use Rattle.path_steps.specs.Paths.{collect}
use Rattle.path_steps.specs.View.{setting, choice, followed}
use Rattle.places.specs.View.{place}
use Rattle.walk.specs.Paths.{begun}
use Rattle.walk.specs.Planting.{planted_by}
use Rattle.walk.specs.Unfound.{statement_by}
use Rattle.walk.specs.View.{maybe_choices}
use Rattle.walk.specs.Walks.{IsCut, IsStuck}
use Rattle.walk.specs.declared.error.FindError.TheVariants as errors
use Rattle.walk.proofs.OnePlace.{placed_is}
use Rattle.walk.proofs.Onward.{next_from}
use Rattle.walk.proofs.Stepping.{many_within}
use Rattle.walk.proofs.Stuck.{stuck}
use Rattle.walk.proofs.one_path.walk_one.Goals as goal

pub returns-in_err-path-clause-stuck : goal.returns-in_err-path-clause-stuck
returns-in_err-path-clause-stuck g c =
    let start = c.args.start.now in
    let at = place start.place.now in
    let q = planted_by g.D.Domain (setting g.D.Domain c.args.setting.now) (kernel c.args.core.now) (seen c.args.notes.now c.args.setting.now.entries.items) start.claims at in
    let w : Placing _ = record { setting = c.args.setting; core = c.args.core; notes = c.args.notes; anchor = c.number_at-anchor.result; head = c.number_at-head.result } in
    let is = placed_is g.D.Domain w start.claims at c.number_at-anchor.ensures c.number_at-head.ensures in
    let cs = map choice c.args.given.items in
    let e = c.in_err-path.field-0.0 in
    passed c.from_residual.result (errors.Walk e) (IsStuck q) c.from_residual.ensures.1
    (stuck q cs c.requires.within.right e (subst (λ (p : Planted _). IsCut p cs e) is c.in_err-path.ensures.cut))

pub returns-in_err-ends-clause-stuck : goal.returns-in_err-ends-clause-stuck
returns-in_err-ends-clause-stuck g c =
    let start = c.args.start.now in
    let at = place start.place.now in
    let q = planted_by g.D.Domain (setting g.D.Domain c.args.setting.now) (kernel c.args.core.now) (seen c.args.notes.now c.args.setting.now.entries.items) start.claims at in
    let w : Placing _ = record { setting = c.args.setting; core = c.args.core; notes = c.args.notes; anchor = c.number_at-anchor.result; head = c.number_at-head.result } in
    let is = placed_is g.D.Domain w start.claims at c.number_at-anchor.ensures c.number_at-head.ensures in
    let cs = map choice c.args.given.items in
    let said = c.in_err-ends.ensures in
    let p = c.in_ok-path.path in
    let n : c.len.result ≡ length p.ends.items = search rules in
    let many = subst (λ k. 256 < start.ends + k) n said.1 in
    let found = subst (λ (r : Planted _). (followed p).found ≡ collect (begun r.facts start.claims cs) r.tree) is c.in_ok-path.ensures.found in
    passed c.from_residual-in_err-ends.result c.in_err-ends.field-0.0 (IsStuck q) c.from_residual-in_err-ends.ensures.1
    (subst (IsStuck q) (sym said.0) (c.statement_of.ensures ∙ (λ i. statement_by (c.number_at-anchor.ensures i) (c.number_at-head.ensures i)), many_within q start.ends cs p c.requires.within found many))

pub returns-clause-on : goal.returns-clause-on
returns-clause-on g c =
    let start = c.args.start.now in
    let at = place start.place.now in
    let w : Placing _ = record { setting = c.args.setting; core = c.args.core; notes = c.args.notes; anchor = c.number_at-anchor.result; head = c.number_at-head.result } in
    let is = placed_is g.D.Domain w start.claims at c.number_at-anchor.ensures c.number_at-head.ensures in
    let cs = map choice c.args.given.items in
    let p = c.in_ok-path.path in
    let n : c.len.result ≡ length p.ends.items = search rules in
    record {
      found = subst (λ (r : Planted _). (followed p).found ≡ collect (begun r.facts start.claims cs) r.tree) is c.in_ok-path.ensures.found;
      anchor = c.number_at-anchor.ensures;
      head = c.is_there.ensures ∙ ap is_some c.number_at-head.ensures;
      known = subst (λ (r : Planted _). all_fit r.facts ≡ true) is c.in_ok-path.ensures.known;
      ended = c.in_ok-ends.ensures.0 ∙ ap (λ k. start.ends + k) n;
      few = c.in_ok-ends.ensures.1;
      next = next_from p (maybe_choices c.in_ok-next.next) c.as_slice.result.now c.in_ok-next.ensures c.as_slice.ensures.value;
    }
