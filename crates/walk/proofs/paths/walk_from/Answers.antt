use Rattle.std.proofs.Common.{ap, subst, ◌∙◌}
use Rattle.facts.proofs.Unmade.{passed}
use Rattle.core_code.specs.View.{kernel}
use Rattle.path_steps.specs.View.{setting}
use Rattle.obligations.specs.View.{seen}
use Rattle.places.specs.View.{place}
use Rattle.walk_trees.specs.Trees.{after}
use Rattle.arrival_claims.specs.declared.placing.Placing.{Placing}
use Rattle.obligations.specs.Listing.{Planted}
use Rattle.walk.specs.Planting.{planted_by}
use Rattle.walk.specs.Walks.{AreOf, IsStuck}
use Rattle.walk.proofs.OnePlace.{placed_is}
use Rattle.walk.proofs.paths.walk_from.Goals as goal

pub returns-in_err-paths-clause-stuck : goal.returns-in_err-paths-clause-stuck
returns-in_err-paths-clause-stuck g c =
    let at = place c.args.place.now in
    let q = planted_by g.D.Domain (setting g.D.Domain c.args.setting.now) (kernel c.args.core.now) (seen c.args.notes.now c.args.setting.now.entries.items) c.args.claims at in
    let w : Placing _ = record { setting = c.args.setting; core = c.args.core; notes = c.args.notes; anchor = c.number_at-anchor.result; head = c.number_at-head.result } in
    let e = c.in_err-paths.field-0.0 in
    passed c.from_residual.result e (IsStuck q) c.from_residual.ensures.1
    (subst (λ (p : Planted _). IsStuck p e) (placed_is g.D.Domain w c.args.claims at c.number_at-anchor.ensures c.number_at-head.ensures) c.in_err-paths.ensures.stuck)

pub returns-clause-walked : goal.returns-clause-walked
returns-clause-walked g c =
    let at = place c.args.place.now in
    let w : Placing _ = record { setting = c.args.setting; core = c.args.core; notes = c.args.notes; anchor = c.number_at-anchor.result; head = c.number_at-head.result } in
    record {
      anchor = c.number_at-anchor.ensures;
      head = c.number_at-head.ensures;
      paths = subst (AreOf c.in_ok-paths.field-0.paths.items) (placed_is g.D.Domain w c.args.claims at c.number_at-anchor.ensures c.number_at-head.ensures) c.in_ok-paths.ensures.walked;
    }

pub returns-clause-after : goal.returns-clause-after
returns-clause-after g c =
    let at = place c.args.place.now in
    let w : Placing _ = record { setting = c.args.setting; core = c.args.core; notes = c.args.notes; anchor = c.number_at-anchor.result; head = c.number_at-head.result } in
    c.in_ok-paths.ensures.after ∙ ap (λ (p : Planted _). after p.claims p.tree) (placed_is g.D.Domain w c.args.claims at c.number_at-anchor.ensures c.number_at-head.ensures)
