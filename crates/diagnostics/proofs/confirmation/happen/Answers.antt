use Rattle.std.proofs.Common.{rules, ◌≡◌, ◌++◌, ◌∷◌, [], ap, sym, ◌∙◌, subst}
use Rattle.work_item.specs.View.{setup_of}
use Rattle.diagnostics.specs.Replays.{IsAfter}
use Rattle.diagnostics.proofs.Runs.{one_more}
use Rattle.diagnostics.proofs.confirmation.happen.Goals as goal

pub returns-clause-after : goal.returns-clause-after
returns-clause-after c =
    let w = c.args.world.now in
    let u = c.apply.new.self in
    let events = c.args.events.now.items in
    let pushed : c.push.new.self.items ≡ events ++ c.args.event ∷ [] = search rules in
    let same = ap (λ x. setup_of x u.launch.now) c.apply.ensures.core ∙ ap (λ y. setup_of w.core.now y) c.apply.ensures.launch in
    subst (IsAfter u) (sym pushed) (one_more w u events c.args.event c.in_ok-apply.field-0 c.requires c.apply.ensures.sound same (sym c.was_possible.ensures ∙ c.if-not-was_possible.false) c.in_ok-apply.ensures.answer)
