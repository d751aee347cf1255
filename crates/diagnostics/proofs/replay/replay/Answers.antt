use Rattle.std.proofs.Common.{rules, ◌≡◌, ◌<◌, ap, sym, ◌∙◌, subst, map, take, length}
use Rattle.std.specs.Prelude.{Some}
use Rattle.semantics.specs.World.{run, happens}
use Rattle.work_item.specs.View.{setup_of}
use Rattle.machine.specs.Worlds.{setup, world, event}
use Rattle.diagnostics.proofs.ReplayRuns.{run_more, happened, taken}
use Rattle.diagnostics.proofs.replay.replay.Goals as goal

pub loop-applied-preserved : goal.loop-applied-preserved
loop-applied-preserved c =
    let start = c.args.world.now in
    let w = c.loop-applied.world in
    let new = c.apply.new.self in
    let events = c.args.events.now in
    let i = c.loop-applied.applied in
    let e = c.event_at.result in
    let inv = c.loop-applied.invariant in
    let l : i < length events = search rules in
    let h = subst (λ s. happens s (world w) (event e) ≡ Some (world new)) inv.2
    (happened (setup w) (event e) (world w) (world new) c.in_ok-apply.field-0 (sym c.was_possible.ensures ∙ c.if-not-was_possible.false) c.in_ok-apply.ensures.answer) in (
      ap (λ es. run (setup start) es (world start)) (taken events i e l (c.event_at.ensures e))
          ∙ run_more (setup start) (map event (take i events)) (event e) (world start) (world w) (world new) inv.0 h,
      c.apply.ensures.sound,
      ap (λ x. setup_of x new.launch.now) c.apply.ensures.core ∙ ap (λ y. setup_of w.core.now y) c.apply.ensures.launch ∙ inv.2,
    )
