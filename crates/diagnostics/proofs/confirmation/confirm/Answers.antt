use Rattle.std.proofs.Common.{◌≡◌, ap, sym, ◌∙◌, subst}
use Rattle.std.specs.Prelude.{IfSome}
use Rattle.kernel_names.specs.View.{names_seen}
use Rattle.work_item.specs.View.{setup_of}
use Rattle.machine.specs.Worlds.{setup, world}
use Rattle.diagnostics.specs.Confirming.{IsConfirmed}
use Rattle.diagnostics.specs.Replays.{finding_of}
use Rattle.findings.specs.Visits.{IsSighting}
use Rattle.diagnostics.proofs.Runs.{confirms}
use Rattle.diagnostics.proofs.confirmation.confirm.Goals as goal

pub returns-in-Some-clause-shown : goal.returns-in-Some-clause-shown
returns-in-Some-clause-shown c =
    let w = c.in_ok-world.world in
    let u = c.play.new.world in
    let k = names_seen c.args.typed.now.0 in
    let x = c.in-Some.seen in
    let events = c.play.new.events.items in
    let same : setup u ≡ setup_of c.args.typed.now.1 c.args.launch.now =
    c.in_ok-seen.ensures.setup ∙ ap (λ y. setup_of y w.launch.now) c.in_ok-world.ensures.core ∙ ap (λ z. setup_of c.args.typed.now.1 z) c.in_ok-world.ensures.launch in
    let seen : IsSighting (setup u) k (world u) x = subst (λ o. IfSome o (IsSighting (setup u) k (world u))) c.in-Some.is c.in_ok-seen.ensures.seen in
    subst (IsConfirmed (setup_of c.args.typed.now.1 c.args.launch.now) k) (sym c.in_ok-confirmed-in-Some.ensures)
    (subst (λ s. IsConfirmed s k (finding_of x events)) same (confirms (setup u) k (world u) x events c.in_ok-seen.ensures.after.run seen))
