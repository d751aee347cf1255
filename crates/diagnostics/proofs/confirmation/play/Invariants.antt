use Rattle.std.proofs.Common.{◌≡◌}
use Rattle.machine.specs.Worlds.{setup}
use Rattle.diagnostics.specs.Replays.{IsAfter}
use Rattle.diagnostics.proofs.confirmation.play.Given as goal

abbrev pub invariant-loop-event : goal.invariant-loop-event
invariant-loop-event l = IsAfter l.world l.events.items × (setup l.world ≡ setup l.fn.world)
