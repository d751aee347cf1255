use Rattle.std.proofs.Common.{◌≡◌, length}
use Rattle.core_code.specs.View.{kernel}
use Rattle.lane_groups.specs.Places.{ArePlaces}
use Rattle.lane_groups.proofs.standing.places_of.Given as goal

abbrev pub invariant-loop-lane : goal.invariant-loop-lane
invariant-loop-lane l = (length l.places.items ≡ l.lane) × ArePlaces (kernel l.group.core.now).sizes l.places.items
