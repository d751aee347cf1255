use Rattle.std.proofs.Common.{◌≡◌, drop}
use Rattle.arrivals.specs.Places.{NoList}
use Rattle.places.specs.Frames.{last_out}
use Rattle.places.specs.View.{lists}
use Rattle.places.proofs.exits.frame_out.Given as goal

abbrev pub invariant-loop-frame : goal.invariant-loop-frame
invariant-loop-frame l = last_out (drop l.frame-index l.frames) l.number (lists l.found) ≡ last_out l.frames l.number NoList
