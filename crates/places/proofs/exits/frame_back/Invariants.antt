use Rattle.std.proofs.Common.{◌≡◌, drop}
use Rattle.arrivals.specs.Places.{NoList}
use Rattle.places.specs.Frames.{last_back}
use Rattle.places.specs.View.{lists}
use Rattle.places.proofs.exits.frame_back.Given as goal

abbrev pub invariant-loop-frame : goal.invariant-loop-frame
invariant-loop-frame l = last_back (drop l.frame-index l.frames) l.number (lists l.found) ≡ last_back l.frames l.number NoList
