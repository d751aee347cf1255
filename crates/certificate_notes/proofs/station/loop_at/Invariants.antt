use Rattle.std.proofs.Common.{◌≡◌, drop, map}
use Rattle.certificate_notes.specs.Stations as stations
use Rattle.certificate_notes.specs.View.{scene}
use Rattle.certificate_notes.proofs.station.loop_at.Given as goal

abbrev pub invariant-loop-scene : goal.invariant-loop-scene
invariant-loop-scene l = stations.loop_at (map scene (drop l.scene-index l.scenes)) l.number ≡ stations.loop_at (map scene l.scenes) l.number
