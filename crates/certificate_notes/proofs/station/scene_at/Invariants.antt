use Rattle.std.proofs.Common.{◌≡◌, drop, map}
use Rattle.certificate_notes.specs.Stations as stations
use Rattle.certificate_notes.specs.View.{scene}
use Rattle.certificate_notes.proofs.station.scene_at.Given as goal

abbrev pub invariant-loop-scene : goal.invariant-loop-scene
invariant-loop-scene l = stations.scene_at (map scene (drop l.scene-index l.scenes)) l.number ≡ stations.scene_at (map scene l.scenes) l.number
