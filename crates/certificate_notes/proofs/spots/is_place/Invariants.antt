use Rattle.std.proofs.Common.{◌≡◌, drop, map}
use Rattle.places.specs.View.{place}
use Rattle.certificate_notes.specs.Stations as stations
use Rattle.certificate_notes.proofs.spots.is_place.Given as goal

abbrev pub invariant-loop-place : goal.invariant-loop-place
invariant-loop-place l = stations.is_place (map place (drop l.place-index l.places)) l.anchor l.head ≡ stations.is_place (map place l.places) l.anchor l.head
