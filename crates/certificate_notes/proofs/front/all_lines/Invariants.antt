use Rattle.std.proofs.Common.{◌≡◌, drop, map}
use Rattle.certificate.specs.View as view
use Rattle.places.specs.View as places
use Rattle.certificate_notes.specs.Behind.{after}
use Rattle.certificate_notes.specs.Noted.{each, lines_of}
use Rattle.certificate_notes.specs.NotesView.{lines}
use Rattle.certificate_notes.specs.View.{chart}
use Rattle.certificate_notes.proofs.front.all_lines.Given as goal

abbrev pub invariant-loop-place : goal.invariant-loop-place
invariant-loop-place l = after (map lines l.lines.items) (each (lines_of (chart l.chart) (map places.place l.places)) (map view.place (drop l.place-index l.said))) ≡ each (lines_of (chart l.chart) (map places.place l.places)) (map view.place l.said)
