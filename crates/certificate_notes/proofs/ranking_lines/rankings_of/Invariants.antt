use Rattle.std.proofs.Common.{◌≡◌, drop, map}
use Rattle.certificate.specs.View as view
use Rattle.certificate_notes.specs.Noted.{each, ranked_of}
use Rattle.certificate_notes.specs.NotesView.{ranked}
use Rattle.certificate_notes.specs.View.{chart}
use Rattle.certificate_notes.specs.Behind.{after}
use Rattle.certificate_notes.proofs.ranking_lines.rankings_of.Given as goal

abbrev pub invariant-loop-bound : goal.invariant-loop-bound
invariant-loop-bound l = after (map ranked l.rankings.items) (each (ranked_of (chart l.chart)) (map view.bound (drop l.bound-index l.bounds))) ≡ each (ranked_of (chart l.chart)) (map view.bound l.bounds)
