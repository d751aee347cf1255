use Rattle.std.proofs.Common.{◌≡◌, ◌++◌, drop, map}
use Rattle.certificate_notes.specs.Noted as noted
use Rattle.certificate_notes.specs.NotesView.{visible}
use Rattle.certificate_notes.specs.View.{chart, scene}
use Rattle.certificate_notes.proofs.visible.visible_in.Given as goal

abbrev pub invariant-loop-scene : goal.invariant-loop-scene
invariant-loop-scene l = map visible l.visible.items ++ map noted.visible_at (map scene (drop l.scene-index l.chart.scenes.items)) ≡ noted.visible_in (chart l.chart)
