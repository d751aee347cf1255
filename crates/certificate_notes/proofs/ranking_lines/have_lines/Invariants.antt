use Rattle.std.proofs.Common.{◌≡◌, drop, map}
use Rattle.certificate_text.specs.Rules.{all}
use Rattle.certificate.specs.View as view
use Rattle.certificate_notes.specs.Noted.{has_line}
use Rattle.certificate_notes.specs.View.{scene}
use Rattle.certificate_notes.proofs.ranking_lines.have_lines.Given as goal

abbrev pub invariant-loop-scene : goal.invariant-loop-scene
invariant-loop-scene l = all (has_line (map view.bound l.bounds)) (map scene (drop l.scene-index l.scenes)) ≡ all (has_line (map view.bound l.bounds)) (map scene l.scenes)
