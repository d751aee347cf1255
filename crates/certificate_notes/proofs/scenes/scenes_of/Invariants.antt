use Rattle.std.proofs.Common.{◌≡◌, drop, map, []}
use Rattle.kernel_names.specs.View.{standing, names_seen}
use Rattle.certificate_notes.specs.Scenes.{all_scenes}
use Rattle.certificate_notes.specs.View.{named, scene}
use Rattle.certificate_notes.proofs.scenes.scenes_of.Given as goal

abbrev pub invariant-loop-standing : goal.invariant-loop-standing
invariant-loop-standing l = all_scenes l.first (map named l.entry) (names_seen l.names) (map standing (drop l.standing-index l.names.statements.items)) (map scene l.scenes.items) ≡ all_scenes l.first (map named l.entry) (names_seen l.names) (map standing l.names.statements.items) []
