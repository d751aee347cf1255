use Rattle.std.proofs.Common.{◌≡◌, ◌++◌, drop, map}
use Rattle.certificate_notes.specs.Noted as noted
use Rattle.certificate_notes.specs.View.{scene}
use Rattle.certificate_notes.proofs.quotients.loops_among.Given as goal

abbrev pub invariant-loop-scene : goal.invariant-loop-scene
invariant-loop-scene l = l.loops.items ++ noted.loops_among (map scene (drop l.scene-index l.scenes)) ≡ noted.loops_among (map scene l.scenes)
