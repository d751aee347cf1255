use Rattle.std.proofs.Common.{◌≡◌, drop, map, []}
use Rattle.core_code.specs.View.{kernel}
use Rattle.certificate_notes.specs.Scenes.{all_assigned}
use Rattle.certificate_notes.specs.View.{named}
use Rattle.certificate_notes.proofs.scenes.assigned_among.Given as goal

abbrev pub invariant-loop-argument : goal.invariant-loop-argument
invariant-loop-argument l = all_assigned (kernel l.core) (map named (drop l.argument-index l.arguments)) (map named l.here.items) ≡ all_assigned (kernel l.core) (map named l.arguments) []
