use Rattle.std.proofs.Common.{◌≡◌, drop, map}
use Rattle.syntax.specs.View.{parameter}
use Rattle.certificate_notes.specs.Scenes.{take_arguments}
use Rattle.certificate_notes.specs.View.{named}
use Rattle.certificate_notes.proofs.scenes.push_arguments.Given as goal

abbrev pub invariant-loop-parameter : goal.invariant-loop-parameter
invariant-loop-parameter l = take_arguments (map parameter (drop l.parameter-index l.parameters)) (map named l.names.items) ≡ take_arguments (map parameter l.parameters) (map named l.initial.names.items)
