use Rattle.std.proofs.Common.{◌≡◌, drop, map}
use Rattle.kernel_names.specs.View.{variable}
use Rattle.certificate_notes.specs.Scenes.{take_variables}
use Rattle.certificate_notes.specs.View.{named}
use Rattle.certificate_notes.proofs.scenes.push_variables.Given as goal

abbrev pub invariant-loop-variable : goal.invariant-loop-variable
invariant-loop-variable l = take_variables (map variable (drop l.variable-index l.variables)) (map named l.names.items) ≡ take_variables (map variable l.variables) (map named l.initial.names.items)
