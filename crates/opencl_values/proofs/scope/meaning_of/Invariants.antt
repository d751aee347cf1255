use Rattle.std.proofs.Common.{◌≡◌, drop}
use Rattle.opencl_values.specs.Scope as scope
use Rattle.opencl_values.specs.View.{bindings, meaning_in}
use Rattle.opencl_values.proofs.scope.meaning_of.Given as goal

abbrev pub invariant-loop-binding : goal.invariant-loop-binding
invariant-loop-binding l = scope.meaning_with (meaning_in l.found) (bindings (drop l.binding-index l.visible)) l.name
    ≡ scope.meaning_of (bindings l.visible) l.name
