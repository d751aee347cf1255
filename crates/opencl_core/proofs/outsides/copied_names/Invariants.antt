use Rattle.std.proofs.Common.{◌≡◌, ◌++◌, drop}
use Rattle.opencl_values.specs.View.{bindings}
use Rattle.opencl_core.proofs.outsides.copied_names.Given as goal

abbrev pub invariant-loop-binding : goal.invariant-loop-binding
invariant-loop-binding l = bindings l.all.items ++ bindings (drop l.binding-index l.names) ≡ bindings l.names
