use Rattle.std.proofs.Common.{◌≡◌, drop}
use Rattle.std.specs.Prelude.{map, nat_eq}
use Rattle.std.specs.List.{find, starts_with}
use Rattle.opencl_values.specs.Functions.{beginnings}
use Rattle.opencl_values.specs.FunctionsView.{construct_entry}
use Rattle.opencl_values.proofs.functions.construct_called.Given as goal

abbrev pub invariant-loop-text : goal.invariant-loop-text
invariant-loop-text l = find (λ e. starts_with nat_eq l.name e.0) beginnings
    ≡ find (λ e. starts_with nat_eq l.name e.0) (map construct_entry (drop l.text-index l.text-items))
