use Rattle.std.proofs.Common.{◌≡◌, drop}
use Rattle.std.specs.Prelude.{map}
use Rattle.std.specs.List.{find}
use Rattle.std.specs.Str.{bytes_eq}
use Rattle.opencl_values.specs.Constants.{integers}
use Rattle.opencl_values.specs.ConstantsView.{integer_entry}
use Rattle.opencl_values.proofs.constants.integer_named.Given as goal

abbrev pub invariant-loop-text : goal.invariant-loop-text
invariant-loop-text l = find (λ entry. bytes_eq entry.0 l.name) integers
    ≡ find (λ entry. bytes_eq entry.0 l.name) (map integer_entry (drop l.text-index l.text-items))
