-- Parts of statements, written apart, and the `if` that they make.
use Rattle.std.specs.Prelude.{ℕ, [], ◌++◌, Bool, true, false, ◌&&◌, Ok}
use Rattle.semantics.specs.Core as core
use Rattle.semantics.specs.Core.{Site}
use Rattle.kernel_names.specs.NameMap.{Other}
use Rattle.opencl_values.specs.Faults.{Checked, then}
use Rattle.opencl_core.specs.Rooms.{Room, Part, put, apart, part_of, rejoined}

-- what is written apart, as a part of another statement
abbrev pub part : (Room → Checked Room) → Room → Checked (Part × Room)
part go r = then (go (apart r)) (λ s. Ok (part_of s, rejoined (part_of r) s))

abbrev pub no_part : Part
no_part = record { statements = core.none; standings = [] }

-- an `if` of a number, of which both parts are written
abbrev pub put_if : Site → (number : ℕ) → core.Term → (taken skipped : Part) → Room → Room
put_if at n t a b r = put (core.If n t a.statements b.statements) at Other (a.standings ++ b.standings) r

-- whether statements only assign, as the update of a loop does
abbrev pub is_assignment : core.Statement → Bool
is_assignment (core.Set n slot value) = true
is_assignment (core.Store n a s index value) = true
is_assignment s = false

abbrev pub are_assignments : core.Statements → Bool
are_assignments core.none = true
are_assignments (core.one s ss) = is_assignment s && are_assignments ss
