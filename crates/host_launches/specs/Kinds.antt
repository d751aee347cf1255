-- Whether the parameters of a text are those of an elaborated kernel.
use Rattle.std.specs.Prelude.{ℕ, List, [], ◌∷◌, ◌++◌, length, zero, suc, Bool, true, false, ◌&&◌, nat_eq}
use Rattle.semantics.specs.Word.{Kind, same_kind}
use Rattle.semantics.specs.Launch.{Kernel}
use Rattle.host_launches.specs.declared.shapes.Scalar.{Scalar}
use Rattle.host_launches.specs.declared.shapes.Shape.{Shape}
use Rattle.host_launches.specs.declared.shapes.Shape.TheVariants.{Value, Buffer, Local}
use Rattle.host_launches.specs.Shapes.{kind_of, stored_kind}

abbrev pub component_kinds : Scalar → (count : ℕ) → List Kind
component_kinds s zero = []
component_kinds s (suc n) = kind_of s ∷ component_kinds s n

abbrev pub value_kinds : Shape → List Kind
value_kinds (Value e) = component_kinds e.scalar e.width
value_kinds (Buffer e) = []
value_kinds (Local e count) = []

abbrev pub buffer_kinds : Shape → List Kind
buffer_kinds (Value e) = []
buffer_kinds (Buffer e) = stored_kind e.scalar ∷ []
buffer_kinds (Local e count) = []

abbrev pub all_kinds : (Shape → List Kind) → List Shape → List Kind
all_kinds kinds [] = []
all_kinds kinds (s ∷ ss) = kinds s ++ all_kinds kinds ss

abbrev pub same_rows : List Kind → List Kind → Bool
same_rows [] ks = true
same_rows (j ∷ js) [] = true
same_rows (j ∷ js) (k ∷ ks) = same_kind j k && same_rows js ks

abbrev pub same_kinds : List Kind → List Kind → Bool
same_kinds js ks = nat_eq (length js) (length ks) && same_rows js ks

-- a value has an argument for each component, and a buffer has one kind
abbrev pub are_parameters : Kernel → List Shape → Bool
are_parameters k ss = same_kinds k.arguments (all_kinds value_kinds ss) && same_kinds k.buffers (all_kinds buffer_kinds ss)
