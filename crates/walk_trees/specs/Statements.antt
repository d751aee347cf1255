-- What a walk begins with, and where it stands.
use Rattle.std.specs.Prelude.{ℕ, suc, pos, List, [], ◌∷◌, ◌++◌, map, Bool, slice_set}
use Rattle.semantics.specs.Word.{Kind}
use Rattle.semantics.specs.Core.{Site}
use Rattle.semantics.specs.Launch.{Kernel}
use Rattle.semantics.specs.Conditions.{Conditions}
use Rattle.domain.specs.declared.Domain.{Ghosts}
use Rattle.facts.specs.Symbols.{ArgumentOf, constant, once}
use Rattle.facts.specs.Launching.{buffer_bounds, known}
use Rattle.walk_trees.specs.Trees.{Spot}
use Rattle.walk_trees.specs.Values.{Value, value}
use Rattle.walk_trees.specs.Walks.{Setting, State, with_variables}

abbrev pub nowhere : Site
nowhere = record { line = 0; column = 0 }

-- at a statement
abbrev pub spot_of : ℕ → Spot
spot_of n = record { statement = n; site = nowhere }

abbrev pub assigned : {E : Type 0} → ℕ → Value → State E → State E
assigned x v st = with_variables (slice_set st.variables x v) st

-- each value parameter is its argument, from the number n on
abbrev pub argument_values : ℕ → List Kind → List Value
argument_values n [] = []
argument_values n (k ∷ ks) = value k (once (ArgumentOf n)) ∷ argument_values (suc n) ks

abbrev pub zero_value : Kind → Value
zero_value k = value k (constant (pos 0))

-- as an item begins: a private variable is set before anything reads it
abbrev pub opening_values : Kernel → List Value
opening_values k = argument_values 0 k.arguments ++ map zero_value k.variables

-- of this kernel under these conditions
abbrev pub setting : {E : Type 0} → Ghosts E → Kernel → Conditions → (is_wide joins : Bool) → (has_entry : ℕ → Bool) → Setting E
setting g k c is_wide joins has_entry = record { is_wide = is_wide; joins = joins; domain = g; known = known g k.sizes c; sizes = k.sizes; buffers = k.buffers; arrays = k.arrays; contents = buffer_bounds c; has_entry = has_entry }
