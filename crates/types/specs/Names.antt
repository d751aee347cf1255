-- What the code's scope stands for.
use denote.Ref.{Bor}
use Rattle.std.specs.Prelude.{ℕ, List, map}
use Rattle.indexmap.specs.IndexMap.{IndexMap}
use Rattle.types.specs.Scope as scope
use Rattle.words.specs.View.{kind}
use Rattle.core_code.specs.View.{array, local_array, statement, statements}
use Rattle.types.specs.Elaboration.{Elaborated, elaborated, single}
use Rattle.core_code.specs.declared.tree.Statement.{Statement}
use Rattle.types.specs.declared.scope.Meaning.{Meaning}
use Rattle.types.specs.declared.scope.Meaning.TheVariants as meanings
use Rattle.types.specs.declared.scope.Scope.{Scope}
use Rattle.types.specs.declared.devices.Devices.{Devices}
use Rattle.types.specs.declared.devices.Devices.TheVariants as variants

abbrev pub devices : Devices → scope.Devices
devices variants.Bits32 = scope.Bits32
devices variants.Any = scope.Any

abbrev pub meaning_seen : Meaning → scope.Meaning
meaning_seen (meanings.Variable slot k) = scope.VariableAt slot (kind k)
meaning_seen (meanings.Array a k writable) = scope.ArrayAt (array a) (kind k) writable

abbrev pub binding : Bor (List ℕ) × Meaning → scope.Binding
binding entry = record { name = entry.0.now; meaning = meaning_seen entry.1 }

-- the map's entries stand in order of declaration
abbrev pub names : {S : Type 0} → IndexMap (Bor (List ℕ)) Meaning S → List scope.Binding
names visible = map binding visible.entries

abbrev pub scope_seen : Scope → scope.Scope
scope_seen s = record {
  devices = devices s.devices;
  visible = names s.visible;
  slots = map kind s.slots.items;
  buffers = map kind s.buffers.items;
  arrays = map local_array s.arrays.items;
}

-- one core statement, and the scope after it
abbrev pub one_seen : Scope → Statement → Elaborated
one_seen after s = elaborated (single (statement s)) (scope_seen after)

-- core statements, and the scope after them
abbrev pub all_seen : List Statement → Scope → Elaborated
all_seen ss after = elaborated (statements ss) (scope_seen after)
