-- Two items of a launch: how they differ, and in what order their ids are.
use Rattle.std.specs.Prelude.{ℕ, pos, List, [], Bool, true, false, nat_lt, int_lt}
use Rattle.semantics.specs.Launch.{Three}
use Rattle.semantics.specs.Setup.{along}
use Rattle.semantics.specs.Conditions.{Conditions}
use Rattle.facts.specs.Symbols.{Side, First, Second, Symbol, Local, Group, Fact, once, equals}
use Rattle.facts.specs.Launching.{count_range}
use Rattle.walk_trees.specs.Tests.{below}

-- items of one group, which differ in a local id, or of two groups, which differ in a group id
pub data Scope : Type 0 where
  Within : Scope
  Across : Scope

-- in a dimension, the first item's id is below the second one's, or above it
pub data Order : Type 0 where
  Below : Order
  Above : Order

abbrev pub id : Scope → Side → ℕ → Symbol
id Within w d = Local w d
id Across w d = Group w d

abbrev pub order_fact : Order → Fact → Fact → Fact
order_fact Below f g = below f g
order_fact Above f g = below g f

abbrev pub same_group : ℕ → List Fact
same_group d = equals (once (Group First d)) (once (Group Second d))

-- dimensions in which two items can differ
abbrev pub differs : Three ℕ → Conditions → Scope → ℕ → Bool
differs sizes c Within d = nat_lt 1 (along sizes d 1)
differs sizes c Across d = int_lt (pos 1) (count_range c d).high

abbrev pub where_so : {A : Type 0} → Bool → List A → List A
where_so true xs = xs
where_so false xs = []
