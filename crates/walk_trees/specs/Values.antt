-- A value on an item's path, and what an item has where its path ends.
use Rattle.std.specs.Prelude.{List}
use Rattle.semantics.specs.Word.{Kind}
use Rattle.arrivals.specs.Trees.{Stop, Turns}
use Rattle.facts.specs.Symbols.{Fact}
use Rattle.walk_trees.specs.Held.{Held}

-- a form with the kind of its value
pub record Value : Type 0 where
  pub kind : Kind
  pub form : Fact

abbrev pub value : Kind → Fact → Value
value k f = record { kind = k; form = f }

-- where a path ends, with the loops that turned since the anchor, the variables there, and what the domain holds
pub record Arrived (E : Type 0) : Type 0 where
  pub stop : Stop
  pub turns : Turns
  pub variables : List Value
  pub held : Held E
