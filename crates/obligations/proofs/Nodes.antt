-- An access that an item makes, and an end to which it comes, each with its node in the trees.
use Rattle.std.proofs.Common.{◌≡◌, ℕ, Bool, true, false, List, Option}
use Rattle.std.specs.Prelude.{ℤ, pos}
use Rattle.semantics.specs.Word.{Word}
use Rattle.semantics.specs.Core.{Array}
use Rattle.facts.proofs.Worlds.{View, Root, Means, Knows, variable_at}
use Rattle.arrivals.specs.Trees.{Stop, Turns}
use Rattle.walk_trees.specs.Trees.{Access, Ended}
use Rattle.walk_trees.proofs.Each.{Has}
use Rattle.walk_trees.proofs.Made.{IsFit}
use Rattle.obligations.specs.Listing.{Of}
use Rattle.obligations.specs.Meetings.{value_form}

-- a node of a list, with new numbers under which its facts hold and its index is the element
pub record Made {E : Type 0} (c : View E) (all : List (Of (Access E))) (at : Option ℕ) (is_head : Bool) (stored : Bool) (a : Array) (x : ℕ) : Type 0 where
  pub node : Of (Access E)
  pub news : List ℤ
  pub fit : IsFit c news node.it.held
  pub known : Knows c news node.it.facts
  pub index : Means c news node.it.index (pos x)
  pub store : node.it.target.is_store ≡ stored
  pub array : node.it.target.array ≡ a
  pub anchor : node.anchor ≡ at
  pub head : node.is_head ≡ is_head
  pub here : Has node all

-- a node of a list at which an item has come with these variables
pub record Reached {E : Type 0} (c : View E) (all : List (Of (Ended E))) (at : Option ℕ) (is_head : Bool) (stop : Stop) (turns : Turns) (vars : List Word) : Type 0 where
  pub node : Of (Ended E)
  pub news : List ℤ
  pub fit : IsFit c news node.it.arrived.held
  pub known : Knows c news node.it.facts
  pub forms : (x : ℕ) → Means c news (value_form node.it.arrived.variables x) (variable_at vars x)
  pub stopped : node.it.arrived.stop ≡ stop
  pub turned : node.it.arrived.turns ≡ turns
  pub anchor : node.anchor ≡ at
  pub head : node.is_head ≡ is_head
  pub here : Has node all

-- the variables that an item had at its anchor: at the anchor itself those where the path begins
abbrev pub at_anchor : (is_head : Bool) → Root → List Word
at_anchor false r = r.variables
at_anchor true r = r.anchor
