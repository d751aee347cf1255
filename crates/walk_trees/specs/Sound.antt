-- What the walk of a term promises of the term's evaluation, as an item begins.
use Rattle.std.specs.Prelude.{◌≡◌, ◌<◌, ℕ, ℤ, pos, List, [], ◌∷◌, Bool, true, false, Some}
use Rattle.std.specs.List.{All, Contains}
use Rattle.semantics.specs.Word.{Word}
use Rattle.semantics.specs.Core.{Space, Array, Term}
use Rattle.semantics.specs.Launch.{Kernel}
use Rattle.semantics.specs.Setup.{Setup}
use Rattle.semantics.specs.Memory.{extent}
use Rattle.semantics.specs.Evaluation.{Outcome, Gives, Needs, Faults}
use Rattle.linear.specs.Linear.{value_of, IsMet}
use Rattle.arrivals.specs.Trees.{AtEnd}
use Rattle.facts.specs.Symbols.{First}
use Rattle.facts.specs.Launching.{item_facts}
use Rattle.walk_trees.specs.Held.{no_held}
use Rattle.walk_trees.specs.Trees.{Tree, Leaf, Access, Ended, accesses, ends}
use Rattle.walk_trees.specs.Values.{Value}
use Rattle.walk_trees.specs.Walks.{Setting, State, with_variables, arrived}
use Rattle.walk_trees.specs.Terms.{walk}
use Rattle.walk_trees.specs.Statements.{spot_of, opening_values}

abbrev pub any_space : Space → Bool
any_space sp = true

-- an item as it begins
abbrev pub beginning : {E : Type 0} → Kernel → State E
beginning k = record { claims = 0; variables = opening_values k; ranks = []; quotients = []; held = no_held; at = spot_of 0 }

-- a path ends with the term's value, as if that were the only variable
abbrev pub with_value : {E : Type 0} → Value → State E → Tree E
with_value x st = Leaf (arrived AtEnd (Some []) (with_variables (x ∷ []) st))

abbrev pub tree_of : {E : Type 0} → Setting E → Kernel → Term → Tree E
tree_of s k e = (walk s e).value (beginning k) with_value

-- some numbers of symbols under which the facts of an end hold, and its value is this word
pub record IsReached {E : Type 0} (all : List (Ended E)) (w : Word) : Type 0 where
  pub end : Ended E
  pub here : Contains all end
  pub value : Value
  pub only : end.arrived.variables ≡ value ∷ []
  pub numbers : ℕ → ℤ
  pub met : All (IsMet numbers) end.facts
  pub kind : value.kind ≡ w.kind
  pub same : value_of numbers value.form ≡ w.value

-- some under which the facts of a load of this array hold, and its index is this element, which the array has
pub record IsLoaded {E : Type 0} (all : List (Access E)) (s : Setup) (a : Array) (k : ℕ) : Type 0 where
  pub load : Access E
  pub here : Contains all load
  pub loads : load.target.is_store ≡ false
  pub array : load.target.array ≡ a
  pub numbers : ℕ → ℤ
  pub met : All (IsMet numbers) load.facts
  pub same : value_of numbers load.index ≡ pos k
  pub inside : k < extent s a

-- no fault: a value that is an end's, or an element that the tree loads
abbrev pub IsFound : {E : Type 0} → (loads : List (Access E)) → List (Ended E) → Setup → Outcome → Type 0
IsFound loads all s (Gives w rest) = IsReached all w
IsFound loads all s (Needs a k site) = IsLoaded loads s a k
IsFound loads all s (Faults f site) = ⊥

abbrev pub IsFoundIn : {E : Type 0} → Tree E → Setup → Outcome → Type 0
IsFoundIn t s o = IsFound (accesses (item_facts s.kernel.sizes First) 0 t) (ends (item_facts s.kernel.sizes First) 0 t) s o
