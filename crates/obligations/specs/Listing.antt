-- The trees of all places in order, with their claims, accesses and ends.
use Rattle.std.specs.Prelude.{ℕ, List, [], ◌∷◌, ◌++◌, map, Bool, true, false, Option, Some, None}
use Rattle.semantics.specs.Launch.{Kernel}
use Rattle.semantics.specs.Conditions.{Conditions}
use Rattle.domain.specs.declared.Domain.{Ghosts}
use Rattle.facts.specs.Symbols.{Fact}
use Rattle.facts.specs.Launching.{launch_facts}
use Rattle.arrivals.specs.Places.{Place, places}
use Rattle.walk_trees.specs.Trees.{Tree, Access, Ended, Obligation, after, claims, accesses, ends}
use Rattle.obligations.specs.Notes.{Notes, number_at}
use Rattle.obligations.specs.Roots.{root_facts}
use Rattle.obligations.specs.Walking.{tree_of}

-- a tree with what is known where it begins, and how many claims stand before it
pub record Planted (E : Type 0) : Type 0 where
  pub anchor : Option ℕ
  pub head : Option ℕ
  pub facts : List Fact
  pub claims : ℕ
  pub tree : Tree E

abbrev pub planted : {E : Type 0} → Ghosts E → Kernel → Conditions → Notes → ℕ → Place → Planted E
planted g k c n claims p = record {
  anchor = number_at p.anchor;
  head = number_at p.head;
  facts = root_facts k n (number_at p.anchor) (number_at p.head);
  claims = claims;
  tree = tree_of g k c n claims p;
}

abbrev pub planted_from : {E : Type 0} → Ghosts E → Kernel → Conditions → Notes → ℕ → List Place → List (Planted E)
planted_from g k c n claims [] = []
planted_from g k c n claims (p ∷ ps) = planted g k c n claims p ∷ planted_from g k c n (after claims (tree_of g k c n claims p)) ps

abbrev pub all_trees : {E : Type 0} → Ghosts E → Kernel → Conditions → Notes → List (Planted E)
all_trees g k c n = planted_from g k c n 0 (places k.body)

-- of a place's tree, with the place's anchor, and whether it is a loop's
pub record Of (A : Type 0) : Type 0 where
  pub anchor : Option ℕ
  pub is_head : Bool
  pub it : A

abbrev pub is_some : Option ℕ → Bool
is_some None = false
is_some (Some h) = true

abbrev pub of_place : {E A : Type 0} → Planted E → A → Of A
of_place p a = record { anchor = p.anchor; is_head = is_some p.head; it = a }

abbrev pub claims_of : {E : Type 0} → Conditions → List (Planted E) → List Obligation
claims_of c [] = []
claims_of c (p ∷ ps) = claims (launch_facts c) p.facts p.claims p.tree ++ claims_of c ps

abbrev pub accesses_of : {E : Type 0} → List (Planted E) → List (Of (Access E))
accesses_of [] = []
accesses_of (p ∷ ps) = map (of_place p) (accesses p.facts p.claims p.tree) ++ accesses_of ps

abbrev pub ends_in : {E : Type 0} → List (Planted E) → List (Of (Ended E))
ends_in [] = []
ends_in (p ∷ ps) = map (of_place p) (ends p.facts p.claims p.tree) ++ ends_in ps
