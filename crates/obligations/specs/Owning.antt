-- Accesses and ends of an item's trees that have symbols of the launch and of the first item alone, so that the second item's are copies.
use Rattle.std.specs.Prelude.{List, [], ◌∷◌, Bool, true, ◌&&◌}
use Rattle.walk_trees.specs.Seconds.{is_own, are_own, is_own_access}
use Rattle.walk_trees.specs.Trees.{Access, Ended}
use Rattle.walk_trees.specs.Values.{Value}
use Rattle.obligations.specs.Listing.{Of}

abbrev pub are_own_values : List Value → Bool
are_own_values [] = true
are_own_values (v ∷ vs) = is_own v.form && are_own_values vs

-- the facts and the variables' forms
abbrev pub is_own_end : {E : Type 0} → Ended E → Bool
is_own_end u = are_own_values u.arrived.variables && are_own u.facts

abbrev pub are_own_ends : {E : Type 0} → List (Ended E) → Bool
are_own_ends [] = true
are_own_ends (u ∷ us) = is_own_end u && are_own_ends us

-- of several places
abbrev pub all_own_accesses : {E : Type 0} → List (Of (Access E)) → Bool
all_own_accesses [] = true
all_own_accesses (u ∷ us) = is_own_access u.it && all_own_accesses us

abbrev pub all_own_ends : {E : Type 0} → List (Of (Ended E)) → Bool
all_own_ends [] = true
all_own_ends (u ∷ us) = is_own_end u.it && all_own_ends us
