-- A congruence is claimed twice, once from each side, with one quotient; so is a multiple.
use Rattle.std.specs.Prelude.{[], ◌∷◌, Bool, true, false, Option, Some, None}
use Rattle.walk_trees.specs.Trees.{Goal, AtLeastZero, Either, Replaced, Divided}

-- the second claim of either: no form is made on the way
abbrev pub is_second_claim : Option Goal → Bool
is_second_claim None = false
is_second_claim (Some (AtLeastZero f)) = false
is_second_claim (Some (Either p n)) = false
is_second_claim (Some (Replaced made f)) = false
is_second_claim (Some (Divided [] f)) = true
is_second_claim (Some (Divided (m ∷ ms) f)) = false
