-- Whether all forms that are made to show what there is to show, place by place, are of i64.
use Rattle.std.specs.Prelude.{List, [], ◌∷◌, Bool, true, ◌&&◌, Option, Some, None}
use Rattle.semantics.specs.Launch.{Kernel}
use Rattle.semantics.specs.Conditions.{Conditions}
use Rattle.domain.specs.declared.Domain.{Ghosts}
use Rattle.facts.specs.Launching.{launch_facts, known}
use Rattle.walk_trees.specs.Trees.{Goal, Obligation}
use Rattle.walk_trees.specs.Fitting.{all_fit, goal_fits, denials_fit, tree_fits, tree_denials_fit, differences_fit}
use Rattle.obligations.specs.Notes.{Notes}
use Rattle.obligations.specs.Listing.{Planted, all_trees, accesses_of, ends_in}
use Rattle.obligations.specs.Meetings.{meetings}
use Rattle.obligations.specs.Crossings.{Crossing, second_index, crossings}

-- of a place what is known there, and its tree with what denies its claims
abbrev pub planted_fits : {E : Type 0} → Planted E → Bool
planted_fits p = all_fit p.facts && (tree_fits p.claims p.tree && tree_denials_fit p.claims p.tree)

abbrev pub trees_fit : {E : Type 0} → List (Planted E) → Bool
trees_fit [] = true
trees_fit (p ∷ ps) = planted_fits p && trees_fit ps

-- of two ends what each goal says, and what denies it: of a variable that is to be alike both differences, a goal each
abbrev pub is_fit_goal : Option Goal → Bool
is_fit_goal None = true
is_fit_goal (Some g) = goal_fits g && denials_fit g

abbrev pub goals_fit : List Obligation → Bool
goals_fit [] = true
goals_fit (o ∷ os) = is_fit_goal o.goal && goals_fit os

-- of two accesses both differences of their indexes
abbrev pub crossing_fits : {E : Type 0} → Crossing E → Bool
crossing_fits x = differences_fit x.first.it.index (second_index x)

abbrev pub crossings_fit : {E : Type 0} → List (Crossing E) → Bool
crossings_fit [] = true
crossings_fit (x ∷ xs) = crossing_fits x && crossings_fit xs

abbrev pub forms_fit : {E : Type 0} → Ghosts E → Kernel → Conditions → Notes → Bool
forms_fit g k c n =
    trees_fit (all_trees g k c n)
    && (goals_fit (meetings g (known g k.sizes c) (launch_facts c) n (ends_in (all_trees g k c n)))
    && crossings_fit (crossings k c (accesses_of (all_trees g k c n))))
