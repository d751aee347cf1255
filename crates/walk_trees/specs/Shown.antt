-- When an obligation is shown.
use Rattle.std.specs.Prelude.{◌≡◌, ◌⊎◌, List, true, Option, Some, None}
use Rattle.linear.specs.Linear.{IsImpossible}
use Rattle.linear.specs.Products.{IsImpossibleWithProducts}
use Rattle.facts.specs.Symbols.{Fact}
use Rattle.walk_trees.specs.Trees.{Obligation, Manner, facts_by}

abbrev pub IsRefuted : Option (List Fact) → Type 0
IsRefuted None = ⊥
IsRefuted (Some facts) = IsImpossible facts

-- in a manner that fits, its facts are impossible
abbrev pub IsShownIn : Manner → Obligation → Type 0
IsShownIn m o = IsRefuted (facts_by m o)

-- where it is needed, the domain settles it or its facts are impossible
abbrev pub IsShown : Obligation → Type 0
IsShown o = o.needed ≡ true → (o.settled ≡ true) ⊎ ((m : Manner) × IsShownIn m o)

-- the same, products being products: what an item needs
abbrev pub IsRefutedWithProducts : Option (List Fact) → Type 0
IsRefutedWithProducts None = ⊥
IsRefutedWithProducts (Some facts) = IsImpossibleWithProducts facts

abbrev pub IsShownInWithProducts : Manner → Obligation → Type 0
IsShownInWithProducts m o = IsRefutedWithProducts (facts_by m o)

abbrev pub IsShownWithProducts : Obligation → Type 0
IsShownWithProducts o = o.needed ≡ true → (o.settled ≡ true) ⊎ ((m : Manner) × IsShownInWithProducts m o)
