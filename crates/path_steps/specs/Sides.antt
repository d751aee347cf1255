-- What holds on each way of a comparison other than equality.
use Rattle.std.specs.Prelude.{◌≡◌, pos, Bool, true, false}
use Rattle.semantics.specs.Word.{Relation, Less, AtMost, More, AtLeast, Equal, Unequal}
use Rattle.facts.specs.Symbols.{Fact, minus}
use Rattle.walk_trees.specs.Trees.{Tree}
use Rattle.walk_trees.specs.Walks.{Setting, State, is_left_out, is_either_left_out, are_both_left_out}
use Rattle.walk_trees.specs.Joined.{are_joined, told_apart}
use Rattle.walk_trees.specs.Tests.{Outcomes, below, split_below, split_apart}
use Rattle.path_steps.specs.Paths.{choosing_unless}
use Rattle.path_steps.specs.declared.tests.LeftOut.{LeftOut}

-- for equality the two ways on which one is below the other
abbrev pub side : Relation → (first : Bool) → Fact → Fact → Fact
side Less true x y = below x y
side Less false x y = minus x y
side AtMost true x y = minus y x
side AtMost false x y = below y x
side More true x y = below y x
side More false x y = minus y x
side AtLeast true x y = minus x y
side AtLeast false x y = below x y
side Equal true x y = below x y
side Equal false x y = below y x
side Unequal true x y = below x y
side Unequal false x y = below y x

abbrev pub split_sides : {E : Type 0} → Setting E → (by_elements : Bool) → Relation → Fact → Fact → State E → Outcomes E → Tree E
split_sides s w r x y st go = split_below s w true false (side r true x y) (side r false x y) st go

-- one is below the other, or the other way round
abbrev pub one_below : {E : Type 0} → Setting E → Fact → Fact → State E → Outcomes E → Tree E
one_below s x y st go = split_below s s.is_wide false false (below x y) (below y x) st go

-- two numbers differ, by their differences
abbrev pub one_way : {E : Type 0} → Setting E → (more less : Fact) → State E → Outcomes E → Tree E
one_way s f g st go = told_apart s f g st (go false)

-- the ways on which two numbers differ
abbrev pub apart : {E : Type 0} → Setting E → Fact → Fact → State E → Outcomes E → Tree E
apart s x y st go = split_apart s (are_joined s (pos 1) (minus x y) (minus y x) st) x y st go

-- which of two ways is gone along, each with its fact
abbrev pub choosing_side : {E : Type 0} → Setting E → (by_elements : Bool) → (first second : Fact) → State E → Outcomes E → Tree E
choosing_side s w f g st go = choosing_unless (is_left_out s w f st) (is_left_out s w g st) st go

-- whether two numbers are equal
abbrev pub choosing_equal : {E : Type 0} → Setting E → Fact → Fact → State E → Outcomes E → Tree E
choosing_equal s x y st go = choosing_unless (is_either_left_out s s.is_wide (minus x y) (minus y x) st) (are_both_left_out s s.is_wide (below x y) (below y x) st) st go

-- which of three ways are left out: two, each with its fact, and a third one with two
abbrev pub AreLeftOut : {E : Type 0} → Setting E → (first second third fourth : Fact) → State E → LeftOut → Type 0
AreLeftOut s p q f g st o = (o.first ≡ is_left_out s s.is_wide p st) × (o.second ≡ is_left_out s s.is_wide q st) × (o.third ≡ is_either_left_out s s.is_wide f g st)
