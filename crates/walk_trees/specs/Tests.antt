-- Tests split a path: each way begins with the facts of its outcome. A test makes no fork where one of its ways is left out.
use Rattle.std.specs.Prelude.{pos, negsuc, Bool, true, false, ◌&&◌, cond}
use Rattle.semantics.specs.Word.{Relation, Less, AtMost, More, AtLeast, Equal, Unequal}
use Rattle.linear.specs.Exact.{multiple}
use Rattle.facts.specs.Symbols.{Fact, constant, minus}
use Rattle.walk_trees.specs.Trees.{Tree}
use Rattle.walk_trees.specs.Walks.{Setting, State, fork, fork_unless, is_left_out, is_either_left_out, are_both_left_out, know_test, know_two}
use Rattle.walk_trees.specs.Joined.{are_joined, told_apart}

-- what goes on from the outcome of a test
abbrev pub Outcomes : Type 0 → Type 0
Outcomes E = Bool → State E → Tree E

-- x is below y
abbrev pub below : Fact → Fact → Fact
below x y = minus (minus y x) (constant (pos 1))

-- one is below the other, or not
abbrev pub split_below : {E : Type 0} → Setting E → (by_elements : Bool) → (first : Bool) → (otherwise : Bool) → Fact → Fact → State E → Outcomes E → Tree E
split_below s w first otherwise f g st go = fork_unless (is_left_out s w f st) (is_left_out s w g st) st (λ a. know_test s w f a (go first)) (λ a. know_test s w g a (go otherwise))

-- two numbers differ: one is below the other, or, where these ways are joined, one way; elements refute ways in the wide walk
abbrev pub split_apart : {E : Type 0} → Setting E → (joined : Bool) → Fact → Fact → State E → Outcomes E → Tree E
split_apart s true x y st go = told_apart s (minus x y) (minus y x) st (go false)
split_apart s false x y st go = split_below s s.is_wide false false (below x y) (below y x) st go

-- a form is not 0, or it is; the form and its negation. It is asked for where ways are joined, which the elements then do not refute
abbrev pub split_from_zero : {E : Type 0} → Setting E → (form negated : Fact) → State E → Outcomes E → Tree E
split_from_zero s f g st go = fork st (λ a. told_apart s f g a (go true)) (λ a. know_two s s.is_wide f g a (go false))

-- below, or 0
abbrev pub split_rest : {E : Type 0} → Setting E → (below_is_out zero_is_out : Bool) → (below form negated : Fact) → State E → Outcomes E → Tree E
split_rest s out none n f g st go = fork_unless out none st (λ a. know_test s s.is_wide n a (go true)) (λ a. know_two s s.is_wide f g a (go false))

-- above, below, or 0
abbrev pub split_sign : {E : Type 0} → Setting E → (above below form negated : Fact) → State E → Outcomes E → Tree E
split_sign s p n f g st go =
    fork_unless (is_left_out s s.is_wide p st) (is_left_out s s.is_wide n st && is_either_left_out s s.is_wide f g st) st
    (λ a. know_test s s.is_wide p a (go true)) (λ a. split_rest s (is_left_out s s.is_wide n st) (is_either_left_out s s.is_wide f g st) n f g a go)

-- the ways of a comparison, in their order. The wide walk leaves out ways of `==` and `!=` that the elements refute, and others where it
-- is asked to. Where ways are joined, the one on which the operands of `==` or `!=` differ stands in the place of the two on which one of
-- them is less
abbrev pub split : {E : Type 0} → Setting E → (by_elements : Bool) → Relation → Fact → Fact → State E → Outcomes E → Tree E
split s w Less x y st go = split_below s w true false (below x y) (minus x y) st go
split s w AtMost x y st go = split_below s w true false (minus y x) (below y x) st go
split s w More x y st go = split_below s w true false (below y x) (minus y x) st go
split s w AtLeast x y st go = split_below s w true false (minus x y) (below x y) st go
split s w Equal x y st go =
    fork_unless (is_either_left_out s s.is_wide (minus x y) (minus y x) st) (are_both_left_out s s.is_wide (below x y) (below y x) st) st
    (λ a. know_two s s.is_wide (minus x y) (minus y x) a (go true)) (λ a. split_apart s (are_joined s (pos 1) (minus x y) (minus y x) a) x y a go)
split s w Unequal x y st go = cond (are_joined s (pos 1) (minus x y) (minus y x) st) (split_from_zero s (minus x y) (minus y x) st go) (split_sign s (below x y) (below y x) (minus x y) (minus y x) st go)

-- a number as a test: above 0, below 0, or 0; the wide walk leaves out ways that the elements refute. Where ways are joined: not 0, or 0
abbrev pub split_number : {E : Type 0} → Setting E → Fact → State E → Outcomes E → Tree E
split_number s f st go = cond (are_joined s (pos 1) f (multiple (negsuc 0) f) st) (split_from_zero s f (multiple (negsuc 0) f) st go) (split_sign s (minus f (constant (pos 1))) (minus (constant (negsuc 0)) f) f (multiple (negsuc 0) f) st go)
