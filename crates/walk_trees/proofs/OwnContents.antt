-- What lines of the conditions say of buffers has the launch's symbols alone.
use Rattle.std.proofs.Common.{◌≡◌, ℕ, Bool, true, false, cond, List, [], ◌∷◌, map, Option, Some, None, arith, refl, nat_eq}
use Rattle.std.specs.Prelude.{ℤ, pos}
use Rattle.std.specs.Option.{option_map}
use Rattle.semantics.specs.Core.{Space, Global, Local}
use Rattle.semantics.specs.Conditions.{Factor, ArgumentFactor, GroupsFactor, Summand, Constant, Argument, Groups, Product, Content, Conditions}
use Rattle.linear.specs.Exact.{sum, multiple}
use Rattle.linear.specs.Products.{times, single, and_then}
use Rattle.facts.specs.Symbols as symbols
use Rattle.facts.specs.Symbols.{ArgumentOf, number, Fact, constant, once, minus}
use Rattle.facts.specs.Launching.{BufferBound, buffer_bound, buffer_bounds, factor_symbol, summand_form, sum_from, difference}
use Rattle.walk_trees.specs.Trees.{Tree}
use Rattle.walk_trees.specs.Walks.{Setting, State, claimed_once}
use Rattle.walk_trees.specs.Contents.{of_buffer, contents_in, content_fact, know_contents, claim_contents}
use Rattle.walk_trees.proofs.Each.{Each}
use Rattle.walk_trees.proofs.OwnForms.{IsOwnSymbol, IsOwn, own-sum, own-multiple, own-minus, own-alone, own-times, own-groups, own-given}
use Rattle.walk_trees.proofs.OwnQuotients.{HasOwn, IsOwnTree}

abbrev pub IsOwnSum : Option Fact → Type 0
IsOwnSum None = Unit {0}
IsOwnSum (Some f) = IsOwn f

abbrev pub IsOwnBound : BufferBound → Type 0
IsOwnBound x = IsOwnSum x.sum

own-factor : (x : Factor) → IsOwnSymbol (number (factor_symbol x))
own-factor (ArgumentFactor n) = own-alone (number (ArgumentOf n)) (omega arith)
own-factor (GroupsFactor d) = own-alone (number (symbols.Groups d)) (omega arith)

own-multiplied : (c : ℤ) (o : Option ℕ) → ((k : ℕ) → o ≡ Some k → IsOwnSymbol k) → IsOwnSum (option_map (multiple c) (option_map single o))
own-multiplied c None h = tt
own-multiplied c (Some k) h = own-multiple c (single k) (h k refl, tt)

own-summand : (x : Summand) → IsOwnSum (summand_form x)
own-summand (Constant z) = tt
own-summand (Argument c n) = own-multiple c (once (ArgumentOf n)) (own-given n)
own-summand (Groups c d) = own-multiple c (once (symbols.Groups d)) (own-groups d)
own-summand (Product c x y) = own-multiplied c (times (number (factor_symbol x)) (number (factor_symbol y))) (λ k e. own-times (number (factor_symbol x)) (number (factor_symbol y)) k e (own-factor x) (own-factor y))

own-next : (f : Fact) (o : Option Fact) (go : Fact → Option Fact) → IsOwn f → IsOwnSum o → ((g : Fact) → IsOwn g → IsOwnSum (go g)) → IsOwnSum (and_then o (λ g. go (sum f g)))
own-next f None go i j k = tt
own-next f (Some g) go i j k = k (sum f g) (own-sum f g i j)

own-sum_from : (f : Fact) (xs : List Summand) → IsOwn f → IsOwnSum (sum_from f xs)
own-sum_from f [] i = i
own-sum_from f (x ∷ xs) i = own-next f (summand_form x) (λ g. sum_from g xs) i (own-summand x) (λ g j. own-sum_from g xs j)

own-lines : (xs : List Content) → Each IsOwnBound (map buffer_bound xs)
own-lines [] = tt
own-lines (x ∷ xs) = (own-sum_from (constant (pos 0)) x.sum tt, own-lines xs)

pub own-bounds : (c : Conditions) → Each IsOwnBound (buffer_bounds c)
own-bounds c = own-lines c.contents

own-less : (o : Option Fact) (f : Fact) → IsOwnSum o → IsOwn f → IsOwn (difference o (Some f))
own-less None f i j = tt
own-less (Some g) f i j = own-minus g f i j

own-more : (o : Option Fact) (f : Fact) → IsOwnSum o → IsOwn f → IsOwn (difference (Some f) o)
own-more None f i j = tt
own-more (Some g) f i j = own-minus f g j i

own-fact : (b : ℕ) (up : Bool) (o : Option Fact) (f : Fact) → IsOwnSum o → IsOwn f → IsOwn (content_fact (record { buffer = b; is_upper = up; sum = o }) f)
own-fact b true o f i j = own-less o f i j
own-fact b false o f i j = own-more o f i j

either : (b : Bool) (x : BufferBound) (xs : List BufferBound) → IsOwnBound x → Each IsOwnBound xs → Each IsOwnBound (cond b (x ∷ xs) xs)
either true x xs i h = (i, h)
either false x xs i h = h

own-of : (b : ℕ) (xs : List BufferBound) → Each IsOwnBound xs → Each IsOwnBound (of_buffer b xs)
own-of b [] h = tt
own-of b (x ∷ xs) h = either (nat_eq x.buffer b) x (of_buffer b xs) h.0 (own-of b xs h.1)

module _ {E : Type 0} (s : Setting E) where
  pub own-in : (sp : Space) (b : ℕ) → Each IsOwnBound s.contents → Each IsOwnBound (contents_in s sp b)
  own-in Global b h = own-of b s.contents h
  own-in Local b h = tt

  pub knows : (xs : List BufferBound) (f : Fact) (st : State E) (go : State E → Tree E) → Each IsOwnBound xs → IsOwn f → HasOwn st → ((c : State E) → HasOwn c → IsOwnTree (go c)) → IsOwnTree (know_contents s xs f st go)
  unfolding IsOwnTree
  knows [] f st go o i h g = g st h
  knows (x ∷ xs) f st go o i h g = (own-fact x.buffer x.is_upper x.sum f o.0 i, knows xs f _ go o.1 i h g)

  pub claims_on : (xs : List BufferBound) (f : Fact) (st : State E) (go : State E → Tree E) → HasOwn st → ((c : State E) → HasOwn c → IsOwnTree (go c)) → IsOwnTree (claim_contents s xs f st go)
  unfolding IsOwnTree
  claims_on [] f st go h g = g st h
  claims_on (x ∷ xs) f st go h g = claims_on xs f (claimed_once st) go h g
