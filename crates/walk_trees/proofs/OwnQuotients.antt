-- What a walk tells of a quotient has own symbols alone.
use Rattle.std.proofs.Common.{◌≡◌, refl, ℕ, Bool, true, false, cond, List, [], ◌∷◌, length, Option, Some, None}
use Rattle.std.specs.Prelude.{ℤ, pos, ◌-ℤ◌}
use Rattle.semantics.specs.Word.{Kind}
use Rattle.linear.specs.Exact.{multiple}
use Rattle.facts.specs.Symbols.{Fact, constant, minus}
use Rattle.facts.specs.Elements.{between}
use Rattle.walk_trees.specs.Held.{narrow}
use Rattle.walk_trees.specs.Trees.{Tree, Leaf, Dead, Claim, Know, Touch, Fork}
use Rattle.walk_trees.specs.Values.{Value}
use Rattle.walk_trees.specs.Shares.{Shared, is_of, shared_of}
use Rattle.walk_trees.specs.Walks.{Setting, State, Onward, holding, lower_fact, upper_fact, know_all, with_quotient, newest, invent, any_of}
use Rattle.walk_trees.specs.Tests.{Outcomes}
use Rattle.walk_trees.specs.Quotients.{left_over, quotient, named_by, named, left_by}
use Rattle.walk_trees.specs.SharedQuotients.{is_shared, quotient_element, left_element, below_divisor, shared, keep, make, made, found_or_made, quotient_or_new, left_or_new}
use Rattle.walk_trees.specs.Operators.{small_product, multiplied, share}
use Rattle.walk_trees.specs.Bits.{tell_where}
use Rattle.walk_trees.proofs.OwnForms.{IsOwn, own-multiple, own-minus, own-new}

abbrev pub IsOwnValue : Value → Type 0
IsOwnValue v = IsOwn v.form

abbrev pub AreOwnValues : List Value → Type 0
AreOwnValues [] = Unit {0}
AreOwnValues (v ∷ vs) = IsOwnValue v × AreOwnValues vs

-- of a quotient by a form, and what it leaves
abbrev pub AreOwnShared : List Shared → Type 0
AreOwnShared [] = Unit {0}
AreOwnShared (q ∷ qs) = IsOwn q.quotient × IsOwn q.left × AreOwnShared qs

abbrev pub HasOwn : {E : Type 0} → State E → Type 0
HasOwn st = AreOwnValues st.variables × AreOwnShared st.quotients

unfoldable pub IsOwnTree : {E : Type 0} → Tree E → Type 0
IsOwnTree (Leaf e) = AreOwnValues e.variables
IsOwnTree Dead = Unit {0}
IsOwnTree (Claim o needed settled g rest) = IsOwnTree rest
IsOwnTree (Know f rest) = IsOwn f × IsOwnTree rest
IsOwnTree (Touch t i h rest) = IsOwn i × IsOwnTree rest
IsOwnTree (Fork first second) = IsOwnTree first × ((n : ℕ) → IsOwnTree (second n))

-- what goes on from an own form, from an own value, from an outcome
abbrev pub GoesOn : {E : Type 0} → (Fact → State E → Tree E) → Type 0
GoesOn {E} go = (f : Fact) (st : State E) → IsOwn f → HasOwn st → IsOwnTree (go f st)

abbrev pub GoesOnBy : {E : Type 0} → Onward E → Type 0
GoesOnBy {E} go = (v : Value) (st : State E) → IsOwnValue v → HasOwn st → IsOwnTree (go v st)

abbrev pub GoesEither : {E : Type 0} → Outcomes E → Type 0
GoesEither {E} go = (b : Bool) (st : State E) → HasOwn st → IsOwnTree (go b st)

module _ {E : Type 0} (s : Setting E) where
  lower : (f : Fact) (o : Option ℤ) (rest : List Fact) (t : Tree E) → IsOwn f → IsOwnTree (know_all rest t) → IsOwnTree (know_all (lower_fact f o rest) t)
  unfolding IsOwnTree
  lower f None rest t h k = k
  lower f (Some z) rest t h k = (own-minus f (constant z) h tt, k)

  upper : (f : Fact) (o : Option ℤ) (t : Tree E) → IsOwn f → IsOwnTree t → IsOwnTree (know_all (upper_fact f o) t)
  unfolding IsOwnTree
  upper f None t h k = k
  upper f (Some z) t h k = (own-minus (constant z) f tt h, k)

  pub invents : (e : E) (st : State E) (go : Fact → State E → Tree E) → HasOwn st → GoesOn go → IsOwnTree (invent s e st go)
  invents e st go h g =
      let b = s.domain.bounds_of e in
      let n = own-new (length st.held.news) in
      lower (newest st) b.low (upper_fact (newest st) b.high) _ n (upper (newest st) b.high _ n (g (newest st) _ n h))

  pub multiplieds : (o : Option Fact) (e : E) (st : State E) (go : Fact → State E → Tree E) → ((m : Fact) → o ≡ Some m → IsOwn m) → HasOwn st → GoesOn go → IsOwnTree (multiplied s o e st go)
  multiplieds None e st go i h g = invents e st go h g
  multiplieds (Some m) e st go i h g =
      let b = s.domain.bounds_of e in
      let n = i m refl in
      lower m b.low (upper_fact m b.high) _ n (upper m b.high _ n (g m st n h))

  pub quotients : (k : Kind) (x : Fact) (c : ℤ) (st : State E) (go : (q r : Fact) → State E → Tree E) → IsOwn x → HasOwn st → ((q r : Fact) (st' : State E) → IsOwn q → IsOwn r → HasOwn st' → IsOwnTree (go q r st')) → IsOwnTree (quotient s k x c st go)
  unfolding IsOwnTree
  quotients k x c st go i h g =
      let on : Fact → State E → Tree E = λ q st'. Know (left_over x c q) (Know (minus (constant (c -ℤ pos 1)) (left_over x c q)) (go q (left_over x c q) st')) in
      invents (any_of s.domain k) st on h (λ q st' j h'.
      let r = own-minus x (multiple c q) i (own-multiple c q j) in
      (r, (own-minus (constant (c -ℤ pos 1)) (left_over x c q) tt r, g q (left_over x c q) st' j r h')))

  names_by : (e : E) (x : Fact) (st : State E) (go : Fact → State E → Tree E) → IsOwn x → HasOwn st → GoesOn go → IsOwnTree (named_by s e x st go)
  unfolding IsOwnTree
  names_by e x st go i h g =
      let on : Fact → State E → Tree E = λ r st'. Know (minus x r) (Know (minus r x) (go r st')) in
      invents e st on h (λ r st' j h'. (own-minus x r i j, (own-minus r x j i, g r st' j h')))

  names : (c : ℤ) (x : Fact) (st : State E) (go : Fact → State E → Tree E) → IsOwn x → HasOwn st → GoesOn go → IsOwnTree (named s c x st go)
  names c x st go i h g = names_by (between s.domain (pos 0) (c -ℤ pos 1)) x st go i h g

  leaves : (b : Bool) (c : ℤ) (x : Fact) (st : State E) (go : Fact → State E → Tree E) → IsOwn x → HasOwn st → GoesOn go → IsOwnTree (cond b (named s c x st go) (go x st))
  leaves true c x st go i h g = names c x st go i h g
  leaves false c x st go i h g = g x st i h

  pub leaves_by : (k : Kind) (x : Fact) (c : ℤ) (st : State E) (go : Fact → State E → Tree E) → IsOwn x → HasOwn st → GoesOn go → IsOwnTree (left_by s k x c st go)
  leaves_by k x c st go i h g = quotients k x c st (λ q r st'. cond s.is_wide (named s c r st' go) (go r st')) i h (λ q r st' j l h'. leaves s.is_wide c r st' go l h' g)

  -- quotients by forms
  abbrev pub IsOwnFound : Option Shared → Type 0
  IsOwnFound None = Unit {0}
  IsOwnFound (Some q) = IsOwn q.quotient × IsOwn q.left

  abbrev pub GoesOnWith : (Option Shared → State E → Tree E) → Type 0
  GoesOnWith go = (o : Option Shared) (st : State E) → IsOwnFound o → HasOwn st → IsOwnTree (go o st)

  makes : (k : Kind) (x y p : Fact) (st : State E) (go : Option Shared → State E → Tree E) → IsOwn x → IsOwn y → IsOwn p → HasOwn st → GoesOnWith go → IsOwnTree (make s k x y p st go)
  unfolding IsOwnTree
  makes k x y p st go i j l h g =
      let left = own-minus x p i l in
      let one = own-minus y (constant (pos 1)) j tt in
      let under = own-minus (minus y (constant (pos 1))) (minus x p) one left in
      let last : Fact → Fact → State E → Tree E = λ q r st2. keep (shared x y q r) st2 go in
      invents (quotient_element s st k x y) st (λ q st1. Know (minus x p) (Know (below_divisor y (minus x p)) (named_by s (left_element s st x y) (minus x p) st1 (last q)))) h (λ q st1 a h1.
      (left, (under, names_by (left_element s st x y) (minus x p) st1 (last q) left h1 (λ r st2 b h2. g (Some (shared x y q r)) (with_quotient (shared x y q r) st2) (a, b) (h2.0, (a, b, h2.1))))))

  mades : (o : Option Fact) (k : Kind) (x y : Fact) (st : State E) (go : Option Shared → State E → Tree E) → ((p : Fact) → o ≡ Some p → IsOwn p) → IsOwn x → IsOwn y → HasOwn st → GoesOnWith go → IsOwnTree (made s o k x y st go)
  mades None k x y st go f i j h g = g None st tt h
  mades (Some p) k x y st go f i j h g = makes k x y p st go i j (f p refl) h g

  finds : (q : Option Shared) (o : Option Fact) (k : Kind) (x y : Fact) (st : State E) (go : Option Shared → State E → Tree E) → IsOwnFound q → ((p : Fact) → o ≡ Some p → IsOwn p) → IsOwn x → IsOwn y → HasOwn st → GoesOnWith go → IsOwnTree (found_or_made s q o k x y st go)
  finds None o k x y st go a f i j h g = mades o k x y st go f i j h g
  finds (Some q) o k x y st go a f i j h g = g (Some q) st a h

  either_found : (b : Bool) (q : Shared) (o : Option Shared) → IsOwnFound (Some q) → IsOwnFound o → IsOwnFound (cond b (Some q) o)
  either_found true q o i j = i
  either_found false q o i j = j

  own-found : (x y : Fact) (qs : List Shared) → AreOwnShared qs → IsOwnFound (shared_of x y qs)
  own-found x y [] h = tt
  own-found x y (q ∷ qs) h = either_found (is_of x y q) q (shared_of x y qs) (h.0, h.1) (own-found x y qs h.2)

  shares_where : (b : Bool) (q : Option Shared) (o : Option Fact) (k : Kind) (x y : Fact) (st : State E) (go : Option Shared → State E → Tree E) → IsOwnFound q → ((p : Fact) → o ≡ Some p → IsOwn p) → IsOwn x → IsOwn y → HasOwn st → GoesOnWith go → IsOwnTree (cond b (found_or_made s q o k x y st go) (go None st))
  shares_where true q o k x y st go a f i j h g = finds q o k x y st go a f i j h g
  shares_where false q o k x y st go a f i j h g = g None st tt h

  pub own-shares : (k : Kind) (x y : Fact) (st : State E) (go : Option Shared → State E → Tree E) → ((p : Fact) → small_product (newest st) y ≡ Some p → IsOwn p) → IsOwn x → IsOwn y → HasOwn st → GoesOnWith go → IsOwnTree (share s k x y st go)
  own-shares k x y st go f i j h g = shares_where (is_shared s st k x y) (shared_of x y st.quotients) (small_product (newest st) y) k x y st go (own-found x y st.quotients h.1) f i j h g

  pub quotients_or_new : (o : Option Shared) (x y : Fact) (st : State E) (go : Fact → State E → Tree E) → IsOwnFound o → HasOwn st → GoesOn go → IsOwnTree (quotient_or_new s o x y st go)
  quotients_or_new None x y st go a h g = invents _ st go h g
  quotients_or_new (Some q) x y st go a h g = g q.quotient st a.0 h

  pub lefts_or_new : (o : Option Shared) (x y : Fact) (st : State E) (go : Fact → State E → Tree E) → IsOwnFound o → HasOwn st → GoesOn go → IsOwnTree (left_or_new s o x y st go)
  lefts_or_new None x y st go a h g = invents _ st go h g
  lefts_or_new (Some q) x y st go a h g = g q.left st a.1 h

  pub tells : (b : Bool) (f : Fact) (st : State E) (go : State E → Tree E) → IsOwn f → HasOwn st → ((a : State E) → HasOwn a → IsOwnTree (go a)) → IsOwnTree (tell_where s b f st go)
  unfolding IsOwnTree
  tells true f st go i h g = (i, g (holding (narrow s.domain s.known f st.held) st) h)
  tells false f st go i h g = g st h
