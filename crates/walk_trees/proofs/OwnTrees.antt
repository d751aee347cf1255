-- The trees of what an item does have its own symbols, and the launch's, alone.
use Rattle.std.proofs.Common.{◌≡◌, ℕ, zero, suc, ◌+◌, ◌^◌, ◌%◌, ◌&&◌, Bool, true, false, not, cond, nat_lt, List, [], ◌∷◌, ◌++◌, length, map, slice_index_or, Option, Some, None, refl, lt-ltb}
use Rattle.std.proofs.lemmas.Bool.{and_from}
use Rattle.std.specs.Prelude.{ℤ, pos, negsuc, ◌+ℤ◌, slice_set}
use Rattle.std.specs.Ordering.{int_eq}
use Rattle.semantics.specs.Word.{Kind, Int, Uint, Size, Operator, Add, Subtract, Multiply, Divide, Remainder, BitAnd, BitOr, BitXor, UnaryOperator, Negate, Complement, ShiftLeft, ShiftRight, Direction, Leftward, Rightward, Relation, Less, AtMost, More, AtLeast, Equal, Unequal}
use Rattle.semantics.specs.Core.{Array, Site, Function, GlobalId, LocalId, GroupId, GlobalSize, LocalSize, NumGroups, Term, Literal, Variable, Id, Load, Unary, Binary, Convert, Compare, Not, And, Or, Select, Minimum, Maximum, Shift, Within, Opaque}
use Rattle.semantics.specs.Setup.{along}
use Rattle.linear.specs.Exact.{Terms, sum, multiple}
use Rattle.linear.specs.Products.{factors, product as form_product}
use Rattle.facts.specs.Symbols as symbols
use Rattle.facts.specs.Symbols.{First, Local, Group, Fact, constant, once, minus}
use Rattle.facts.specs.Launching.{BufferBound}
use Rattle.walk_trees.specs.Trees.{OfRange, Tree, Leaf, Dead, Claim, Know, Touch, Fork, Access, after, accesses}
use Rattle.walk_trees.specs.Values.{Value, value}
use Rattle.walk_trees.specs.Walks.{Setting, State, Onward, claimed_once, counted, bounds_of, newest, know_all, claim_form, unknown, any_of, is_kept, kept_or_new, ranged, brought_from, both_brought, at_site, fork, fork_unless, is_left_out, is_either_left_out, are_both_left_out, unless_dead, know_test, know_two, one_number, known_form}
use Rattle.walk_trees.specs.SharedQuotients.{quotient_or_new, left_or_new}
use Rattle.walk_trees.specs.Operators.{small_product, product_in, product, claim_divisor, claim_quotient, is_exact, asks_dividend, claim_dividend, divided, remaining, is_mask, are_from_zero, masked_by, masked, operate, known_operands, binary, complement, shifted, unary}
use Rattle.walk_trees.specs.Bits.{is_natural, tell_where, meet, join, differ}
use Rattle.walk_trees.specs.Shifts.{count_in, left_element, right_any, by_term, left_by_number, by_number, shift_by}
use Rattle.walk_trees.specs.Joined.{are_joined, excess, know_product, invent_excesses, apart_facts, told_apart, picked_element, picked_facts, pick_joined}
use Rattle.walk_trees.specs.Tests.{Outcomes, below, split_below, split_apart, split_from_zero, split_sign, split, split_number}
use Rattle.walk_trees.specs.Terms.{Walks, walk, no_value, truth_value, id_inside, id_outside, id_form, in_length, access, array_kind, element, keep_contents, stored, chosen, pick_split, is_joined_pick, pick}
use Rattle.walk_trees.specs.Contents.{contents_of}
use Rattle.walk_trees.specs.Statements.{argument_values, zero_value}
use Rattle.walk_trees.specs.Seconds.{are_own_factors, is_whole, is_own_symbol, are_own_terms, is_own, are_own}
use Rattle.walk_trees.proofs.Each.{Each}
use Rattle.walk_trees.proofs.Products.{product_by}
use Rattle.walk_trees.proofs.OwnForms.{AreOwnFactors, IsOwnSymbol, IsOwn, AreOwn, own-sum, own-multiple, own-product, own-minus, own-new, own-groups, own-given, own-local, own-group}
use Rattle.walk_trees.proofs.OwnQuotients.{IsOwnValue, AreOwnValues, HasOwn, IsOwnTree, GoesOn, GoesOnBy, GoesEither, invents, tells, multiplieds, quotients, leaves_by, own-shares, quotients_or_new, lefts_or_new}
use Rattle.walk_trees.proofs.OwnContents.{IsOwnBound, own-in, knows, claims_on}
use Rattle.walk_trees.proofs.OwnBits.{own_meet, own_join, own_differ, from_bits}

module _ {E : Type 0} (s : Setting E) where
  unknowns : (k : Kind) (st : State E) (go : Onward E) → HasOwn st → GoesOnBy go → IsOwnTree (unknown s k st go)
  unknowns k st go h g = invents s (any_of s.domain k) st (λ f st'. go (value k f) st') h (λ f st' i j. g (value k f) st' i j)

  kept : (b : Bool) (f : Fact) (st : State E) (go : Onward E) → IsOwn f → HasOwn st → GoesOnBy go → IsOwnTree (kept_or_new s b f st go)
  kept true f st go i h g = g (value Uint f) st i h
  kept false f st go i h g = unknowns Uint st go h g

  ranges : (k : Kind) (f : Fact) (st : State E) (go : Onward E) → IsOwn f → HasOwn st → GoesOnBy go → IsOwnTree (ranged s k f st go)
  unfolding IsOwnTree
  ranges Int f st go i h g = g (value Int f) (claimed_once (claimed_once st)) i h
  ranges Size f st go i h g = g (value Size f) (claimed_once (claimed_once st)) i h
  ranges Uint f st go i h g = kept (is_kept s f st) f (claimed_once (claimed_once st)) go i h g

  brings_from : (to from : Kind) (f : Fact) (st : State E) (go : Onward E) → IsOwn f → HasOwn st → GoesOnBy go → IsOwnTree (brought_from s to from f st go)
  brings_from Int Int f st go i h g = g (value Int f) st i h
  brings_from Int Uint f st go i h g = ranges Int f st go i h g
  brings_from Uint Int f st go i h g = ranges Uint f st go i h g
  brings_from Uint Uint f st go i h g = g (value Uint f) st i h
  brings_from Int Size f st go i h g = ranges Int f st go i h g
  brings_from Uint Size f st go i h g = g (value Uint f) st i h
  brings_from Size Int f st go i h g = ranges Size f st go i h g
  brings_from Size Uint f st go i h g = g (value Size f) st i h
  brings_from Size Size f st go i h g = g (value Size f) st i h

  brings_both : (k : Kind) (x y : Value) (st : State E) (go : Value → Value → State E → Tree E) → IsOwnValue x → IsOwnValue y → HasOwn st → ((v w : Value) (st' : State E) → IsOwnValue v → IsOwnValue w → HasOwn st' → IsOwnTree (go v w st')) → IsOwnTree (both_brought s k x y st go)
  brings_both k x y st go i j h g = brings_from k x.kind x.form st _ i h (λ v st1 p h1. brings_from k y.kind y.form st1 _ j h1 (λ w st2 q h2. g v w st2 p q h2))

  forks : (st : State E) (first second : State E → Tree E) → HasOwn st → ((a : State E) → HasOwn a → IsOwnTree (first a)) → ((a : State E) → HasOwn a → IsOwnTree (second a)) → IsOwnTree (fork st first second)
  unfolding IsOwnTree
  forks st first second h f g = (f st h, λ n. g (counted n st) h)

  forks_unless : (p q : Bool) (st : State E) (first second : State E → Tree E) → HasOwn st → ((a : State E) → HasOwn a → IsOwnTree (first a)) → ((a : State E) → HasOwn a → IsOwnTree (second a)) → IsOwnTree (fork_unless p q st first second)
  forks_unless true q st first second h f g = g st h
  forks_unless false true st first second h f g = f st h
  forks_unless false false st first second h f g = forks st first second h f g

  lives : (b : Bool) (f : Fact) (t : Tree E) → IsOwn f → IsOwnTree t → IsOwnTree (unless_dead b f t)
  unfolding IsOwnTree
  lives true f t i h = tt
  lives false f t i h = (i, h)

  tests : (w : Bool) (f : Fact) (st : State E) (go : State E → Tree E) → IsOwn f → HasOwn st → ((a : State E) → HasOwn a → IsOwnTree (go a)) → IsOwnTree (know_test s w f st go)
  tests w f st go i h g = lives (is_left_out s w f st) f _ i (g _ h)

  tests_two : (w : Bool) (f k : Fact) (st : State E) (go : State E → Tree E) → IsOwn f → IsOwn k → HasOwn st → ((a : State E) → HasOwn a → IsOwnTree (go a)) → IsOwnTree (know_two s w f k st go)
  tests_two w f k st go i j h g = tests w f st _ i h (λ a ha. tests w k a go j ha g)

  own-below : (x y : Fact) → IsOwn x → IsOwn y → IsOwn (below x y)
  own-below x y i j = own-minus (minus y x) (constant (pos 1)) (own-minus y x j i) tt

  splits_below : (w a b : Bool) (f g : Fact) (st : State E) (go : Outcomes E) → IsOwn f → IsOwn g → HasOwn st → GoesEither go → IsOwnTree (split_below s w a b f g st go)
  splits_below w a b f g st go i j h k = forks_unless (is_left_out s w f st) (is_left_out s w g st) st _ _ h (λ c hc. tests w f c (go a) i hc (k a)) (λ c hc. tests w g c (go b) j hc (k b))

  -- one of two trees
  one_of : (b : Bool) (t u : Tree E) → IsOwnTree t → IsOwnTree u → IsOwnTree (cond b t u)
  one_of true t u i j = i
  one_of false t u i j = j

  own-multiplied : (f k m : Fact) → IsOwn f → IsOwn k → small_product f k ≡ Some m → IsOwn m
  own-multiplied f k m i j e = own-product f k m (product_by (form_product f k) m e) i j

  knows_all : (fs : List Fact) (t : Tree E) → Each IsOwn fs → IsOwnTree t → IsOwnTree (know_all fs t)
  unfolding IsOwnTree
  knows_all [] t i h = h
  knows_all (f ∷ fs) t i h = (i.0, knows_all fs t i.1 h)

  knows_product : (o : Option Fact) (t : Tree E) → ((m : Fact) → o ≡ Some m → IsOwn m) → IsOwnTree t → IsOwnTree (know_product o t)
  unfolding IsOwnTree
  knows_product None t i h = h
  knows_product (Some m) t i h = (own-multiple (negsuc 0) m (i m refl), h)

  -- two new symbols
  excesses : (f k : Fact) (st : State E) (go : (p q : Fact) → State E → Tree E) → HasOwn st → ((p q : Fact) (a : State E) → IsOwn p → IsOwn q → HasOwn a → IsOwnTree (go p q a)) → IsOwnTree (invent_excesses s f k st go)
  excesses f k st go h g = invents s (excess s st f) st _ h (λ p st1 i h1. invents s (excess s st1 k) st1 _ h1 (λ q st2 j h2. knows_product (small_product p q) (go p q st2) (λ m e. own-multiplied p q m i j e) (g p q st2 i j h2)))

  tells_apart : (f k : Fact) (st : State E) (go : State E → Tree E) → IsOwn f → HasOwn st → ((a : State E) → HasOwn a → IsOwnTree (go a)) → IsOwnTree (told_apart s f k st go)
  tells_apart f k st go i h g = excesses f k st _ h (λ p q a u v ha. knows_all (apart_facts f p q) (go a)
      (own-minus f (minus p q) i (own-minus p q u v), (own-minus (minus p q) f (own-minus p q u v) i, (own-minus (sum p q) (constant (pos 1)) (own-sum p q u v) tt, tt))) (g a ha))

  splits_apart : (b : Bool) (x y : Fact) (st : State E) (go : Outcomes E) → IsOwn x → IsOwn y → HasOwn st → GoesEither go → IsOwnTree (split_apart s b x y st go)
  splits_apart true x y st go i j h g = tells_apart (minus x y) (minus y x) st (go false) (own-minus x y i j) h (g false)
  splits_apart false x y st go i j h g = splits_below s.is_wide false false (below x y) (below y x) st go (own-below x y i j) (own-below y x j i) h g

  from_zero : (f k : Fact) (st : State E) (go : Outcomes E) → IsOwn f → IsOwn k → HasOwn st → GoesEither go → IsOwnTree (split_from_zero s f k st go)
  from_zero f k st go i j h g = forks st _ _ h (λ a ha. tells_apart f k a (go true) i ha (g true)) (λ a ha. tests_two s.is_wide f k a (go false) i j ha (g false))

  by_sign : (p n f k : Fact) (st : State E) (go : Outcomes E) → IsOwn p → IsOwn n → IsOwn f → IsOwn k → HasOwn st → GoesEither go → IsOwnTree (split_sign s p n f k st go)
  by_sign p n f k st go ip jn i j h g =
      forks_unless (is_left_out s s.is_wide p st) (is_left_out s s.is_wide n st && is_either_left_out s s.is_wide f k st) st _ _ h
      (λ a ha. tests s.is_wide p a (go true) ip ha (g true)) (λ a ha. forks_unless (is_left_out s s.is_wide n st) (is_either_left_out s s.is_wide f k st) a _ _ ha (λ b hb. tests s.is_wide n b (go true) jn hb (g true)) (λ b hb. tests_two s.is_wide f k b (go false) i j hb (g false)))

  splits : (w : Bool) (r : Relation) (x y : Fact) (st : State E) (go : Outcomes E) → IsOwn x → IsOwn y → HasOwn st → GoesEither go → IsOwnTree (split s w r x y st go)
  splits w Less x y st go i j h g = splits_below w true false (below x y) (minus x y) st go (own-below x y i j) (own-minus x y i j) h g
  splits w AtMost x y st go i j h g = splits_below w true false (minus y x) (below y x) st go (own-minus y x j i) (own-below y x j i) h g
  splits w More x y st go i j h g = splits_below w true false (below y x) (minus y x) st go (own-below y x j i) (own-minus y x j i) h g
  splits w AtLeast x y st go i j h g = splits_below w true false (minus x y) (below x y) st go (own-minus x y i j) (own-below x y i j) h g
  splits w Equal x y st go i j h g =
      forks_unless (is_either_left_out s s.is_wide (minus x y) (minus y x) st) (are_both_left_out s s.is_wide (below x y) (below y x) st) st _ _ h
      (λ a ha. tests_two s.is_wide (minus x y) (minus y x) a (go true) (own-minus x y i j) (own-minus y x j i) ha (g true))
      (λ a ha. splits_apart (are_joined s (pos 1) (minus x y) (minus y x) a) x y a go i j ha g)
  splits w Unequal x y st go i j h g =
      one_of (are_joined s (pos 1) (minus x y) (minus y x) st) (split_from_zero s (minus x y) (minus y x) st go) (split_sign s (below x y) (below y x) (minus x y) (minus y x) st go)
      (from_zero (minus x y) (minus y x) st go (own-minus x y i j) (own-minus y x j i) h g)
      (by_sign (below x y) (below y x) (minus x y) (minus y x) st go (own-below x y i j) (own-below y x j i) (own-minus x y i j) (own-minus y x j i) h g)

  splits_number : (f : Fact) (st : State E) (go : Outcomes E) → IsOwn f → HasOwn st → GoesEither go → IsOwnTree (split_number s f st go)
  splits_number f st go i h g =
      one_of (are_joined s (pos 1) f (multiple (negsuc 0) f) st) (split_from_zero s f (multiple (negsuc 0) f) st go) (split_sign s (minus f (constant (pos 1))) (minus (constant (negsuc 0)) f) f (multiple (negsuc 0) f) st go)
      (from_zero f (multiple (negsuc 0) f) st go i (own-multiple (negsuc 0) f i) h g)
      (by_sign (minus f (constant (pos 1))) (minus (constant (negsuc 0)) f) f (multiple (negsuc 0) f) st go (own-minus f (constant (pos 1)) i tt) (own-minus (constant (negsuc 0)) f tt i) i (own-multiple (negsuc 0) f i) h g)

  product_ins : (b : Bool) (f k : Fact) (e : E) (st : State E) (go : Fact → State E → Tree E) → IsOwn f → IsOwn k → HasOwn st → GoesOn go → IsOwnTree (product_in s b f k e st go)
  product_ins true f k e st go i j h g = multiplieds s (small_product f k) e st go (λ m p. own-multiplied f k m i j p) h g
  product_ins false f k e st go i j h g = invents s e st go h g

  products : (ts us : Terms) (f k : Fact) (st : State E) (go : Fact → State E → Tree E) → IsOwn f → IsOwn k → HasOwn st → GoesOn go → IsOwnTree (product s ts us f k st go)
  products ts [] f k st go i j h g = g (multiple k.constant f) st (own-multiple k.constant f i) h
  products [] (u ∷ us) f k st go i j h g = g (multiple f.constant k) st (own-multiple f.constant k j) h
  products (t ∷ ts) (u ∷ us) f k st go i j h g = product_ins s.is_wide f k _ st go i j h g

  divides : (b : Bool) (k : Kind) (x y : Fact) (st : State E) (go : Fact → State E → Tree E) → IsOwn x → IsOwn y → HasOwn st → GoesOn go → IsOwnTree (divided s b k x y st go)
  divides true k x y st go i j h g = quotients s k x y.constant st _ i h (λ q r st' j l h'. g q st' j h')
  divides false k x y st go i j h g = own-shares s k x y st (λ q st'. quotient_or_new s q x y st' go) (λ p e. own-multiplied (newest st) y p (own-new (length st.held.news)) j e) i j h (λ o st' a h'. quotients_or_new s o x y st' go a h' g)

  remains : (b : Bool) (k : Kind) (x y : Fact) (st : State E) (go : Fact → State E → Tree E) → IsOwn x → IsOwn y → HasOwn st → GoesOn go → IsOwnTree (remaining s b k x y st go)
  remains true k x y st go i j h g = leaves_by s k x y.constant st go i h g
  remains false k x y st go i j h g = own-shares s k x y st (λ q st'. left_or_new s q x y st' go) (λ p e. own-multiplied (newest st) y p (own-new (length st.held.news)) j e) i j h (λ o st' a h'. lefts_or_new s o x y st' go a h' g)

  masks_by : (b : Bool) (k : Kind) (x y : Fact) (st : State E) (go : Fact → State E → Tree E) → HasOwn st → GoesOn go → IsOwnTree (masked_by s b k x y st go)
  masks_by true k x y st go h g = invents s _ st go h g
  masks_by false k x y st go h g = invents s _ st go h g

  meets : (b : Bool) (k : Kind) (x y : Fact) (st : State E) (go : Fact → State E → Tree E) → IsOwn x → IsOwn y → HasOwn st → GoesOn go → IsOwnTree (cond b (meet s k x y st go) (masked_by s (are_from_zero s st x y) k x y st go))
  meets true k x y st go i j h g = own_meet s k x y st go i j h g
  meets false k x y st go i j h g = masks_by (are_from_zero s st x y) k x y st go h g

  masks : (b : Bool) (k : Kind) (x y : Fact) (st : State E) (go : Fact → State E → Tree E) → IsOwn x → IsOwn y → HasOwn st → GoesOn go → IsOwnTree (masked s b k x y st go)
  masks true k x y st go i j h g = leaves_by s k x (y.constant +ℤ pos 1) st go i h g
  masks false k x y st go i j h g = meets s.is_wide k x y st go i j h g

  claims_quotient : (k : Kind) (x y : Fact) (st : State E) (go : State E → Tree E) → HasOwn st → ((a : State E) → HasOwn a → IsOwnTree (go a)) → IsOwnTree (claim_quotient s k x y st go)
  unfolding IsOwnTree
  claims_quotient Uint x y st go h g = g st h
  claims_quotient Size x y st go h g = g st h
  claims_quotient Int x y st go h g = g (claimed_once st) h

  claims_divisor : (k : Kind) (x y : Fact) (st : State E) (go : State E → Tree E) → HasOwn st → ((a : State E) → HasOwn a → IsOwnTree (go a)) → IsOwnTree (claim_divisor s k x y st go)
  unfolding IsOwnTree
  claims_divisor k x y st go h g = claims_quotient k x y (claimed_once st) go h g

  asks : (b : Bool) (k : Kind) (x y : Fact) (st : State E) (go : Bool → State E → Tree E) → HasOwn st → GoesEither go →
      IsOwnTree (cond b (claim_form s (OfRange Uint) (s.has_entry (st.claims + 1)) x st (λ st'. go (s.has_entry (st.claims + 1)) st')) (go (is_exact s st k x y) st))
  unfolding IsOwnTree
  asks true k x y st go h g = g (s.has_entry (st.claims + 1)) (claimed_once st) h
  asks false k x y st go h g = g (is_exact s st k x y) st h

  claims_dividend : (k : Kind) (x y : Fact) (st : State E) (go : Bool → State E → Tree E) → HasOwn st → GoesEither go → IsOwnTree (claim_dividend s k x y st go)
  claims_dividend k x y st go h g = asks (asks_dividend s st k x y) k x y st go h g

  operates : (op : Operator) (k : Kind) (x y : Fact) (st : State E) (go : Onward E) → IsOwn x → IsOwn y → HasOwn st → GoesOnBy go → IsOwnTree (operate s op k x y st go)
  operates Add k x y st go i j h g = ranges k (sum x y) st go (own-sum x y i j) h g
  operates Subtract k x y st go i j h g = ranges k (minus x y) st go (own-minus x y i j) h g
  operates Multiply k x y st go i j h g = products x.terms y.terms x y st _ i j h (λ f st' l h'. ranges k f st' go l h' g)
  operates Divide k x y st go i j h g = claims_divisor k x y st _ h (λ a ha. claims_dividend k x y a _ ha (λ b st' h'. divides b k x y st' _ i j h' (λ f st'' l h''. g (value k f) st'' l h'')))
  operates Remainder k x y st go i j h g = claims_divisor k x y st _ h (λ a ha. claims_dividend k x y a _ ha (λ b st' h'. remains b k x y st' _ i j h' (λ f st'' l h''. g (value k f) st'' l h'')))
  operates BitAnd k x y st go i j h g = masks (is_mask s.is_wide k y) k x y st _ i j h (λ f st' l h'. g (value k f) st' l h')
  operates BitOr k x y st go i j h g =
      let on : Fact → State E → Tree E = λ f st'. go (value k f) st' in
      one_of s.is_wide (join s k x y st on) (unknown s k st go) (own_join s k x y st on i j h (λ f st' l h'. g (value k f) st' l h')) (unknowns k st go h g)
  operates BitXor k x y st go i j h g =
      let on : Fact → State E → Tree E = λ f st'. go (value k f) st' in
      one_of s.is_wide (differ s k x y st on) (unknown s k st go) (own_differ s k x y st on i j h (λ f st' l h'. g (value k f) st' l h')) (unknowns k st go h g)

  either : (b : Bool) (f k : Fact) → IsOwn f → IsOwn k → IsOwn (cond b f k)
  either true f k i j = i
  either false f k i j = j

  -- an operand that is a number
  own-one : (low high : Option ℤ) (f : Fact) → IsOwn f → IsOwn (one_number low high f)
  own-one None high f i = i
  own-one (Some low) None f i = i
  own-one (Some low) (Some high) f i = either (int_eq low high) (constant low) f tt i

  own-known : (st : State E) (f : Fact) → IsOwn f → IsOwn (known_form s st f)
  own-known st f i = either s.is_wide (one_number (bounds_of s st f).low (bounds_of s st f).high f) f (own-one (bounds_of s st f).low (bounds_of s st f).high f i) i

  of_known : (op : Operator) (k : Kind) (x y : Fact) (st : State E) (go : Onward E) → IsOwn x → IsOwn y → HasOwn st → GoesOnBy go → IsOwnTree (known_operands s op k x y st go)
  of_known op k x y st go i j h g = operates op k (known_form s st x) (known_form s st y) st go (own-known st x i) (own-known st y j) h g

  binaries : (op : Operator) (k : Kind) (x y : Fact) (st : State E) (go : Onward E) → IsOwn x → IsOwn y → HasOwn st → GoesOnBy go → IsOwnTree (binary s op k x y st go)
  binaries Add k x y st go i j h g = operates Add k x y st go i j h g
  binaries Subtract k x y st go i j h g = operates Subtract k x y st go i j h g
  binaries Multiply k x y st go i j h g = of_known Multiply k x y st go i j h g
  binaries Divide k x y st go i j h g = of_known Divide k x y st go i j h g
  binaries Remainder k x y st go i j h g = of_known Remainder k x y st go i j h g
  binaries BitAnd k x y st go i j h g = of_known BitAnd k x y st go i j h g
  binaries BitOr k x y st go i j h g = of_known BitOr k x y st go i j h g
  binaries BitXor k x y st go i j h g = of_known BitXor k x y st go i j h g

  own-complement : (k : Kind) (f : Fact) → IsOwn f → IsOwn (complement k f)
  own-complement Int f i = own-minus (constant (negsuc 0)) f tt i
  own-complement Uint f i = own-minus (constant (pos 4294967295)) f tt i
  own-complement Size f i = own-minus (constant (negsuc 0)) f tt i

  shifts : (from to : Kind) (f : Fact) (by : ℕ) (st : State E) (go : Onward E) → IsOwn f → HasOwn st → GoesOnBy go → IsOwnTree (shifted s from to f by st go)
  shifts Uint k f by st go i h g = quotients s k f (pos (2 ^ by)) st _ i h (λ q r st' j l h'. g (value k q) st' j h')
  shifts Size k f by st go i h g = quotients s k f (pos (2 ^ by)) st _ i h (λ q r st' j l h'. g (value k q) st' j h')
  shifts Int k f by st go i h g = unknowns k st go h g

  unaries : (op : UnaryOperator) (k : Kind) (x : Value) (st : State E) (go : Onward E) → IsOwnValue x → HasOwn st → GoesOnBy go → IsOwnTree (unary s op k x st go)
  unaries Negate k x st go i h g = ranges k (multiple (negsuc 0) x.form) st go (own-multiple (negsuc 0) x.form i) h g
  unaries Complement k x st go i h g = ranges k (complement k x.form) st go (own-complement k x.form i) h g
  unaries (ShiftLeft by) k x st go i h g = ranges k (multiple (pos (2 ^ by)) x.form) st go (own-multiple (pos (2 ^ by)) x.form i) h g
  unaries (ShiftRight by) k x st go i h g = shifts x.kind k x.form by st go i h g

  rights_any : (k : Kind) (x : Fact) (st : State E) (go : Fact → State E → Tree E) → IsOwn x → HasOwn st → GoesOn go → IsOwnTree (right_any s k x st go)
  rights_any k x st go i h g = invents s _ st (λ r st1. tell_where s (is_natural s st k x) (minus x r) st1 (λ st2. go r st2)) h (λ r st1 l h1. tells s (is_natural s st k x) (minus x r) st1 (λ st2. go r st2) (own-minus x r i l) h1 (λ st2 h2. g r st2 l h2))

  by_terms : (d : Direction) (k : Kind) (x : Fact) (st : State E) (go : Fact → State E → Tree E) → IsOwn x → HasOwn st → GoesOn go → IsOwnTree (by_term s d k x st go)
  by_terms Leftward k x st go i h g = invents s (left_element s k x) st go h g
  by_terms Rightward k x st go i h g = rights_any k x st go i h g

  lefts_by_number : (k : Kind) (n : ℕ) (x : Fact) (st : State E) (go : Onward E) → IsOwn x → HasOwn st → GoesOnBy go → IsOwnTree (left_by_number s k n x st go)
  lefts_by_number Int n x st go i h g = unknowns Int st go h g
  lefts_by_number Uint n x st go i h g = ranges Uint (multiple (pos (2 ^ n)) x) st go (own-multiple (pos (2 ^ n)) x i) h g
  lefts_by_number Size n x st go i h g = unknowns Size st go h g

  by_numbers : (d : Direction) (k : Kind) (n : ℕ) (x : Fact) (st : State E) (go : Onward E) → IsOwn x → HasOwn st → GoesOnBy go → IsOwnTree (by_number s d k n x st go)
  by_numbers Leftward k n x st go i h g = lefts_by_number k n x st go i h g
  by_numbers Rightward k n x st go i h g = from_bits s n k x st (λ q st'. go (value k q) st') i h (λ q st' l h'. g (value k q) st' l h')

  shifts_by : (o : Option ℕ) (d : Direction) (k : Kind) (x : Fact) (st : State E) (go : Onward E) → IsOwn x → HasOwn st → GoesOnBy go → IsOwnTree (shift_by s o d k x st go)
  shifts_by None d k x st go i h g = by_terms d k x st (λ r st'. go (value k r) st') i h (λ r st' l h'. g (value k r) st' l h')
  shifts_by (Some n) d k x st go i h g = by_numbers d k n x st go i h g

  lengths_on : (n i : Fact) (st : State E) (go : State E → Tree E) → HasOwn st → ((c : State E) → HasOwn c → IsOwnTree (go c)) → IsOwnTree (in_length s n i st go)
  unfolding IsOwnTree
  lengths_on n i st go h g = g (claimed_once (claimed_once st)) h

  own-outside : (f : Function) → IsOwn (id_outside f)
  own-outside GlobalId = tt
  own-outside LocalId = tt
  own-outside GroupId = tt
  own-outside GlobalSize = tt
  own-outside LocalSize = tt
  own-outside NumGroups = tt

  own-inside : (f : Function) (d : ℕ) → IsOwn (id_inside s f d)
  own-inside GlobalId d = own-sum (multiple (pos (along s.sizes d 1)) (once (Group First d))) (once (Local First d)) (own-multiple (pos (along s.sizes d 1)) (once (Group First d)) (own-group d)) (own-local d)
  own-inside LocalId d = own-local d
  own-inside GroupId d = own-group d
  own-inside GlobalSize d = own-multiple (pos (along s.sizes d 1)) (once (symbols.Groups d)) (own-groups d)
  own-inside LocalSize d = tt
  own-inside NumGroups d = own-groups d

  own-variable : (vs : List Value) (x : ℕ) → AreOwnValues vs → IsOwnValue (slice_index_or vs x no_value)
  own-variable [] x h = tt
  own-variable (v ∷ vs) zero h = h.0
  own-variable (v ∷ vs) (suc x) h = own-variable vs x h.1

  pub accesses_on : (b : Bool) (a : Array) (site : Site) (i : Fact) (st : State E) (go : State E → Tree E) → IsOwn i → HasOwn st → ((c : State E) → HasOwn c → IsOwnTree (go c)) → IsOwnTree (access s b a site i st go)
  unfolding IsOwnTree
  accesses_on b a site i st go j h g = (j, g (claimed_once (claimed_once (at_site site st))) h)

  picks_split : (x y second first : Value) (st : State E) (go : Onward E) → IsOwnValue x → IsOwnValue y → IsOwnValue second → IsOwnValue first → HasOwn st → GoesOnBy go → IsOwnTree (pick_split s x y second first st go)
  picks_split x y second first st go i j k l h g = splits s.is_wide Less x.form y.form st _ i j h (λ b a ha. g (chosen b second first) a (of b) ha)
    where
      of : (b : Bool) → IsOwnValue (chosen b second first)
      of true = k
      of false = l

  elements : (a : Array) (st : State E) (go : Onward E) → Each IsOwnBound s.contents → HasOwn st → GoesOnBy go → IsOwnTree (element s a st go)
  elements a st go o h g = unknowns (array_kind s a) st _ h (λ v st1 i h1. knows s (contents_of s a) v.form st1 _ (own-in s a.space a.number o) i h1 (λ st2 h2. g v st2 i h2))

  keeps : (xs : List BufferBound) (k : Kind) (site : Site) (v : Value) (st : State E) (go : State E → Tree E) → IsOwnValue v → HasOwn st → ((c : State E) → HasOwn c → IsOwnTree (go c)) → IsOwnTree (keep_contents s xs k site v st go)
  keeps [] k site v st go i h g = g st h
  keeps (x ∷ xs) k site v st go i h g = brings_from k v.kind v.form (at_site site st) _ i h (λ v' st1 j h1. claims_on s (x ∷ xs) v'.form st1 go h1 g)

  pub stores_on : (a : Array) (site : Site) (x v : Value) (st : State E) (go : State E → Tree E) → IsOwnValue x → IsOwnValue v → HasOwn st → ((c : State E) → HasOwn c → IsOwnTree (go c)) → IsOwnTree (stored s a site x v st go)
  stores_on a site x v st go i j h g = keeps (contents_of s a) (array_kind s a) site v st _ j h (λ st1 h1. accesses_on true a site x.form st1 go i h1 g)

  own-picked : (b : Bool) (x y m p q : Fact) → IsOwn x → IsOwn y → IsOwn m → IsOwn p → IsOwn q → Each IsOwn (picked_facts b x y m p q)
  own-picked false x y m p q i j k u v =
      let mp = own-sum m p k u in
      let mq = own-sum m q k v in
      (own-minus y (sum m p) j mp, (own-minus (sum m p) y mp j, (own-minus x (sum m q) i mq, (own-minus (sum m q) x mq i, tt))))
  own-picked true x y m p q i j k u v =
      let mp = own-minus m p k u in
      let mq = own-minus m q k v in
      (own-minus x (minus m p) i mp, (own-minus (minus m p) x mp i, (own-minus y (minus m q) j mq, (own-minus (minus m q) y mq j, tt))))

  picks_joined : (b : Bool) (k : Kind) (x y : Fact) (st : State E) (go : Onward E) → IsOwn x → IsOwn y → HasOwn st → GoesOnBy go → IsOwnTree (pick_joined s b k x y st go)
  picks_joined b k x y st go i j h g =
      invents s (picked_element s b st x y) st _ h (λ m st1 l h1.
      excesses (minus y x) (minus x y) st1 _ h1 (λ p q st2 u v h2. knows_all (picked_facts b x y m p q) (go (value k m) st2) (own-picked b x y m p q i j l u v) (g (value k m) st2 l h2)))

  picks : (b : Bool) (x y second first : Value) (st : State E) (go : Onward E) → IsOwnValue x → IsOwnValue y → IsOwnValue second → IsOwnValue first → HasOwn st → GoesOnBy go → IsOwnTree (pick s b x y second first st go)
  picks b x y second first st go i j k l h g = one_of (is_joined_pick s x y st) (pick_joined s b x.kind x.form y.form st go) (pick_split s x y second first st go) (picks_joined b x.kind x.form y.form st go i j h g) (picks_split x y second first st go i j k l h g)

  pub record Own (w : Walks E) : Type 0 where
    pub as_value : (st : State E) (go : Onward E) → HasOwn st → GoesOnBy go → IsOwnTree (w.value st go)
    pub as_test : (st : State E) (go : Outcomes E) → HasOwn st → GoesEither go → IsOwnTree (w.test st go)

  of_value : (v : State E → Onward E → Tree E) → ((st : State E) (go : Onward E) → HasOwn st → GoesOnBy go → IsOwnTree (v st go)) → Own (record { value = v; test = λ st go. v st (λ x st'. split_number s x.form st' go) })
  of_value v f = record { as_value = f; as_test = λ st go h g. f st _ h (λ x st' i h'. splits_number x.form st' go i h' g) }

  own-truth : (b : Bool) → IsOwnValue (truth_value b)
  own-truth b = tt

  of_test : (t : State E → Outcomes E → Tree E) → ((st : State E) (go : Outcomes E) → HasOwn st → GoesEither go → IsOwnTree (t st go)) → Own (record { value = λ st go. t st (λ b st'. go (truth_value b) st'); test = t })
  of_test t f = record { as_value = λ st go h g. f st _ h (λ b st' h'. g (truth_value b) st' (own-truth b) h'); as_test = f }

  pub selects : (b : Bool) (t u : Tree E) → IsOwnTree t → IsOwnTree u → IsOwnTree (chosen b t u)
  selects true t u h k = h
  selects false t u h k = k

  pub own : Each IsOwnBound s.contents → (e : Term) → Own (walk s e)
  own o (Literal k z) = of_value _ (λ st go h g. g (value k (constant z)) st tt h)
  own o (Variable x) = of_value _ (λ st go h g. g _ st (own-variable st.variables x h.0) h)
  own o (Id k f d) = of_value _ (λ st go h g. g (value k (id_form s f d)) st (either (nat_lt d 3) (id_inside s f d) (id_outside f) (own-inside f d) (own-outside f)) h)
  own o (Load a site e) = of_value _ (λ st go h g. (own o e).as_value st _ h (λ x st1 i h1. accesses_on false a site x.form st1 (λ st2. element s a st2 go) i h1 (λ st2 h2. elements a st2 go o h2 g)))
  own o (Unary op k site e) = of_value _ (λ st go h g. (own o e).as_value st _ h (λ x st1 i h1. unaries op k x (at_site site st1) go i h1 g))
  own o (Binary op k site a b) = of_value _ (λ st go h g. (own o a).as_value st _ h (λ x st1 i h1. (own o b).as_value st1 _ h1 (λ y st2 j h2.
      brings_both k x y (at_site site st2) _ i j h2 (λ v w st3 p q h3. binaries op k v.form w.form st3 go p q h3 g))))
  own o (Convert k site e) = of_value _ (λ st go h g. (own o e).as_value st _ h (λ x st1 i h1. brings_from k x.kind x.form (at_site site st1) go i h1 g))
  own o (Compare r k a b) = of_test _ (λ st go h g. (own o a).as_value st _ h (λ x st1 i h1. (own o b).as_value st1 _ h1 (λ y st2 j h2.
      brings_both k x y st2 _ i j h2 (λ v w st3 p q h3. splits false r v.form w.form st3 go p q h3 g))))
  own o (Not e) = of_test _ (λ st go h g. (own o e).as_test st _ h (λ b st1 h1. g (not b) st1 h1))
  own o (And a b) = of_test _ (λ st go h g. (own o a).as_test st _ h (λ t st1 h1. selects t _ _ ((own o b).as_test st1 go h1 g) (g false st1 h1)))
  own o (Or a b) = of_test _ (λ st go h g. (own o a).as_test st _ h (λ t st1 h1. selects t _ _ (g true st1 h1) ((own o b).as_test st1 go h1 g)))
  own o (Select t a b) = of_value _ (λ st go h g. (own o t).as_test st _ h (λ c st1 h1. selects c _ _ ((own o a).as_value st1 go h1 g) ((own o b).as_value st1 go h1 g)))
  own o (Minimum a b) = of_value _ (λ st go h g. (own o a).as_value st _ h (λ x st1 i h1. (own o b).as_value st1 _ h1 (λ y st2 j h2. picks false y x y x st2 go j i j i h2 g)))
  own o (Maximum a b) = of_value _ (λ st go h g. (own o a).as_value st _ h (λ x st1 i h1. (own o b).as_value st1 _ h1 (λ y st2 j h2. picks true x y y x st2 go i j j i h2 g)))
  own o (Shift d k a b) = of_value _ (λ st go h g. (own o a).as_value st _ h (λ x st1 i h1. (own o b).as_value st1 _ h1 (λ y st2 j h2.
      brings_from k x.kind x.form st2 _ i h2 (λ v st3 p h3. shifts_by (count_in (known_form s st3 y.form)) d k v.form st3 go p h3 g))))
  own o (Within site n e) = of_value _ (λ st go h g. (own o e).as_value st _ h (λ x st1 i h1. lengths_on (constant (pos n)) x.form (at_site site st1) (λ st2. go x st2) h1 (λ st2 h2. g x st2 i h2)))
  own o (Opaque n at k a b e) = of_value _ (λ st go h g. (own o a).as_value st _ h (λ x st1 i h1. (own o b).as_value st1 _ h1 (λ y st2 j h2. (own o e).as_value st2 _ h2 (λ z st3 l h3. unknowns k st3 go h3 g))))

  pub own-set : (vs : List Value) (x : ℕ) (v : Value) → AreOwnValues vs → IsOwnValue v → AreOwnValues (slice_set vs x v)
  own-set [] x v h i = tt
  own-set (w ∷ vs) zero v h i = (i, h.1)
  own-set (w ∷ vs) (suc x) v h i = (h.0, own-set vs x v h.1 i)

  pub own-arguments : (n : ℕ) (ks : List Kind) (rest : List Value) → AreOwnValues rest → AreOwnValues (argument_values n ks ++ rest)
  own-arguments n [] rest h = h
  own-arguments n (k ∷ ks) rest h = (own-given n, own-arguments (suc n) ks rest h)

  pub own-zeros : (ks : List Kind) → AreOwnValues (map zero_value ks)
  own-zeros [] = tt
  own-zeros (k ∷ ks) = (tt, own-zeros ks)

-- so do the accesses
abbrev pub IsOwnAccess : {E : Type 0} → Access E → Type 0
IsOwnAccess a = IsOwn a.index × Each IsOwn a.facts

pub one_more : (fs : List Fact) (f : Fact) → Each IsOwn fs → IsOwn f → Each IsOwn (fs ++ f ∷ [])
one_more [] f h i = (i, tt)
one_more (x ∷ fs) f h i = (h.0, one_more fs f h.1 i)

pub joined : {A : Type 0} (P : A → Type 0) (xs ys : List A) → Each P xs → Each P ys → Each P (xs ++ ys)
joined P [] ys h k = k
joined P (x ∷ xs) ys h k = (h.0, joined P xs ys h.1 k)

pub own-accesses : {E : Type 0} (fs : List Fact) (n : ℕ) (t : Tree E) → Each IsOwn fs → IsOwnTree t → Each IsOwnAccess (accesses fs n t)
unfolding IsOwnTree
own-accesses fs n (Leaf e) h k = tt
own-accesses fs n Dead h k = tt
own-accesses fs n (Claim o needed settled g rest) h k = own-accesses fs (suc n) rest h k
own-accesses fs n (Know f rest) h k = own-accesses (fs ++ f ∷ []) n rest (one_more fs f h k.0) k.1
own-accesses fs n (Touch t i e rest) h k = ((k.0, h), own-accesses fs n rest h k.1)
own-accesses fs n (Fork first second) h k = joined IsOwnAccess (accesses fs n first) (accesses fs (after n first) (second (after n first))) (own-accesses fs n first h k.0) (own-accesses fs (after n first) (second (after n first)) h (k.1 (after n first)))

own-factors-test : (ns : List ℕ) → AreOwnFactors ns → are_own_factors ns ≡ true
own-factors-test [] h = refl
own-factors-test (n ∷ ns) h = and_from (nat_lt (n % 16) 9) (are_own_factors ns) (lt-ltb (n % 16) 9 h.0) (own-factors-test ns h.1)

own-symbol-test : (n : ℕ) → IsOwnSymbol n → is_own_symbol n ≡ true
own-symbol-test n h = and_from (are_own_factors (factors n)) (is_whole n) (own-factors-test (factors n) h.0) h.1

-- the same as a test
pub own-terms-test : (ts : Terms) → AreOwn ts → are_own_terms ts ≡ true
own-terms-test [] h = refl
own-terms-test (t ∷ ts) h = and_from (is_own_symbol t.symbol) (are_own_terms ts) (own-symbol-test t.symbol h.0) (own-terms-test ts h.1)

pub own-test : (fs : List Fact) → Each IsOwn fs → are_own fs ≡ true
own-test [] h = refl
own-test (f ∷ fs) h = and_from (is_own f) (are_own fs) (own-terms-test f.terms h.0) (own-test fs h.1)
