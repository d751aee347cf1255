-- The steps of a walk: claims, facts, new symbols, and the ranges of kinds. A walk is written with what goes on from its form.
use Rattle.std.specs.Prelude.{ℕ, suc, ◌+◌, ℤ, pos, negsuc, List, [], ◌∷◌, length, Bool, true, false, ◌&&◌, ◌||◌, Option, Some, None, int_lt, cond, nat_eq}
use Rattle.std.specs.Ordering.{int_eq}
use Rattle.semantics.specs.Word.{Kind, Int, Uint, Size}
use Rattle.semantics.specs.Core.{Site}
use Rattle.semantics.specs.Launch.{Three, LocalArray}
use Rattle.linear.specs.Exact.{fits, fits_i64}
use Rattle.domain.specs.declared.Domain.{Ghosts}
use Rattle.domain.specs.declared.Bounds.{Bounds}
use Rattle.facts.specs.Symbols.{First, New, Fact, constant, once, minus, Turns}
use Rattle.facts.specs.Launching.{BufferBound}
use Rattle.facts.specs.Elements.{Known, between, is_below_zero}
use Rattle.walk_trees.specs.Values.{Value, value, Arrived}
use Rattle.arrivals.specs.Trees as arrivals
use Rattle.arrivals.specs.Trees.{Stop}
use Rattle.walk_trees.specs.Held.{Held, with_new, element_at, is_settled_at, narrow}
use Rattle.walk_trees.specs.Shares.{Shared}
use Rattle.walk_trees.specs.Trees.{Sort, OfRange, Spot, Demand, Goal, AtLeastZero, Tree, Dead, Claim, Know, Fork}

-- what a walk is of: whether it is the wide one, whether it joins ways where it can, a domain with what it knows, the local sizes, the
-- kinds of the buffers, the local arrays, what lines of the conditions say that buffers hold, and the numbers of the obligations that have
-- an entry
pub record Setting (E : Type 0) : Type 1 where
  pub is_wide : Bool
  pub joins : Bool
  pub domain : Ghosts E
  pub known : Known E
  pub sizes : Three ℕ
  pub buffers : List Kind
  pub arrays : List LocalArray
  pub contents : List BufferBound
  pub has_entry : ℕ → Bool

-- what ranked a loop when its test was last true on the path
pub record Ranked : Type 0 where
  pub loop : ℕ
  pub form : Fact

-- how many claims were made, what the value parameters and private variables are, what ranked loops, and the quotients by forms, the latest
-- first, what the domain holds, and where the walk stands
pub record State (E : Type 0) : Type 0 where
  pub claims : ℕ
  pub variables : List Value
  pub ranks : List Ranked
  pub quotients : List Shared
  pub held : Held E
  pub at : Spot

abbrev pub Onward : Type 0 → Type 0
Onward E = Value → State E → Tree E

abbrev pub claimed_once : {E : Type 0} → State E → State E
claimed_once st = record { claims = suc st.claims; variables = st.variables; ranks = st.ranks; quotients = st.quotients; held = st.held; at = st.at }

-- with so many claims
abbrev pub counted : {E : Type 0} → ℕ → State E → State E
counted n st = record { claims = n; variables = st.variables; ranks = st.ranks; quotients = st.quotients; held = st.held; at = st.at }

abbrev pub holding : {E : Type 0} → Held E → State E → State E
holding h st = record { claims = st.claims; variables = st.variables; ranks = st.ranks; quotients = st.quotients; held = h; at = st.at }

abbrev pub with_variables : {E : Type 0} → List Value → State E → State E
with_variables vs st = record { claims = st.claims; variables = vs; ranks = st.ranks; quotients = st.quotients; held = st.held; at = st.at }

-- a loop's test was true
abbrev pub with_rank : {E : Type 0} → ℕ → Fact → State E → State E
with_rank n f st = record { claims = st.claims; variables = st.variables; ranks = record { loop = n; form = f } ∷ st.ranks; quotients = st.quotients; held = st.held; at = st.at }

-- a quotient was made
abbrev pub with_quotient : {E : Type 0} → Shared → State E → State E
with_quotient q st = record { claims = st.claims; variables = st.variables; ranks = st.ranks; quotients = q ∷ st.quotients; held = st.held; at = st.at }

-- what ranked a loop when its test was last true: on the path, or before it
abbrev pub rank_form : List Ranked → ℕ → Fact
rank_form [] n = once (Turns First n)
rank_form (r ∷ rs) n = cond (nat_eq r.loop n) r.form (rank_form rs n)

-- what an item has where it stops
abbrev pub arrived : {E : Type 0} → Stop → arrivals.Turns → State E → Arrived E
arrived stop turns st = record { stop = stop; turns = turns; variables = st.variables; held = st.held }

-- the walk stands elsewhere
abbrev pub stand : {E : Type 0} → Spot → State E → State E
stand p st = record { claims = st.claims; variables = st.variables; ranks = st.ranks; quotients = st.quotients; held = st.held; at = p }

-- at another site of its statement
abbrev pub spot_at : {E : Type 0} → Site → State E → Spot
spot_at site st = record { statement = st.at.statement; site = site }

abbrev pub element_of : {E : Type 0} → Setting E → State E → Fact → E
element_of s st f = element_at s.domain s.known st.held f

abbrev pub bounds_of : {E : Type 0} → Setting E → State E → Fact → Bounds
bounds_of s st f = s.domain.bounds_of (element_of s st f)

abbrev pub settles : {E : Type 0} → Setting E → State E → Fact → Bool
settles s st f = is_settled_at s.domain s.known st.held f

abbrev pub demand : {E : Type 0} → Sort → State E → Demand
demand o st = record { sort = o; spot = st.at }

-- one claim, which is numbered
abbrev pub claim : {E : Type 0} → Sort → (needed settled : Bool) → Goal → State E → (State E → Tree E) → Tree E
claim o needed settled g st go = Claim (demand o st) needed settled g (go (claimed_once st))

-- that a form is at least 0
abbrev pub claim_form : {E : Type 0} → Setting E → Sort → Bool → Fact → State E → (State E → Tree E) → Tree E
claim_form s o needed f st go = claim o needed (settles s st f) (AtLeastZero f) st go

abbrev pub lower_fact : Fact → Option ℤ → (rest : List Fact) → List Fact
lower_fact f None rest = rest
lower_fact f (Some low) rest = minus f (constant low) ∷ rest

abbrev pub upper_fact : Fact → Option ℤ → List Fact
upper_fact f None = []
upper_fact f (Some high) = minus (constant high) f ∷ []

abbrev pub know_all : {E : Type 0} → List Fact → Tree E → Tree E
know_all [] rest = rest
know_all (f ∷ fs) rest = Know f (know_all fs rest)

abbrev pub bound_facts : Fact → Bounds → List Fact
bound_facts f b = lower_fact f b.low (upper_fact f b.high)

abbrev pub newest : {E : Type 0} → State E → Fact
newest st = once (New First (length st.held.news))

-- a new symbol, with its bounds as facts
abbrev pub invent : {E : Type 0} → Setting E → E → State E → (Fact → State E → Tree E) → Tree E
invent s e st go = know_all (bound_facts (newest st) (s.domain.bounds_of e)) (go (newest st) (holding (with_new e st.held) st))

abbrev pub least : Kind → ℤ
least Int = negsuc 2147483647
least Uint = pos 0
least Size = pos 0

abbrev pub greatest : Kind → ℤ
greatest Int = pos 2147483647
greatest Uint = pos 4294967295
greatest Size = pos 4294967295

-- any number of a kind
abbrev pub any_of : {E : Type 0} → Ghosts E → Kind → E
any_of g k = between g (least k) (greatest k)

-- a value of which no more is known than its kind
abbrev pub unknown : {E : Type 0} → Setting E → Kind → State E → Onward E → Tree E
unknown s k st go = invent s (any_of s.domain k) st (λ f st'. go (value k f) st')

abbrev pub low_end : Kind → Fact → Fact
low_end k f = minus f (constant (least k))

abbrev pub high_end : Kind → Fact → Fact
high_end k f = minus (constant (greatest k)) f

-- the two ends of a kind's range
abbrev pub in_range : {E : Type 0} → Setting E → Bool → Kind → Fact → State E → (State E → Tree E) → Tree E
in_range s needed k f st go = claim_form s (OfRange k) needed (low_end k f) st (λ st'. claim_form s (OfRange k) needed (high_end k f) st' go)

-- both claims are settled or have an entry
abbrev pub is_kept : {E : Type 0} → Setting E → Fact → State E → Bool
is_kept s f st = (settles s st (low_end Uint f) || s.has_entry (st.claims + 1)) && (settles s st (high_end Uint f) || s.has_entry (st.claims + 2))

abbrev pub kept_or_new : {E : Type 0} → Setting E → Bool → Fact → State E → Onward E → Tree E
kept_or_new s true f st go = go (value Uint f) st
kept_or_new s false f st go = unknown s Uint st go

-- an exact result in its kind: of an `int` and of a size both ends are to be shown, a `uint` of which they are not kept has wrapped
abbrev pub ranged : {E : Type 0} → Setting E → Kind → Fact → State E → Onward E → Tree E
ranged s Int f st go = in_range s true Int f st (λ st'. go (value Int f) st')
ranged s Uint f st go = in_range s (is_kept s f st) Uint f st (λ st'. kept_or_new s (is_kept s f st) f st' go)
ranged s Size f st go = in_range s true Size f st (λ st'. go (value Size f) st')

abbrev pub brought_from : {E : Type 0} → Setting E → (to from : Kind) → Fact → State E → Onward E → Tree E
brought_from s Int Int f st go = go (value Int f) st
brought_from s Int Uint f st go = ranged s Int f st go
brought_from s Uint Int f st go = ranged s Uint f st go
brought_from s Uint Uint f st go = go (value Uint f) st
brought_from s Int Size f st go = ranged s Int f st go
brought_from s Uint Size f st go = go (value Uint f) st
brought_from s Size Int f st go = ranged s Size f st go
brought_from s Size Uint f st go = go (value Size f) st
brought_from s Size Size f st go = go (value Size f) st

-- a value brought to a kind
abbrev pub brought : {E : Type 0} → Setting E → Kind → Value → State E → Onward E → Tree E
brought s k v st go = brought_from s k v.kind v.form st go

-- two values brought to a kind, the left one first
abbrev pub both_brought : {E : Type 0} → Setting E → Kind → (left right : Value) → State E → (Value → Value → State E → Tree E) → Tree E
both_brought s k x y st go = brought s k x st (λ x' st1. brought s k y st1 (λ y' st2. go x' y' st2))

abbrev pub at_site : {E : Type 0} → Site → State E → State E
at_site site st = stand (spot_at site st) st

-- the first way, or, with as many claims as stand before it, the other one
abbrev pub fork : {E : Type 0} → State E → (first second : State E → Tree E) → Tree E
fork st first second = Fork (first st) (λ n. second (counted n st))

-- the two ways of a test; where one of them is left out, the other one is gone along, and there is no fork
abbrev pub fork_unless : {E : Type 0} → (first_is_out second_is_out : Bool) → State E → (first second : State E → Tree E) → Tree E
fork_unless true out st first second = second st
fork_unless false true st first second = first st
fork_unless false false st first second = fork st first second

abbrev pub is_none : {A : Type 0} → List A → Bool
is_none [] = true
is_none (x ∷ xs) = false

-- a form without terms
abbrev pub is_number : Fact → Bool
is_number f = is_none f.terms

-- no item goes on where a negative number would have to be at least 0; a number past 64 bits is a fact like others
abbrev pub is_dead : Fact → Bool
is_dead f = is_number f && (fits_i64 f.constant && int_lt f.constant (pos 0))

abbrev pub unless_dead : {E : Type 0} → Bool → Fact → Tree E → Tree E
unless_dead true f rest = Dead
unless_dead false f rest = Know f rest

-- no numbers of the elements make the form at least 0
abbrev pub is_refuted : {E : Type 0} → Setting E → Fact → State E → Bool
is_refuted s f st = fits f && is_below_zero (bounds_of s st f).high

-- no item goes on where the form would have to be at least 0: it is a negative number or, where elements are asked, they refute it
abbrev pub is_left_out : {E : Type 0} → Setting E → (by_elements : Bool) → Fact → State E → Bool
is_left_out s w f st = (w && is_refuted s f st) || is_dead f

-- so it is with one of two forms, or with both
abbrev pub is_either_left_out : {E : Type 0} → Setting E → (by_elements : Bool) → (first second : Fact) → State E → Bool
is_either_left_out s w f g st = is_left_out s w f st || is_left_out s w g st

abbrev pub are_both_left_out : {E : Type 0} → Setting E → (by_elements : Bool) → (first second : Fact) → State E → Bool
are_both_left_out s w f g st = is_left_out s w f st && is_left_out s w g st

-- a fact of a test, which narrows
abbrev pub know_test : {E : Type 0} → Setting E → (by_elements : Bool) → Fact → State E → (State E → Tree E) → Tree E
know_test s w f st go = unless_dead (is_left_out s w f st) f (go (holding (narrow s.domain s.known f st.held) st))

abbrev pub know_two : {E : Type 0} → Setting E → (by_elements : Bool) → (first second : Fact) → State E → (State E → Tree E) → Tree E
know_two s w f g st go = know_test s w f st (λ st'. know_test s w g st' go)

-- a form of which the elements leave one number is that number, in the wide walk
abbrev pub one_number : (low high : Option ℤ) → Fact → Fact
one_number None high f = f
one_number (Some low) None f = f
one_number (Some low) (Some high) f = cond (int_eq low high) (constant low) f

abbrev pub known_form : {E : Type 0} → Setting E → State E → Fact → Fact
known_form s st f = cond s.is_wide (one_number (bounds_of s st f).low (bounds_of s st f).high f) f
