-- The walk of a term, as a value and as a test.
use Rattle.std.specs.Prelude.{ℕ, pos, List, [], ◌∷◌, Bool, true, false, not, ◌&&◌, cond, nat_lt, slice_index_or}
use Rattle.semantics.specs.Word.{Kind, Int, Less}
use Rattle.semantics.specs.Memory.{no_array}
use Rattle.semantics.specs.Core.{Space, Global, Local, Array, Site, Function, GlobalId, LocalId, GroupId, GlobalSize, LocalSize, NumGroups, Term, Literal, Variable, Id, Load, Unary, Binary, Convert, Compare, Not, And, Or, Select, Minimum, Maximum, Shift, Within, Opaque}
use Rattle.semantics.specs.Setup.{along}
use Rattle.linear.specs.Exact.{sum, multiple}
use Rattle.facts.specs.Symbols as symbols
use Rattle.facts.specs.Symbols.{First, Length, Fact, constant, once, minus}
use Rattle.facts.specs.Launching.{BufferBound}
use Rattle.walk_trees.specs.Trees.{OfIndex, Target, Tree, Touch}
use Rattle.walk_trees.specs.Values.{Value, value}
use Rattle.walk_trees.specs.Walks.{Setting, State, Onward, spot_at, at_site, claim_form, unknown, brought, both_brought}
use Rattle.walk_trees.specs.Contents.{contents_of, know_contents, claim_contents}
use Rattle.walk_trees.specs.Operators.{unary, binary}
use Rattle.walk_trees.specs.Shifts.{shifted}
use Rattle.walk_trees.specs.Joined.{same_kind, are_joined, pick_joined}
use Rattle.walk_trees.specs.Tests.{Outcomes, split, split_number}

pub record Walks (E : Type 0) : Type 0 where
  pub value : State E → Onward E → Tree E
  pub test : State E → Outcomes E → Tree E

-- a value is a test by what number it is
abbrev pub by_value : {E : Type 0} → Setting E → (State E → Onward E → Tree E) → Walks E
by_value s v = record { value = v; test = λ st go. v st (λ x st'. split_number s x.form st' go) }

abbrev pub truth_value : Bool → Value
truth_value b = value Int (constant (cond b (pos 1) (pos 0)))

-- a test stands for 1 or 0
abbrev pub by_test : {E : Type 0} → (State E → Outcomes E → Tree E) → Walks E
by_test t = record { value = λ st go. t st (λ b st'. go (truth_value b) st'); test = t }

abbrev pub no_value : Value
no_value = value Int (constant (pos 0))

abbrev pub variable : {E : Type 0} → State E → ℕ → Value
variable st x = slice_index_or st.variables x no_value

abbrev pub id_inside : {E : Type 0} → Setting E → Function → ℕ → Fact
id_inside s GlobalId d = sum (multiple (pos (along s.sizes d 1)) (once (symbols.Group First d))) (once (symbols.Local First d))
id_inside s LocalId d = once (symbols.Local First d)
id_inside s GroupId d = once (symbols.Group First d)
id_inside s GlobalSize d = multiple (pos (along s.sizes d 1)) (once (symbols.Groups d))
id_inside s LocalSize d = constant (pos (along s.sizes d 1))
id_inside s NumGroups d = once (symbols.Groups d)

abbrev pub id_outside : Function → Fact
id_outside GlobalId = constant (pos 0)
id_outside LocalId = constant (pos 0)
id_outside GroupId = constant (pos 0)
id_outside GlobalSize = constant (pos 1)
id_outside LocalSize = constant (pos 1)
id_outside NumGroups = constant (pos 1)

-- past the third dimension an id is 0, and a size or count 1
abbrev pub id_form : {E : Type 0} → Setting E → Function → ℕ → Fact
id_form s f d = cond (nat_lt d 3) (id_inside s f d) (id_outside f)

-- how many elements an array has: a buffer's length is a symbol, a local array's a number
abbrev pub length_in : {E : Type 0} → Setting E → Space → ℕ → Fact
length_in s Global b = once (Length b)
length_in s Local b = constant (pos (slice_index_or s.arrays b no_array).length)

abbrev pub length_form : {E : Type 0} → Setting E → Array → Fact
length_form s a = length_in s a.space a.number

-- an index is at least 0, and at most a last one
abbrev pub up_to_last : {E : Type 0} → Setting E → (last index : Fact) → State E → (State E → Tree E) → Tree E
up_to_last s last i st go = claim_form s OfIndex true i st (λ st'. claim_form s OfIndex true (minus last i) st' go)

-- it is below a length
abbrev pub in_length : {E : Type 0} → Setting E → (length index : Fact) → State E → (State E → Tree E) → Tree E
in_length s n i st go = up_to_last s (minus n (constant (pos 1))) i st go

abbrev pub in_array : {E : Type 0} → Setting E → Array → Fact → State E → (State E → Tree E) → Tree E
in_array s a i st go = in_length s (length_form s a) i st go

abbrev pub target_at : {E : Type 0} → Bool → Array → Site → State E → Target
target_at is_store a site st = record { is_store = is_store; array = a; spot = spot_at site st }

-- an access, where its array is named
abbrev pub access : {E : Type 0} → Setting E → Bool → Array → Site → Fact → State E → (State E → Tree E) → Tree E
access s is_store a site i st go = in_array s a i (at_site site st) (λ st'. Touch (target_at is_store a site st') i st'.held (go st'))

abbrev pub kind_in : {E : Type 0} → Setting E → Space → ℕ → Kind
kind_in s Global b = slice_index_or s.buffers b Int
kind_in s Local b = (slice_index_or s.arrays b no_array).kind

-- the kind of an array's elements
abbrev pub array_kind : {E : Type 0} → Setting E → Array → Kind
array_kind s a = kind_in s a.space a.number

-- any number of the array's kind that it may hold
abbrev pub element : {E : Type 0} → Setting E → Array → State E → Onward E → Tree E
element s a st go = unknown s (array_kind s a) st (λ v st'. know_contents s (contents_of s a) v.form st' (λ st''. go v st''))

-- the access, then such a number
abbrev pub load : {E : Type 0} → Setting E → Array → Site → Fact → State E → Onward E → Tree E
load s a site i st go = access s false a site i st (λ st'. element s a st' go)

-- a stored value keeps what the array holds
abbrev pub keep_contents : {E : Type 0} → Setting E → List BufferBound → Kind → Site → Value → State E → (State E → Tree E) → Tree E
keep_contents s [] k site v st go = go st
keep_contents s (x ∷ xs) k site v st go = brought s k v (at_site site st) (λ v' st'. claim_contents s (x ∷ xs) v'.form st' go)

-- then the access
abbrev pub stored : {E : Type 0} → Setting E → Array → Site → (index value : Value) → State E → (State E → Tree E) → Tree E
stored s a site i v st go = keep_contents s (contents_of s a) (array_kind s a) site v st (λ st'. access s true a site i.form st' go)

-- one of two
abbrev pub chosen : {A : Type 0} → Bool → A → A → A
chosen true a b = a
chosen false a b = b

-- a value of one of two ways, by elements
abbrev pub pick_split : {E : Type 0} → Setting E → (left right second first : Value) → State E → Onward E → Tree E
pick_split s x y second first st go = split s s.is_wide Less x.form y.form st (λ b st'. go (chosen b second first) st')

-- both values have one kind, and neither way is refuted by the elements
abbrev pub is_joined_pick : {E : Type 0} → Setting E → (left right : Value) → State E → Bool
is_joined_pick s x y st = same_kind x.kind y.kind && are_joined s (pos 0) (minus y.form x.form) (minus x.form y.form) st

-- `min` and `max`: where one operand is less than another (OpenCL 1.2, 6.12.3) the second one, else the first; the wide walk leaves out a
-- way that the elements refute. Where ways are joined, one value
abbrev pub pick : {E : Type 0} → Setting E → (is_greater : Bool) → (left right second first : Value) → State E → Onward E → Tree E
pick s g x y second first st go = cond (is_joined_pick s x y st) (pick_joined s g x.kind x.form y.form st go) (pick_split s x y second first st go)

-- operands from left to right, then the operator at its own site; a choice walks what it evaluates
abbrev pub walk : {E : Type 0} → Setting E → Term → Walks E
walk s (Literal k z) = by_value s (λ st go. go (value k (constant z)) st)
walk s (Variable x) = by_value s (λ st go. go (variable st x) st)
walk s (Id k f d) = by_value s (λ st go. go (value k (id_form s f d)) st)
walk s (Load a site i) = by_value s (λ st go. (walk s i).value st (λ x st1. load s a site x.form st1 go))
walk s (Unary op k site e) = by_value s (λ st go. (walk s e).value st (λ x st1. unary s op k x (at_site site st1) go))
walk s (Binary op k site a b) = by_value s (λ st go.
    (walk s a).value st (λ x st1. (walk s b).value st1 (λ y st2.
    both_brought s k x y (at_site site st2) (λ x' y' st3. binary s op k x'.form y'.form st3 go))))
walk s (Convert k site e) = by_value s (λ st go. (walk s e).value st (λ x st1. brought s k x (at_site site st1) go))
walk s (Compare r k a b) = by_test (λ st go.
    (walk s a).value st (λ x st1. (walk s b).value st1 (λ y st2.
    both_brought s k x y st2 (λ x' y' st3. split s false r x'.form y'.form st3 go))))
walk s (Not e) = by_test (λ st go. (walk s e).test st (λ b st1. go (not b) st1))
walk s (And a b) = by_test (λ st go. (walk s a).test st (λ t st1. chosen t ((walk s b).test st1 go) (go false st1)))
walk s (Or a b) = by_test (λ st go. (walk s a).test st (λ t st1. chosen t (go true st1) ((walk s b).test st1 go)))
walk s (Select t a b) = by_value s (λ st go. (walk s t).test st (λ c st1. chosen c ((walk s a).value st1 go) ((walk s b).value st1 go)))
walk s (Minimum a b) = by_value s (λ st go. (walk s a).value st (λ x st1. (walk s b).value st1 (λ y st2. pick s false y x y x st2 go)))
walk s (Maximum a b) = by_value s (λ st go. (walk s a).value st (λ x st1. (walk s b).value st1 (λ y st2. pick s true x y y x st2 go)))
walk s (Shift d k a b) = by_value s (λ st go.
    (walk s a).value st (λ x st1. (walk s b).value st1 (λ y st2. brought s k x st2 (λ x' st3. shifted s d k x'.form y.form st3 go))))
walk s (Within site n i) = by_value s (λ st go. (walk s i).value st (λ x st1. in_length s (constant (pos n)) x.form (at_site site st1) (λ st2. go x st2)))
walk s (Opaque n at k a b e) = by_value s (λ st go.
    (walk s a).value st (λ x st1. (walk s b).value st1 (λ y st2. (walk s e).value st2 (λ z st3. unknown s k st3 go))))
