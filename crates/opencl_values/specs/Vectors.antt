-- What is made of values component by component (OpenCL 1.2, 6.2, 6.3 and 6.4). Vectors are not promoted; a scalar beside a vector is
-- converted to its components' type, and is each of them (6.2.6; ours: each scalar converts so).
use Rattle.std.specs.Prelude.{ℕ, ◌+◌, List, [], ◌∷◌, ◌++◌, length, Bool, true, false, cond, not, ◌||◌, ◌&&◌, nat_eq, pos, Ok, Option, Some, None}
use Rattle.semantics.specs.Word as word
use Rattle.semantics.specs.Word.{Kind, Direction, Leftward, Rightward}
use Rattle.semantics.specs.Core.{Site, Array, Term, Literal, Variable, Load, Binary, Opaque, Select}
use Rattle.texts.specs.Surface.{InfixSign, Arithmetic, LeftShift, RightShift, Comparison, LogicalAnd, LogicalOr}
use Rattle.opencl_tree.specs.Tree.{PrefixSign, Minus, Plus, LogicalNot, BitNot, Indirection, AddressOf}
use Rattle.opencl_terms.specs.Types.{Scalar, Boolean, ValueType, Value, type_of, value_of, is_vector, is_float, stored_kind, is_unsettled}
use Rattle.opencl_terms.specs.Conversions.{uint, loaded}
use Rattle.opencl_terms.specs.Components.{has_highest_bit}
use Rattle.opencl_terms.specs.Operations.{nothing}
use Rattle.opencl_terms.specs.Operators as operators
use Rattle.opencl_terms.specs.Operators.{OfOne, OfTwo, of_one_component, of_two_components, test_type, may_take}
use Rattle.opencl_values.specs.Faults.{Checked, WrongType, LeftOut, Vector, Pointer, Long, refused, then, when}
use Rattle.opencl_values.specs.Singles.{Single, single, alone, as_scalar, as_test}
use Rattle.opencl_values.specs.Operations as scalars
use Rattle.opencl_values.specs.Wholes.{whole, single_in, only, component, is_same_type, places, behind, behind_dropped, nth_with}

-- what is made at each place: a component that is picked, with those that are not in front of the first; one converted; operators;
-- choices by the highest bit of each component, and by a scalar test; an element's loads; variables; what is assigned to some components,
-- and what the others had; an element of memory, with what stands behind a vector of three
pub data Made : Type 0 where
  Picked : (of : Value) (first : ℕ) (picked : List ℕ) → Made
  Converted : (to : Scalar) (of : Value) → Made
  One : (op : OfOne) (to : ValueType) (of : Value) → Made
  Two : (op : OfTwo) (to : ValueType) (left right : Value) → Made
  Shifts : (direction : Direction) (to : ValueType) (left right : Value) → Made
  Logical : (op : OfTwo) (width : ℕ) (left right : Value) → Made
  ByBits : (to : Scalar) (test taken skipped : Value) → Made
  ByTest : (to : Scalar) (test taken skipped : Value) → Made
  Loaded : (array : Array) (scalar : Scalar) (index : Term) → Made
  Kept : (slot : ℕ) → Made
  Mixed : (picked : List ℕ) (new old : Value) → Made
  Filled : (of : Value) → Made

abbrev pub picked_at : Site → Value → (first : ℕ) → (picked : List ℕ) → (place : ℕ) → Term
picked_at site v first picked n =
    cond (nat_eq n first) (behind_dropped site v picked (places v.type.width) (component v n).term) (component v n).term

abbrev pub converted_at : (ids : Kind) → Site → (to : Scalar) → Value → (place : ℕ) → Term
converted_at ids site to v n = as_scalar ids to site (component v n)

abbrev pub one_at : (ids : Kind) → Site → OfOne → ValueType → Value → (place : ℕ) → Term
one_at ids site op t v n = of_one_component ids t op site (converted_at ids site t.scalar v n)

abbrev pub two_at : (ids : Kind) → Site → OfTwo → ValueType → (l r : Value) → (place : ℕ) → Term
two_at ids site op t l r n = of_two_components ids t op site (converted_at ids site t.scalar l n) (converted_at ids site t.scalar r n)

-- the counts of a shift stay as they are (6.3 j)
abbrev pub shift_at : (ids : Kind) → Site → Direction → ValueType → (l r : Value) → (place : ℕ) → Term
shift_at ids site d t l r n =
    of_two_components ids t (operators.Shifting d r.type.scalar) site (converted_at ids site t.scalar l n) (component r n).term

abbrev pub tested_at : (ids : Kind) → Site → (width : ℕ) → Value → (place : ℕ) → Term
tested_at ids site width v n = of_one_component ids (type_of v.type.scalar width) operators.Testing site (component v n).term

abbrev pub logical_at : (ids : Kind) → Site → OfTwo → (width : ℕ) → (l r : Value) → (place : ℕ) → Term
logical_at ids site op width l r n =
    of_two_components ids (type_of l.type.scalar width) op site (tested_at ids site width l n) (tested_at ids site width r n)

-- both arms are evaluated (6.3 i)
abbrev pub by_bits : (ids : Kind) → Site → (test : Single) → (taken skipped : Term) → Term
by_bits ids site t a b = behind site a (behind site b (Select (has_highest_bit ids t.scalar t.term) a b))

abbrev pub by_bits_at : (ids : Kind) → Site → (to : Scalar) → (t a b : Value) → (place : ℕ) → Term
by_bits_at ids site to t a b n = by_bits ids site (component t n) (converted_at ids site to a n) (converted_at ids site to b n)

abbrev pub by_test_at : (ids : Kind) → Site → (to : Scalar) → (t a b : Value) → (place : ℕ) → Term
by_test_at ids site to t a b n = Select (as_test ids site (component t n)) (converted_at ids site to a n) (converted_at ids site to b n)

-- components stand one behind the other
abbrev pub index_at : Site → (index : Term) → (place : ℕ) → Term
index_at site i n = Binary word.Add word.Uint site i (uint n)

abbrev pub loaded_at : Site → Array → Scalar → (index : Term) → (place : ℕ) → Term
loaded_at site a s i n = loaded s site (Load a site (index_at site i n))

-- the place of a place among those that are picked
abbrev pub place_in : (picked : List ℕ) → (so_far place : ℕ) → Option ℕ
place_in [] m n = None
place_in (p ∷ ps) m n = cond (nat_eq p n) (Some m) (place_in ps (m + 1) n)

abbrev pub mixed_from : (new old : Value) → (place : ℕ) → Option ℕ → Term
mixed_from new old n (Some m) = (component new m).term
mixed_from new old n None = (component old n).term

abbrev pub mixed_at : (picked : List ℕ) → (new old : Value) → (place : ℕ) → Term
mixed_at picked new old n = mixed_from new old n (place_in picked 0 n)

-- what stands in memory behind a vector of three: nobody knows (6.1.5)
abbrev pub unknown_word : Scalar → Term
unknown_word s = Opaque 0 0 (stored_kind s) nothing nothing nothing

abbrev pub filled_at : Value → (place : ℕ) → Term
filled_at v n = cond (nat_eq v.type.width 3 && nat_eq n 3) (unknown_word v.type.scalar) (component v n).term

abbrev pub made_at : (ids : Kind) → Site → Made → (place : ℕ) → Term
made_at ids site (Picked v first picked) n = picked_at site v first picked n
made_at ids site (Converted to v) n = converted_at ids site to v n
made_at ids site (One op t v) n = one_at ids site op t v n
made_at ids site (Two op t l r) n = two_at ids site op t l r n
made_at ids site (Shifts d t l r) n = shift_at ids site d t l r n
made_at ids site (Logical op width l r) n = logical_at ids site op width l r n
made_at ids site (ByBits to t a b) n = by_bits_at ids site to t a b n
made_at ids site (ByTest to t a b) n = by_test_at ids site to t a b n
made_at ids site (Loaded a s i) n = loaded_at site a s i n
made_at ids site (Kept slot) n = Variable (slot + n)
made_at ids site (Mixed picked new old) n = mixed_at picked new old n
made_at ids site (Filled v) n = filled_at v n

-- at each of some places, behind terms that were made before
abbrev pub made_behind : (ids : Kind) → Site → Made → (so_far : List Term) → (places : List ℕ) → List Term
made_behind ids site m ts [] = ts
made_behind ids site m ts (p ∷ ps) = made_behind ids site m (ts ++ made_at ids site m p ∷ []) ps

abbrev pub vector_made : (ids : Kind) → Site → Made → ValueType → Value
vector_made ids site m t = value_of t (made_behind ids site m [] (places t.width))

-- the type of two operands of which one is a vector: two vectors have the same type (6.2.6)
abbrev pub type_of_vectors : Site → (l r : Value) → Checked ValueType
type_of_vectors site l r = when (is_same_type l.type r.type) WrongType site l.type

abbrev pub type_of_one : Site → (l r : Value) → Checked ValueType
type_of_one site l r =
    cond (is_vector l.type) (cond (is_vector r.type) (type_of_vectors site l r) (Ok l.type))
    (cond (is_vector r.type) (Ok r.type) (refused WrongType site))

-- a `bool` has all bits set in a vector where it is cast to one (6.2.2), and 1 where it stands beside one: it is left out
abbrev pub is_boolean : Scalar → Bool
is_boolean Boolean = true
is_boolean s = false

abbrev pub type_of_both : Site → (l r : Value) → Checked ValueType
type_of_both site l r =
    cond (is_boolean l.type.scalar || is_boolean r.type.scalar) (refused (LeftOut Vector) site) (type_of_one site l r)

abbrev pub vector_prefix : (ids : Kind) → PrefixSign → Site → Value → Checked Value
vector_prefix ids Minus site v = Ok (vector_made ids site (One operators.Negative v.type v) v.type)
vector_prefix ids Plus site v = Ok v
vector_prefix ids LogicalNot site v = Ok (vector_made ids site (One operators.Refutation v.type v) (test_type v.type))
vector_prefix ids BitNot site v =
    when (not (is_float v.type.scalar)) WrongType site (vector_made ids site (One operators.Complement v.type v) v.type)
vector_prefix ids Indirection site v = refused (LeftOut Pointer) site
vector_prefix ids AddressOf site v = refused (LeftOut Pointer) site

abbrev pub scalar_prefix : (ids : Kind) → PrefixSign → Site → Value → Checked Value
scalar_prefix ids sign site v = then (scalars.prefix_of ids sign site (single_in v)) (λ s. Ok (whole s))

abbrev pub prefix_of : (ids : Kind) → PrefixSign → Site → Value → Checked Value
prefix_of ids sign site v = cond (is_vector v.type) (vector_prefix ids sign site v) (scalar_prefix ids sign site v)

abbrev pub two_of : (ids : Kind) → OfTwo → Site → (l r : Value) → ValueType → Checked Value
two_of ids op site l r t = when (may_take op t.scalar) WrongType site (vector_made ids site (Two op t l r) (operators.result_type op t))

abbrev pub of_operands : (ids : Kind) → OfTwo → Site → (l r : Value) → Checked Value
of_operands ids op site l r = then (type_of_both site l r) (two_of ids op site l r)

abbrev pub logical_of : (ids : Kind) → OfTwo → Site → (l r : Value) → ValueType → Checked Value
logical_of ids op site l r t = Ok (vector_made ids site (Logical op t.width l r) (test_type t))

abbrev pub logical : (ids : Kind) → OfTwo → Site → (l r : Value) → Checked Value
logical ids op site l r = then (type_of_both site l r) (logical_of ids op site l r)

-- a vector is shifted by a scalar, or by a vector of as many components
abbrev pub may_shift : (l r : Value) → Bool
may_shift l r =
    is_vector l.type && ((not (is_vector r.type) || nat_eq l.type.width r.type.width) && not (is_float l.type.scalar || is_float r.type.scalar))

abbrev pub shifted : (ids : Kind) → Direction → Site → (l r : Value) → Checked Value
shifted ids d site l r = when (may_shift l r) WrongType site (vector_made ids site (Shifts d l.type l r) l.type)

abbrev pub vector_infix : (ids : Kind) → InfixSign → Site → (l r : Value) → Checked Value
vector_infix ids (Arithmetic op) site l r = of_operands ids (operators.Arithmetic op) site l r
vector_infix ids LeftShift site l r = shifted ids Leftward site l r
vector_infix ids RightShift site l r = shifted ids Rightward site l r
vector_infix ids (Comparison r) site a b = of_operands ids (operators.Comparison r) site a b
vector_infix ids LogicalAnd site l r = logical ids operators.Both site l r
vector_infix ids LogicalOr site l r = logical ids operators.Either site l r

abbrev pub scalar_infix : (ids : Kind) → InfixSign → Site → (l r : Value) → Checked Value
scalar_infix ids sign site l r = then (scalars.infix_of ids sign site (single_in l) (single_in r)) (λ s. Ok (whole s))

abbrev pub infix_of : (ids : Kind) → InfixSign → Site → (l r : Value) → Checked Value
infix_of ids sign site l r = cond (is_vector l.type || is_vector r.type) (vector_infix ids sign site l r) (scalar_infix ids sign site l r)

-- `?:` by a vector goes by the highest bit of each component, by a scalar it chooses whole values (6.3 i)
abbrev pub chosen_by_bits : (ids : Kind) → Site → (t a b : Value) → ValueType → Checked Value
chosen_by_bits ids site t a b u =
    when (nat_eq t.type.width u.width && not (is_float t.type.scalar)) WrongType site (vector_made ids site (ByBits u.scalar t a b) u)

abbrev pub chosen_by_test : (ids : Kind) → Site → (t a b : Value) → ValueType → Checked Value
chosen_by_test ids site t a b u = Ok (vector_made ids site (ByTest u.scalar t a b) u)

abbrev pub vector_chosen : (ids : Kind) → Site → (t a b : Value) → ValueType → Checked Value
vector_chosen ids site t a b u = cond (is_vector t.type) (chosen_by_bits ids site t a b u) (chosen_by_test ids site t a b u)

abbrev pub vector_conditional : (ids : Kind) → Site → (t a b : Value) → Checked Value
vector_conditional ids site t a b = then (type_of_both site a b) (vector_chosen ids site t a b)

abbrev pub scalar_conditional : (ids : Kind) → Site → (t a b : Value) → Checked Value
scalar_conditional ids site t a b =
    when (not (is_unsettled a.type.scalar b.type.scalar)) (LeftOut Long) site
    (whole (scalars.conditional_of ids site (single_in t) (single_in a) (single_in b)))

abbrev pub conditional_of : (ids : Kind) → Site → (t a b : Value) → Checked Value
conditional_of ids site t a b =
    cond (is_vector t.type || (is_vector a.type || is_vector b.type)) (vector_conditional ids site t a b) (scalar_conditional ids site t a b)

-- as a type that it is converted to by a cast or an assignment: a vector has to have it (6.2.2), a scalar is each component of a vector
abbrev pub scalar_as : (ids : Kind) → Site → Scalar → Value → Checked Value
scalar_as ids site s v = then (only site v) (λ one. Ok (whole (single s (as_scalar ids s site one))))

abbrev pub vector_as : (ids : Kind) → Site → ValueType → Value → Checked Value
vector_as ids site t v =
    cond (is_boolean v.type.scalar) (refused (LeftOut Vector) site)
    (when (not (is_vector v.type) || is_same_type v.type t) WrongType site (vector_made ids site (Converted t.scalar v) t))

abbrev pub converted_to : (ids : Kind) → Site → ValueType → Value → Checked Value
converted_to ids site t v = cond (is_vector t) (vector_as ids site t v) (scalar_as ids site t.scalar v)

-- the parts of a literal fill it in order; one scalar is each component (6.1.6)
abbrev pub gathered : (ids : Kind) → Site → (to : Scalar) → (so_far : List Term) → List Value → List Term
gathered ids site to ts [] = ts
gathered ids site to ts (v ∷ vs) = gathered ids site to (made_behind ids site (Converted to v) ts (places v.type.width)) vs

abbrev pub filled_with : Site → ValueType → List Term → Checked Value
filled_with site t ts = when (nat_eq (length ts) t.width) WrongType site (value_of t ts)

abbrev pub filled_by : (ids : Kind) → Site → ValueType → List Value → Checked Value
filled_by ids site t vs = filled_with site t (gathered ids site t.scalar [] vs)

abbrev pub parts_in : (ids : Kind) → Site → ValueType → List Value → Checked Value
parts_in ids site t (v ∷ []) = vector_as ids site t v
parts_in ids site t vs = filled_by ids site t vs

abbrev pub literal_of : (ids : Kind) → Site → ValueType → List Value → Checked Value
literal_of ids site t vs = cond (is_vector t) (parts_in ids site t vs) (refused WrongType site)
