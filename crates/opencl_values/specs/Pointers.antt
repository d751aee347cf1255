-- Pointers: arrays with an offset (C99 6.5.2.1, 6.5.3.2 and 6.5.6). An offset is an `int`, so that none wraps, and an access through a
-- pointer has to lie in the array that it points into.
use Rattle.std.specs.Prelude.{ℕ, List, [], ◌∷◌, Bool, true, false, cond, not, ◌||◌, ◌&&◌, nat_eq, Option, Some, None, is_none, Ok, bytes_eq, codes}
use Rattle.semantics.specs.Word as word
use Rattle.semantics.specs.Word.{Operator, Add, Subtract, Equal, Unequal}
use Rattle.semantics.specs.Core as core
use Rattle.semantics.specs.Core.{Site, Term, Binary, Convert}
use Rattle.texts.specs.Surface.{InfixSign, Arithmetic, Comparison}
use Rattle.opencl_tree.specs.Types.{Base, Void, Qualifiers, Space, Global, Constant, TypeName}
use Rattle.opencl_tree.specs.Tree.{PrefixSign, Expression, Integer, Name, Index, Prefix, Indirection, AddressOf, Cast, Infix}
use Rattle.opencl_terms.specs.Types.{Scalar, Int, ValueType, Value, is_float, is_vector}
use Rattle.opencl_terms.specs.Conversions.{int}
use Rattle.opencl_values.specs.Faults.{Checked, WrongType, LeftOut, Pointer, refused, then, when}
use Rattle.opencl_values.specs.Scope.{Meaning, VariableOf, ArrayOf, OwnOf, PointerOf, NumberOf, TypeOf, UnreadOf, Binding, Names, meaning_of}
use Rattle.opencl_values.specs.Singles.{Single, single, alone}
use Rattle.opencl_values.specs.Wholes.{whole, only, words, is_same_type}
use Rattle.opencl_values.specs.Elements.{Part, as_offset, steps, in_place, times_pieces}
use Rattle.opencl_values.specs.Names.{type_of_base}
use Rattle.opencl_values.specs.Views.{has_view, is_finer, parts_of}

-- an array without an index is a pointer to its first element (6.3.2.1p3)
abbrev pub is_array : Option Meaning → Bool
is_array (Some (ArrayOf a t lengths constant)) = true
is_array (Some (OwnOf a t lengths constant row)) = true
is_array (Some (PointerOf a t constant row over slot)) = true
is_array m = false

abbrev pub is_starred : List Qualifiers → Bool
is_starred [] = false
is_starred (q ∷ qs) = true

-- whether a sum has this operator, and a pointer among its operands
abbrev pub is_moved : InfixSign → (left right : Bool) → Bool
is_moved (Arithmetic Add) left right = left || right
is_moved (Arithmetic Subtract) left right = left
is_moved sign left right = false

-- whether an expression is a pointer, as far as its form and its names tell
unfoldable pub is_pointer : Names → Expression → Bool
is_pointer names (Name site name) = is_array (meaning_of names.visible name)
is_pointer names (Infix site sign left right) = is_moved sign (is_pointer names left) (is_pointer names right)
is_pointer names (Prefix site AddressOf e) = true
is_pointer names (Cast site to e) = is_starred to.stars
is_pointer names e = false

-- whether a sign is `*`, and whether it is `&`
abbrev pub is_indirection : PrefixSign → Bool
is_indirection Indirection = true
is_indirection sign = false

abbrev pub is_address : PrefixSign → Bool
is_address AddressOf = true
is_address sign = false

-- the operator that moves a pointer
abbrev pub moving_by : Operator → Option Operator
moving_by Add = Some Add
moving_by Subtract = Some Subtract
moving_by op = None

abbrev pub moving : InfixSign → Option Operator
moving (Arithmetic op) = moving_by op
moving sign = None

-- whether the pointer is the right operand (6.5.6p2)
abbrev pub is_add : Operator → Bool
is_add Add = true
is_add op = false

abbrev pub is_behind : Names → Operator → (left : Expression) → Bool
is_behind names op left = is_add op && not (is_pointer names left)

-- a pointer to an element: one dimension at most is left
abbrev pub is_flat_at : (lengths : List ℕ) → Option Term → Bool
is_flat_at [] None = true
is_flat_at [] (Some t) = false
is_flat_at (n ∷ []) t = true
is_flat_at (n ∷ m ∷ ns) t = false

abbrev pub is_flat : Part → Bool
is_flat p = is_flat_at p.lengths p.index

-- so many elements on, or back
abbrev pub moved : Site → Operator → Option Term → Term → Term
moved site Add None k = k
moved site op None k = Binary op word.Int site (int 0) k
moved site op (Some o) k = Binary op word.Int site o k

abbrev pub with_offset : Site → Operator → Single → Part → Part
with_offset site op i p = record p { offset = Some (moved site op p.offset (steps site p.over p.element (as_offset site i))) }

-- a pointer and a number of elements (6.5.6p8)
abbrev pub shifted : Site → Operator → Part → Single → Checked Part
shifted site op p i = cond (is_float i.scalar) (refused WrongType site) (when (is_flat p) (LeftOut Pointer) site (with_offset site op i p))

abbrev pub shifted_by : Site → Operator → Part → Value → Checked Part
shifted_by site op p v = then (only site v) (shifted site op p)

-- the index of the first element
abbrev pub first_element : Value
first_element = whole (single Int (int 0))

-- The type that a pointer is converted to points to (6.3.2.3p7; OpenCL 1.2, 6.5)
abbrev pub base_pointed : (visible : List Binding) → Base → Site → Checked ValueType
base_pointed names Void site = refused (LeftOut Pointer) site
base_pointed names b site = type_of_base names b site

abbrev pub with_star : Site → List Qualifiers → ValueType → Checked ValueType
with_star site [] t = refused (LeftOut Pointer) site
with_star site (q ∷ []) t = Ok t
with_star site (q ∷ r ∷ qs) t = refused (LeftOut Pointer) site

abbrev pub type_pointed : (visible : List Binding) → TypeName → Site → Checked ValueType
type_pointed names t site = then (base_pointed names t.base site) (with_star site t.stars)

abbrev pub is_global : core.Space → Bool
is_global core.Global = true
is_global core.Local = false

abbrev pub names_global : Option Space → Bool
names_global (Some Global) = true
names_global (Some Constant) = true
names_global s = false

abbrev pub is_unindexed : (lengths : List ℕ) → (index : Option Term) → Bool
is_unindexed [] None = true
is_unindexed ns t = false

-- the scalar of an array's own elements
abbrev pub scalar_under : (over : Option Scalar) → ValueType → Scalar
scalar_under None t = t.scalar
scalar_under (Some a) t = a

-- so many finer elements, which have to make whole ones (6.3.2.3p7)
abbrev pub made_whole : Site → (count : ℕ) → Term → Term
made_whole site n o =
    Binary word.Add word.Int site (Binary word.Divide word.Int site o (int n)) (Convert word.Int site (in_place site n o))

abbrev pub coarser : Site → (over : Scalar) → ValueType → Term → Term
coarser site a t o = cond (is_finer a t) (made_whole site (parts_of a t) o) o

-- an offset by elements of that scalar
abbrev pub offset_under : Site → (over : Option Scalar) → ValueType → Term → Term
offset_under site None t o = cond (is_vector t) (Binary word.Multiply word.Int site o (int (words t.width))) o
offset_under site (Some a) t o = coarser site a t o

abbrev pub first_offset : Option Term → Term
first_offset None = int 0
first_offset (Some o) = o

-- back at its own type it is what it was
abbrev pub over_for : (own : Scalar) → ValueType → Option Scalar
over_for a t = cond (is_same_type t (alone a)) None (Some a)

abbrev pub seen_part : Site → Qualifiers → ValueType → Part → Part
seen_part site q t p = record p {
  element = t;
  is_constant = p.is_constant || q.constant;
  offset = Some (times_pieces site (parts_of (scalar_under p.over p.element) t) (offset_under site p.over p.element (first_offset p.offset)));
  over = over_for (scalar_under p.over p.element) t;
}

-- into a whole buffer
abbrev pub may_be_seen : (own : Scalar) → ValueType → Bool
may_be_seen a t = has_view a t || is_finer a t

abbrev pub may_see : Qualifiers → ValueType → Part → Bool
may_see q t p =
    names_global q.space && (is_global p.array.space && (is_unindexed p.lengths p.index && may_be_seen (scalar_under p.over p.element) t))

abbrev pub converted_part : Site → Qualifiers → ValueType → Part → Checked Part
converted_part site q t p = when (may_see q t p) (LeftOut Pointer) site (seen_part site q t p)

-- a pointer that is compared with a null pointer (6.5.9p6). No array begins there, nor does a buffer of a launch
abbrev pub is_zero : Expression → Bool
is_zero (Integer site kind n) = nat_eq n 0
is_zero e = false

abbrev pub is_null : Names → Expression → Bool
is_null names (Integer site kind n) = nat_eq n 0
is_null names (Name site name) = bytes_eq name (codes "NULL") && is_none (meaning_of names.visible name)
is_null names (Cast site to e) = is_starred to.stars && is_zero e
is_null names e = false

abbrev pub is_pointer_name : Names → Expression → Bool
is_pointer_name names (Name site name) = is_array (meaning_of names.visible name)
is_pointer_name names e = false

abbrev pub when_null : InfixSign → Option ℕ
when_null (Comparison Equal) = Some 0
when_null (Comparison Unequal) = Some 1
when_null sign = None

abbrev pub null_among : Names → (left right : Expression) → Bool
null_among names a b = (is_pointer_name names a && is_null names b) || (is_null names a && is_pointer_name names b)

-- what the comparison gives
abbrev pub null_compared : Names → InfixSign → (left right : Expression) → Option ℕ
null_compared names sign a b = cond (null_among names a b) (when_null sign) None

abbrev pub null_value : ℕ → Value
null_value n = whole (single Int (int n))
