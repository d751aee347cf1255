-- Declarations in blocks (C99 6.7; OpenCL 1.2, 6.5), and what local arrays take.
use Rattle.std.specs.Prelude.{ℕ, zero, suc, ◌+◌, ◌-◌, ◌*◌, pos, List, [], ◌∷◌, ◌++◌, length, Bool, true, false, cond, not, ◌||◌, ◌&&◌, nat_eq, nat_le, nat_lt, Option, None, Some, is_some, Ok}
use Rattle.semantics.specs.Core as core
use Rattle.semantics.specs.Word as word
use Rattle.semantics.specs.Word.{Kind}
use Rattle.semantics.specs.Core.{Site, Array}
use Rattle.semantics.specs.Launch.{LocalArray, Three}
use Rattle.kernel_names.specs.NameMap.{with_array, Other}
use Rattle.opencl_tree.specs.Types.{Space, Global, Local, Constant, Private, Qualifiers}
use Rattle.opencl_tree.specs.Tree.{Expression, Initial, Absent, Given, Listed, Initials, no_more, and_then, Declarator, Declaration}
use Rattle.opencl_terms.specs.Types.{Scalar, Boolean, Long, Size, ValueType, Value, kind_of, stored_kind, is_vector}
use Rattle.opencl_terms.specs.Conversions.{int, uint, stored}
use Rattle.opencl_values.specs.Faults as faults
use Rattle.opencl_values.specs.Faults.{Checked, Fault, WrongType, TooMany, LeftOut, Pointer, PrivateArray, InitialList, LocalScalar, ConstantVariable, refused, then, when, found}
use Rattle.opencl_values.specs.Scope.{Meaning, ArrayOf, OwnOf, PointerOf, TypeOf}
use Rattle.opencl_values.specs.Elements.{in_row}
use Rattle.opencl_values.specs.Singles.{as_scalar}
use Rattle.opencl_values.specs.Wholes.{only, places, words, is_same_type}
use Rattle.opencl_values.specs.Vectors.{converted_to}
use Rattle.opencl_values.specs.Values.{value_of}
use Rattle.opencl_values.specs.Names.{type_of_base}
use Rattle.opencl_core.specs.Sites.{begin_of}
use Rattle.opencl_core.specs.Constants.{constant_of}
pub use Rattle.opencl_core.specs.Pointing.{offset_of, is_fixed, row_behind, Pointed, pointed_by, pointed, pointed_in}
use Rattle.opencl_core.specs.Drawing.{begun, draw_whole}
use Rattle.opencl_core.specs.Rooms.{Room, known, write, set, next_slot, next_slots, declared, variable_declared, with_slot, with_range, not_ended}
use Rattle.opencl_core.specs.Components.{set_picked}

-- buffers and local arrays together
abbrev pub most_arrays : ℕ
most_arrays = 64

-- elements of all local arrays together
abbrev pub most_elements : ℕ
most_elements = 1048576

-- a `bool` and a size have no size in memory of their own (6.9 k); elements that are `long` are left out
abbrev pub has_elements : Scalar → Bool
has_elements Boolean = false
has_elements Size = false
has_elements Long = false
has_elements s = true

abbrev pub lacking : Scalar → Fault
lacking Long = LeftOut faults.Long
lacking s = WrongType

-- the scalar of elements in memory
abbrev pub element_of_type : Site → ValueType → Checked Scalar
element_of_type at t = when (has_elements t.scalar) (lacking t.scalar) at t.scalar

abbrev pub has_place : Room → Bool
has_place r = nat_lt (length r.buffers + length r.arrays) most_arrays

-- a local array of `n` elements, with the lengths of its dimensions
pub record LocalShape : Type 0 where
  pub type : ValueType
  pub count : ℕ
  pub lengths : List ℕ
  pub is_constant : Bool

abbrev pub kept : Site → (name : List ℕ) → LocalArray → Room → Room
kept at name a r = record r { arrays = r.arrays ++ a ∷ []; elements = r.elements + a.length; names = with_array name at r.names }

abbrev pub fits : (count : ℕ) → Room → Bool
fits n r = has_place r && (nat_le 1 n && nat_le (r.elements + n) most_elements)

-- the number of the next local array, of `n` elements
abbrev pub next_array : Site → (count : ℕ) → Room → Checked ℕ
next_array at n r = when (fits n r) TooMany at (length r.arrays)

abbrev pub local_declared : Site → (name : List ℕ) → LocalShape → Room → Checked Room
local_declared at name a r =
    then (element_of_type at a.type) (λ s. then (next_array at a.count r) (λ n.
    then (declared at name (ArrayOf (record { space = core.Local; number = n }) a.type a.lengths a.is_constant) r) (λ d.
    Ok (kept at name (record { kind = stored_kind s; length = a.count }) d))))

-- an array's length is a number of the text (C99 6.7.5.2; OpenCL 1.2, 6.9 d)
abbrev pub number_of : Expression → Room → Checked ℕ
number_of e r =
    then (value_of (known r) e) (λ v. then (only (begin_of e) v) (λ s. found (constant_of s.term) WrongType (begin_of e)))

abbrev pub length_of : Site → Option Expression → Room → Checked ℕ
length_of at None r = refused WrongType at
length_of at (Some e) r = then (number_of e r) (λ n. when (nat_le 1 n && nat_le n most_elements) TooMany (begin_of e) n)

-- the lengths of dimensions, the outermost first, and their product
pub record Lengths : Type 0 where
  pub all : List ℕ
  pub product : ℕ

abbrev pub no_lengths : Lengths
no_lengths = record { all = []; product = 1 }

abbrev pub with_length : Site → Lengths → (length : ℕ) → Checked Lengths
with_length at so n = when (nat_le (so.product * n) most_elements) TooMany at (record { all = so.all ++ n ∷ []; product = so.product * n })

abbrev pub lengths_behind : Site → Lengths → List (Option Expression) → Room → Checked Lengths
lengths_behind at so [] r = Ok so
lengths_behind at so (d ∷ ds) r = then (length_of at d r) (λ n. then (with_length at so n) (λ more. lengths_behind at more ds r))

-- what the declarators of a declaration share
pub record Shared : Type 0 where
  pub type : ValueType
  pub qualifiers : Qualifiers

abbrev pub begins_with_nothing : Initial → Bool
begins_with_nothing Absent = true
begins_with_nothing i = false

-- local variables begin with nothing (OpenCL 1.2, 6.5.2)
abbrev pub local_with : Shared → Lengths → LocalShape
local_with c ns = record { type = c.type; count = ns.product * words c.type.width; lengths = ns.all; is_constant = c.qualifiers.constant }

abbrev pub local_of : Shared → Declarator → Room → Checked LocalShape
local_of c d r =
    then (lengths_behind d.site no_lengths d.dimensions r) (λ ns. when (begins_with_nothing d.initial) WrongType d.site (local_with c ns))

abbrev pub declare_local : Shared → Declarator → Room → Checked Room
declare_local c d r = then (local_of c d r) (λ a. local_declared d.site d.name a r)

abbrev pub declare_local_variable : Shared → Declarator → List (Option Expression) → Room → Checked Room
declare_local_variable c d ns r = cond (nat_eq (length ns) 0) (refused (LeftOut LocalScalar) d.site) (declare_local c d r)

-- a value is typed before the name is visible (C99 6.2.1p7)
abbrev pub set_first : Shared → Declarator → Value → Room → Checked Room
set_first c d v r = then (next_slots d.site c.type.width r) (λ slot. set_picked d.site slot v 0 (places c.type.width) r)

abbrev pub first_value : Shared → Declarator → Expression → Room → Checked Value
first_value c d e r = then (value_of (known r) e) (converted_to r.ids d.site c.type)

abbrev pub declare_set : Shared → Declarator → Expression → Room → Checked Room
declare_set c d e r =
    then (first_value c d e r) (λ v. then (set_first c d v r) (λ w. variable_declared d.site d.name c.type c.qualifiers.constant w))

abbrev pub declare_private : Shared → Declarator → Initial → Room → Checked Room
declare_private c d Absent r = variable_declared d.site d.name c.type c.qualifiers.constant r
declare_private c d (Given e) r = then (draw_whole e r) (declare_set c d e)
declare_private c d (Listed at is) r = refused (LeftOut InitialList) at

-- A private array is a row of a local array that has one for each item of a group, so no two items have elements in common. Like a local
-- array it begins with the launch's fill word
abbrev pub local_id : (ids : Kind) → (dimension : ℕ) → core.Term
local_id ids d = core.Id ids core.LocalId d

abbrev pub next_digit : Site → (high : core.Term) → (length : ℕ) → (low : core.Term) → core.Term
next_digit at high n low = core.Binary word.Add word.Uint at (core.Binary word.Multiply word.Uint at high (uint n)) low

-- an item's number in its group
abbrev pub own_row : (ids : Kind) → Three ℕ → Site → core.Term
own_row ids s at = next_digit at (next_digit at (local_id ids 2) s.y (local_id ids 1)) s.x (local_id ids 0)

abbrev pub own_of : (number : ℕ) → Shared → Declarator → Lengths → Room → Meaning
own_of n c d ns r = OwnOf (record { space = core.Local; number = n }) c.type ns.all c.qualifiers.constant (own_row r.ids r.sizes d.site)

abbrev pub times : Site → (a b : ℕ) → Checked ℕ
times at a b = when (nat_le (a * b) most_elements) TooMany at (a * b)

-- how many elements all items of a group have, where each has so many
abbrev pub all_rows : Site → (count : ℕ) → Three ℕ → Checked ℕ
all_rows at n s = then (times at n s.x) (λ a. then (times at a s.y) (λ b. times at b s.z))

-- one that begins with nothing, or with a list; it has one dimension then, and elements of one component
pub record Own : Type 0 where
  pub site : Site
  pub number : ℕ
  pub scalar : Scalar
  pub is_vector : Bool
  pub length : ℕ

abbrev pub own_counted : Shared → Declarator → Lengths → Scalar → (count : ℕ) → Room → Checked (Own × Room)
own_counted c d ns s count r =
    then (next_array d.site count r) (λ n. then (declared d.site d.name (own_of n c d ns r) r) (λ o.
    Ok (record { site = d.site; number = n; scalar = s; is_vector = is_vector c.type; length = ns.product }, kept d.site d.name (record { kind = stored_kind s; length = count }) o)))

abbrev pub own_declared : Shared → Declarator → Lengths → Room → Checked (Own × Room)
own_declared c d ns r =
    then (element_of_type d.site c.type) (λ s. then (times d.site ns.product (words c.type.width)) (λ n.
    then (all_rows d.site n r.sizes) (λ count. own_counted c d ns s count r)))

-- the element behind which so many are left
abbrev pub own_index : Own → (left : ℕ) → Room → core.Term
own_index o left r = in_row o.site (own_row r.ids r.sizes o.site) o.length (uint (o.length - left))

abbrev pub own_store : Own → (left : ℕ) → core.Term → Room → Checked Room
own_store o left t r =
    write (λ k. core.Store k (record { space = core.Local; number = o.number }) o.site (own_index o left r) (stored o.scalar o.site t)) o.site Other r

abbrev pub begin_with : Own → (left : ℕ) → Expression → Room → Checked Room
begin_with o left e r =
    then (value_of (known r) e) (λ v. then (only o.site v) (λ s. own_store o left (as_scalar r.ids o.scalar o.site s) r))

-- what a list leaves out is 0 (C99 6.7.8p21)
abbrev pub begin_with_zero : Own → (left : ℕ) → Room → Checked Room
begin_with_zero o left r = own_store o left (core.Literal (kind_of r.ids o.scalar) (pos 0)) r

unfoldable pub begin_with_zeros : Own → (left : ℕ) → Room → Checked Room
begin_with_zeros o zero r = Ok r
begin_with_zeros o (suc left) r = then (begin_with_zero o (suc left) r) (begin_with_zeros o left)

unfoldable pub begin_with_list : Own → (left : ℕ) → Initials → Room → Checked Room
begin_with_list o left no_more r = begin_with_zeros o left r
begin_with_list o zero (and_then e es) r = refused WrongType o.site
begin_with_list o (suc left) (and_then (Given e) es) r = then (begin_with o (suc left) e r) (begin_with_list o left es)
begin_with_list o (suc left) (and_then Absent es) r = refused (LeftOut InitialList) o.site
begin_with_list o (suc left) (and_then (Listed at is) es) r = refused (LeftOut InitialList) o.site

abbrev pub begin_listed : (dimensions : ℕ) → Site → Initials → Own → Room → Checked Room
begin_listed n at es o r = cond (nat_eq n 1 && not o.is_vector) (begin_with_list o o.length es r) (refused (LeftOut InitialList) at)

abbrev pub begin_own : (dimensions : ℕ) → Initial → (Own × Room) → Checked Room
begin_own n Absent o = Ok o.1
begin_own n (Given e) o = refused WrongType o.0.site
begin_own n (Listed at es) o = begin_listed n at es o.0 o.1

-- an open length is that of the list (C99 6.7.8p22)
abbrev pub count_of : Initials → ℕ
count_of no_more = 0
count_of (and_then e es) = count_of es + 1

abbrev pub lengths_by : Site → Initials → Checked Lengths
lengths_by at es = when (nat_le (count_of es) most_elements) TooMany at (record { all = count_of es ∷ []; product = count_of es })

abbrev pub listed_lengths : Site → Initial → Checked Lengths
listed_lengths at (Listed s es) = lengths_by s es
listed_lengths at i = refused WrongType at

abbrev pub own_lengths : Declarator → List (Option Expression) → Room → Checked Lengths
own_lengths d (None ∷ []) r = listed_lengths d.site d.initial
own_lengths d ds r = lengths_behind d.site no_lengths ds r

abbrev pub declare_own : Shared → Declarator → List (Option Expression) → Room → Checked Room
declare_own c d ds r = then (own_lengths d ds r) (λ ns. then (own_declared c d ns r) (begin_own (length ns.all) d.initial))

abbrev pub declare_variable : Shared → Declarator → List (Option Expression) → Room → Checked Room
declare_variable c d ds r = cond (nat_eq (length ds) 0) (declare_private c d d.initial r) (declare_own c d ds r)

-- a pointer's type names the space of what it points into (OpenCL 1.2, 6.5)
abbrev pub is_in_space : core.Space → Option Space → Bool
is_in_space core.Global (Some Global) = true
is_in_space core.Global (Some Constant) = true
is_in_space core.Local (Some Local) = true
is_in_space s q = false

-- (a constant of the file is a private array here)
abbrev pub may_have_row : Option Space → Bool
may_have_row None = true
may_have_row (Some Private) = true
may_have_row (Some Constant) = true
may_have_row q = false

abbrev pub may_point : Option Space → Array → Option (ℕ × core.Term) → Bool
may_point q a None = is_in_space a.space q
may_point q a (Some row) = may_have_row q

abbrev pub pointer_named : Site → (name : List ℕ) → Meaning → Room → Checked Room
pointer_named at name m r =
    then (declared at name m r) (λ o. Ok (with_range at name o.next not_ended (with_slot word.Int o)))

abbrev pub pointer_set : Shared → Declarator → Pointed → Room → Checked Room
pointer_set c d p r =
    then (next_slot d.site r) (λ slot. then (set slot (offset_of p.offset) d.site r)
    (pointer_named d.site d.name (PointerOf p.array p.element (c.qualifiers.constant || p.is_constant) p.row p.over slot)))

abbrev pub may_be : Shared → Pointed → Bool
may_be c p = is_same_type p.element c.type && may_point c.qualifiers.space p.array p.row

abbrev pub pointer_kept : Shared → Declarator → Pointed → Room → Checked Room
pointer_kept c d p r = cond (may_be c p) (pointer_set c d p r) (refused (LeftOut Pointer) d.site)

abbrev pub declare_pointer : Shared → Declarator → Initial → Room → Checked Room
declare_pointer c d (Given e) r = then (draw_whole e r) (λ o. then (pointed_in d.site e o) (λ p. pointer_kept c d p o))
declare_pointer c d i r = refused (LeftOut Pointer) d.site

abbrev pub declare_in_space : Shared → Declarator → Option Space → Room → Checked Room
declare_in_space c d None r = declare_variable c d d.dimensions r
declare_in_space c d (Some Private) r = declare_variable c d d.dimensions r
declare_in_space c d (Some Local) r = declare_local_variable c d d.dimensions r
declare_in_space c d (Some Constant) r = refused (LeftOut ConstantVariable) d.site
declare_in_space c d (Some Global) r = refused WrongType d.site

abbrev pub declare_starred : Shared → Declarator → List (Option Expression) → Room → Checked Room
declare_starred c d ds r = cond (nat_eq (length ds) 0) (declare_pointer c d d.initial r) (refused (LeftOut Pointer) d.site)

-- by its stars
abbrev pub declare_one : Shared → Declarator → List Qualifiers → Room → Checked Room
declare_one c d stars r =
    cond (nat_eq (length stars) 0) (declare_in_space c d c.qualifiers.space r)
    (cond (nat_eq (length stars) 1) (declare_starred c d d.dimensions r) (refused (LeftOut Pointer) d.site))

abbrev pub declare_all : Shared → List Declarator → Room → Checked Room
declare_all c [] r = Ok r
declare_all c (d ∷ ds) r = then (declare_one c d d.stars (begun r)) (declare_all c ds)

abbrev pub shared : ValueType → Declaration → Shared
shared t d = record { type = t; qualifiers = d.qualifiers }

abbrev pub shared_by : Declaration → Room → Checked Shared
shared_by d r = then (type_of_base r.visible d.base d.site) (λ t. Ok (shared t d))

abbrev pub write_declaration : Declaration → Room → Checked Room
write_declaration d r = then (shared_by d r) (λ c. declare_all c d.declarators r)

-- a name of a scalar or a vector; of other types it is left out (C99 6.7.7)
abbrev pub is_unqualified : Qualifiers → Option Space → Bool
is_unqualified q None = not q.constant
is_unqualified q (Some s) = false

abbrev pub name_type : Shared → Declarator → List Qualifiers → List (Option Expression) → Room → Checked Room
name_type c d [] [] r =
    then (when (is_unqualified c.qualifiers c.qualifiers.space) (LeftOut ConstantVariable) d.site r) (λ u. declared d.site d.name (TypeOf c.type) u)
name_type c d [] (n ∷ ns) r = refused (LeftOut PrivateArray) d.site
name_type c d (q ∷ qs) ns r = refused (LeftOut Pointer) d.site

abbrev pub name_types : Shared → List Declarator → Room → Checked Room
name_types c [] r = Ok r
name_types c (d ∷ ds) r = then (name_type c d d.stars d.dimensions r) (name_types c ds)

abbrev pub write_typedef : Declaration → Room → Checked Room
write_typedef d r = then (shared_by d r) (λ c. name_types c d.declarators r)
