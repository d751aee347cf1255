-- Expressions that store (C99 6.5.16, 6.5.2.4 and 6.5.3.1), as statements: what they give is not used.
use Rattle.std.specs.Prelude.{ℕ, List, [], ◌∷◌, length, pos, Bool, true, false, cond, not, ◌&&◌, ◌||◌, nat_eq, Option, None, Some, is_some, Ok}
use Rattle.semantics.specs.Word as word
use Rattle.semantics.specs.Word.{Kind, Operator, Add, Subtract}
use Rattle.semantics.specs.Core as core
use Rattle.semantics.specs.Core.{Site, Array}
use Rattle.texts.specs.Surface.{AssignSign, Plain, With, WithLeftShift, WithRightShift, Arithmetic, LeftShift, RightShift}
use Rattle.kernel_names.specs.NameMap.{Other}
use Rattle.opencl_tree.specs.Types.{TypeName, Base, Void, Qualifiers}
use Rattle.opencl_tree.specs.Tree.{StepSign, Increment, Decrement, Expression, Name, Index, Member, Prefix, Indirection, Step, Cast, Assign, Comma}
use Rattle.opencl_terms.specs.Types.{Scalar, Int, ValueType, Value, type_of, is_vector, kind_of, is_float, is_unsettled}
use Rattle.opencl_terms.specs.Conversions.{stored}
use Rattle.opencl_values.specs.Faults.{Checked, Fault, UnknownName, WrongType, WriteToConst, LeftOut, Vector, Pointer, Effect, refused, then, when, found}
use Rattle.opencl_values.specs.Scope.{Meaning, VariableOf, ArrayOf, PointerOf, NumberOf, TypeOf, meaning_of}
use Rattle.opencl_values.specs.Singles.{Single, single, alone}
use Rattle.opencl_values.specs.Wholes.{whole, single_in, only, places, is_same_type}
use Rattle.opencl_values.specs.Members.{picked_of, target_places}
use Rattle.opencl_values.specs.Elements.{Part, Element, as_offset, steps, loaded_from}
use Rattle.opencl_values.specs.Views.{pieces, memory_of}
use Rattle.opencl_values.specs.Pointers.{moved}
use Rattle.opencl_values.specs.Vectors.{infix_of, converted_to}
use Rattle.opencl_values.specs.Values.{value_of, part_of, element_of, pointed_to, variable_value}
use Rattle.opencl_core.specs.Sites.{begin_of}
use Rattle.opencl_core.specs.Repeating.{is_steady}
use Rattle.opencl_core.specs.Pointing.{Pointed, pointed_in, offset_of, is_same_view}
use Rattle.opencl_core.specs.Rooms.{Room, known, write, set, next_slot, made_up}
use Rattle.opencl_core.specs.Components.{put_picked, mixed_with, keep_all, store_all, store_vector}

-- an assignment but for its target: where it begins, its operator with its site, and its value, which is 1 where there is none
pub record Change : Type 0 where
  pub at : Site
  pub sign : AssignSign
  pub sign_site : Site
  pub value : Option Expression

abbrev pub one : Value
one = whole (single Int (core.Literal word.Int (pos 1)))

abbrev pub value_in : Option Expression → Room → Checked Value
value_in None r = Ok one
value_in (Some e) r = value_of (known r) e

-- whether the low bits of a result follow from the low bits of its operands
abbrev pub keeps_bits : Operator → Bool
keeps_bits word.Divide = false
keeps_bits word.Remainder = false
keeps_bits op = true

-- of a `long` and a size devices make different things, of which the bits that the target keeps are the same
abbrev pub settled : (ids : Kind) → Operator → Site → (old new : Value) → Checked Value
settled ids op at old new =
    cond (keeps_bits op && is_unsettled old.type.scalar new.type.scalar) (converted_to ids at old.type new) (Ok new)

-- the value of `x op= e` is that of `x op (e)` (6.5.16.2p3)
abbrev pub combined : (ids : Kind) → AssignSign → Site → (old new : Value) → Checked Value
combined ids Plain at old new = Ok new
combined ids (With op) at old new = then (settled ids op at old new) (infix_of ids (Arithmetic op) at old)
combined ids WithLeftShift at old new = infix_of ids LeftShift at old new
combined ids WithRightShift at old new = infix_of ids RightShift at old new

-- what the target gets, in its own type, by what it had
abbrev pub assigned : Change → (to : ValueType) → (old : Value) → Room → Checked Value
assigned c to old r =
    then (value_in c.value r) (λ v. then (combined r.ids c.sign c.sign_site old v) (converted_to r.ids c.sign_site to))

-- a variable that may be assigned, with its slot
abbrev pub variable_of : Site → Meaning → Checked (ValueType × ℕ)
variable_of at (VariableOf t slot is_constant) = when (not is_constant) WriteToConst at (t, slot)
variable_of at m = refused WrongType at

abbrev pub slot_named : Site → (name : List ℕ) → Room → Checked (ValueType × ℕ)
slot_named at name r = then (found (meaning_of r.visible name) UnknownName at) (variable_of at)

-- some components of a variable get a value
abbrev pub change_slots : Change → (ValueType × ℕ) → (picked : List ℕ) → Room → Checked Room
change_slots c x picked r =
    then (assigned c (type_of x.0.scalar (length picked)) (picked_of r.ids c.at (variable_value c.at x.0 x.1) picked) r) (λ v.
    put_picked c.at x.1 picked v r)

abbrev pub change_variable : Change → Site → (name : List ℕ) → Room → Checked Room
change_variable c at name r = then (slot_named at name r) (λ x. change_slots c x (places x.0.width) r)

abbrev pub change_member : Change → Site → (at : Site) → (name member : List ℕ) → Room → Checked Room
change_member c dot at name member r =
    then (slot_named at name r) (λ x. then (target_places dot x.0 member) (λ ps. change_slots c x ps r))

-- a store of what an element gets
abbrev pub store : Change → Element → Scalar → core.Term → Room → Checked Room
store c x s t r = write (λ n. core.Store n x.array c.at x.index (stored s c.sign_site t)) c.at Other r

abbrev pub store_single : Change → Element → Value → Room → Checked Room
store_single c x v r = store c x x.element.scalar (single_in v).term r

abbrev pub change_loaded : Change → Element → Room → Checked Room
change_loaded c x r = then (assigned c (alone x.element.scalar) (loaded_from c.at x) r) (λ v. store_single c x v r)

-- an index that is evaluated once, for a load and a store, is kept in a variable (6.5.16.2p3)
abbrev pub indexed : Element → core.Term → Element
indexed x i = record x { index = i }

abbrev pub keep_index : Change → (Element × Kind) → Room → Checked (Element × Room)
keep_index c x r =
    then (next_slot c.at r) (λ slot. then (set slot x.0.index c.at r) (λ w.
    Ok (indexed x.0 (core.Variable slot), made_up c.at x.1 w)))

abbrev pub change_kept : Change → (Element × Kind) → Room → Checked Room
change_kept c x r = then (keep_index c x r) (λ k. change_loaded c k.0 k.1)

abbrev pub change_plain : Change → Element → Room → Checked Room
change_plain c x r = then (assigned c (alone x.element.scalar) one r) (λ v. store_single c x v r)

abbrev pub change_element : Change → AssignSign → (Element × Kind) → Room → Checked Room
change_element c Plain x r = change_plain c x.0 r
change_element c sign x r = cond (is_steady x.0.index) (change_loaded c x.0 r) (change_kept c x r)

-- a store to a vector stores all its components; those that are not assigned get what they had
abbrev pub new_vector : Change → Element → (picked : List ℕ) → Room → Checked Value
new_vector c x picked r =
    then (assigned c (type_of x.element.scalar (length picked)) (picked_of r.ids c.at (loaded_from c.at x) picked) r) (λ v.
    Ok (mixed_with r.ids c.at x.element picked v (loaded_from c.at x)))

abbrev pub change_steady : Change → Element → (picked : List ℕ) → Room → Checked Room
change_steady c x picked r = then (new_vector c x picked r) (λ v. store_vector (record { at = c.at; sign_site = c.sign_site }) x v r)

abbrev pub change_vector_kept : Change → (Element × Kind) → (picked : List ℕ) → Room → Checked Room
change_vector_kept c x picked r = then (keep_index c x r) (λ k. change_steady c k.0 picked k.1)

abbrev pub change_vector : Change → (Element × Kind) → (picked : List ℕ) → Room → Checked Room
change_vector c x picked r = cond (is_steady x.0.index) (change_steady c x.0 picked r) (change_vector_kept c x picked r)

-- the kind of an element's index: of a pointer an `int`, of an array of one dimension its own, of others and of vectors a `uint`
abbrev pub kind_behind : (ids : Kind) → (lengths : List ℕ) → (index offset : Option core.Term) → Scalar → Kind
kind_behind ids [] None None s = kind_of ids s
kind_behind ids (n ∷ []) None None s = kind_of ids s
kind_behind ids [] None (Some o) s = word.Int
kind_behind ids (n ∷ []) None (Some o) s = word.Int
kind_behind ids ns index offset s = word.Uint

abbrev pub kind_in_part : (ids : Kind) → Part → Scalar → Kind
kind_in_part ids p s = cond (is_some p.over) word.Uint (kind_behind ids p.lengths p.index p.offset s)

abbrev pub index_kind : Room → Site → (of index : Expression) → Checked Kind
index_kind r at of index =
    then (part_of (known r) at of) (λ p. then (value_of (known r) index) (λ v. Ok (kind_in_part r.ids p v.type.scalar)))

abbrev pub kind_for : ValueType → Kind → Kind
kind_for t k = cond (is_vector t) word.Uint k

-- an element that may be stored to, with the kind of its index
abbrev pub target_of : Change → Site → (of index : Expression) → Room → Checked (Element × Kind)
target_of c at of index r =
    then (element_of (known r) at of index) (λ x. then (index_kind r at of index) (λ k.
    when (not x.is_constant) WriteToConst c.at (x, kind_for x.element k)))

-- what is seen as another type is stored as the elements under it, by an index and a value that are kept in variables
abbrev pub store_over : Change → Element → (over : Scalar) → Value → Room → Checked Room
store_over c x a v r =
    then (keep_all c.at v v.type.width r) (λ k.
    store_all (record { at = c.at; sign_site = c.sign_site }) x (memory_of c.at a k.0) (places (pieces a v.type)) k.1)

abbrev pub change_kept_over : Change → Element → (over : Scalar) → Room → Checked Room
change_kept_over c x a r = then (assigned c x.element (loaded_from c.at x) r) (λ v. store_over c x a v r)

abbrev pub change_over : Change → (over : Scalar) → (Element × Kind) → Room → Checked Room
change_over c a x r = then (keep_index c x r) (λ k. change_kept_over c k.0 a k.1)

abbrev pub change_by_type : Change → (Element × Kind) → Room → Checked Room
change_by_type c x r = cond (is_vector x.0.element) (change_vector c x (places x.0.element.width) r) (change_element c c.sign x r)

abbrev pub change_in_memory : Change → (over : Option Scalar) → (Element × Kind) → Room → Checked Room
change_in_memory c None x r = change_by_type c x r
change_in_memory c (Some a) x r = change_over c a x r

abbrev pub change_whole : Change → (Element × Kind) → Room → Checked Room
change_whole c x r = change_in_memory c x.0.over x r

abbrev pub change_indexed : Change → Site → (of index : Expression) → Room → Checked Room
change_indexed c at of index r = then (target_of c at of index r) (λ x. change_whole c x r)

abbrev pub change_indexed_member : Change → Site → (at : Site) → (of index : Expression) → (member : List ℕ) → Room → Checked Room
change_indexed_member c dot at of index member r =
    then (target_of c at of index r) (λ x. cond (is_some x.0.over) (refused (LeftOut Vector) dot)
    (then (target_places dot x.0.element member) (λ ps. change_vector c x ps r)))

-- a member of a variable or of an element is assigned to; a member of a member is left out
abbrev pub change_in : Change → (dot : Site) → Expression → (member : List ℕ) → Room → Checked Room
change_in c dot (Name at name) member r = change_member c dot at name member r
change_in c dot (Index at of index) member r = change_indexed_member c dot at of index member r
change_in c dot e member r = refused (LeftOut Vector) dot

-- an element that a pointer points to, with the kind of its index
abbrev pub pointed_kind : Room → Site → Expression → Checked Kind
pointed_kind r at e = then (part_of (known r) at e) (λ p. Ok (kind_in_part r.ids p Int))

abbrev pub pointed_target : Change → Site → Expression → Room → Checked (Element × Kind)
pointed_target c at e r =
    then (pointed_to (known r) at e) (λ x. then (pointed_kind r at e) (λ k.
    when (not x.is_constant) WriteToConst c.at (x, kind_for x.element k)))

abbrev pub change_pointed : Change → Site → Expression → Room → Checked Room
change_pointed c at e r = then (pointed_target c at e r) (λ x. change_whole c x r)

-- what a pointer variable is: its array, its type, whether it points into a private array, the scalar of a buffer whose elements it sees
-- as ones of another type, its slot
pub record Pointing : Type 0 where
  pub array : Array
  pub element : ValueType
  pub is_own : Bool
  pub over : Option Scalar
  pub slot : ℕ

abbrev pub pointing_meant : Option Meaning → Option Pointing
pointing_meant (Some (PointerOf a t constant row over slot)) = Some (record { array = a; element = t; is_own = is_some row; over = over; slot = slot })
pointing_meant m = None

abbrev pub space_number : core.Space → ℕ
space_number core.Global = 0
space_number core.Local = 1

abbrev pub is_same_array : (a b : Array) → Bool
is_same_array a b = nat_eq (space_number a.space) (space_number b.space) && nat_eq a.number b.number

-- a pointer goes on pointing into the array into which it pointed at first; of a private array it may only be moved
abbrev pub may_become : Pointing → Pointed → Bool
may_become p q =
    is_same_array p.array q.array && (is_same_type p.element q.element && (is_same_view p.over q.over && not (p.is_own || is_some q.row)))

abbrev pub pointer_assigned : Change → Pointing → Pointed → Room → Checked Room
pointer_assigned c p q r = cond (may_become p q) (set p.slot (offset_of q.offset) c.at r) (refused (LeftOut Pointer) c.at)

abbrev pub pointer_assign : Change → Pointing → Option Expression → Room → Checked Room
pointer_assign c p None r = refused WrongType c.at
pointer_assign c p (Some e) r = then (pointed_in c.sign_site e r) (λ q. pointer_assigned c p q r)

abbrev pub moved_by : Change → Operator → Pointing → Single → Room → Checked Room
moved_by c op p v r =
    cond (is_float v.scalar) (refused WrongType c.at)
    (set p.slot (moved c.sign_site op (Some (core.Variable p.slot)) (steps c.sign_site p.over p.element (as_offset c.sign_site v))) c.at r)

abbrev pub pointer_move : Change → Operator → Pointing → Room → Checked Room
pointer_move c op p r = then (value_in c.value r) (λ v. then (only c.at v) (λ s. moved_by c op p s r))

abbrev pub change_pointer : Change → AssignSign → Pointing → Room → Checked Room
change_pointer c Plain p r = pointer_assign c p c.value r
change_pointer c (With Add) p r = pointer_move c Add p r
change_pointer c (With Subtract) p r = pointer_move c Subtract p r
change_pointer c sign p r = refused WrongType c.at

abbrev pub change_named : Change → Site → (name : List ℕ) → Option Pointing → Room → Checked Room
change_named c at name None r = change_variable c at name r
change_named c at name (Some p) r = change_pointer c c.sign p r

-- what is assigned to
abbrev pub change : Change → Expression → Room → Checked Room
change c (Name at name) r = change_named c at name (pointing_meant (meaning_of r.visible name)) r
change c (Index at of index) r = change_indexed c at of index r
change c (Member at e name) r = change_in c at e name r
change c (Prefix at Indirection e) r = change_pointed c at e r
change c e r = refused WrongType c.at

abbrev pub step_sign : StepSign → AssignSign
step_sign Increment = With Add
step_sign Decrement = With Subtract

-- `void`, without stars
abbrev pub is_void : Base → List Qualifiers → Bool
is_void Void [] = true
is_void b stars = false

-- an expression whose value is not used; one that stores nothing is left out, and so is a store within another expression
abbrev pub effect : Expression → Room → Checked Room
effect (Assign at sign x e) r = change (record { at = begin_of x; sign = sign; sign_site = at; value = Some e }) x r
effect (Step at side sign x) r = change (record { at = begin_of (Step at side sign x); sign = step_sign sign; sign_site = at; value = None }) x r
effect (Comma at a b) r = then (effect a r) (effect b)
effect (Cast at to e) r = cond (is_void to.base to.stars) (effect e r) (refused (LeftOut Effect) at)
effect e r = refused (LeftOut Effect) (begin_of e)
