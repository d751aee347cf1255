-- Vectors, stored component by component: to variables, one behind the other, and to elements of arrays.
use Rattle.std.specs.Prelude.{ℕ, ◌+◌, List, [], ◌∷◌, length, Bool, true, false, cond, not, ◌||◌, ◌&&◌, nat_eq, nat_le, nat_lt, Ok}
use Rattle.semantics.specs.Word.{Kind}
use Rattle.semantics.specs.Core as core
use Rattle.semantics.specs.Core.{Site, Space, Global, Local, Array, Term, Literal, Variable, Id, Load, Unary, Binary, Convert, Compare, Not, And, Or, Select, Minimum, Maximum, Shift, Within, Opaque}
use Rattle.kernel_names.specs.NameMap.{Other}
use Rattle.opencl_terms.specs.Types.{Scalar, ValueType, Value, type_of, kind_of}
use Rattle.opencl_terms.specs.Conversions.{stored}
use Rattle.opencl_values.specs.Faults.{Checked, then}
use Rattle.opencl_values.specs.Elements.{Element}
use Rattle.opencl_values.specs.Wholes.{component, places, words}
use Rattle.opencl_values.specs.Vectors.{Kept, Mixed, Filled, vector_made, index_at}
use Rattle.opencl_core.specs.Templates.{Returning, OfKernel, OfFunction}
use Rattle.opencl_core.specs.Rooms.{Room, write, set, next_slots, all_made_up}

-- what a component's store changes: some slots from one on, or elements of an array
pub data Changed : Type 0 where
  Slots : (first count : ℕ) → Changed
  Elements : (array : Array) → Changed
  AnyElements : Changed

abbrev pub is_global : Space → Bool
is_global Global = true
is_global Local = false

abbrev pub is_same_space : (a b : Space) → Bool
is_same_space Global b = is_global b
is_same_space Local b = not (is_global b)

abbrev pub is_array : Changed → Array → Bool
is_array (Slots first count) a = false
is_array AnyElements a = true
is_array (Elements b) a = is_same_space a.space b.space && nat_eq a.number b.number

abbrev pub is_slot : Changed → (slot : ℕ) → Bool
is_slot (Slots first count) slot = nat_le first slot && nat_lt slot (first + count)
is_slot (Elements b) slot = false
is_slot AnyElements slot = false

-- whether a term depends on what is changed
abbrev pub heeds : Changed → Term → Bool
heeds c (Literal k z) = false
heeds c (Variable slot) = is_slot c slot
heeds c (Id k f d) = false
heeds c (Load a s i) = is_array c a || heeds c i
heeds c (Unary op k s t) = heeds c t
heeds c (Binary op k s l r) = heeds c l || heeds c r
heeds c (Convert k s t) = heeds c t
heeds c (Compare rel k l r) = heeds c l || heeds c r
heeds c (Not t) = heeds c t
heeds c (And l r) = heeds c l || heeds c r
heeds c (Or l r) = heeds c l || heeds c r
heeds c (Select t a b) = heeds c t || (heeds c a || heeds c b)
heeds c (Minimum l r) = heeds c l || heeds c r
heeds c (Maximum l r) = heeds c l || heeds c r
heeds c (Shift d k t n) = heeds c t || heeds c n
heeds c (Within s m i) = heeds c i
heeds c (Opaque op at k x y z) = heeds c x || (heeds c y || heeds c z)

-- the components of a value, from one on, go into the slots of some places
abbrev pub set_picked : Site → (slot : ℕ) → Value → (from : ℕ) → (picked : List ℕ) → Room → Checked Room
set_picked at slot v n [] r = Ok r
set_picked at slot v n (p ∷ ps) r = then (set (slot + p) (component v n).term at r) (set_picked at slot v (n + 1) ps)

-- whether no component that is stored later depends on one that is stored before
abbrev pub are_apart : (slot lowest : ℕ) → Value → (from : ℕ) → (picked : List ℕ) → Bool
are_apart slot lowest v n [] = true
are_apart slot lowest v n (p ∷ ps) =
    (nat_le lowest p && not (heeds (Slots slot p) (component v n).term)) && are_apart slot p v (n + 1) ps

-- else all are kept in variables first
abbrev pub kept_value : (ids : Kind) → Site → (slot : ℕ) → ValueType → Value
kept_value ids at slot t = vector_made ids at (Kept slot) t

abbrev pub keep_all : Site → Value → (count : ℕ) → Room → Checked (Value × Room)
keep_all at v n r =
    then (next_slots at n r) (λ slot. then (set_picked at slot v 0 (places n) r) (λ w.
    Ok (kept_value r.ids at slot (type_of v.type.scalar n), all_made_up at (kind_of r.ids v.type.scalar) n w)))

abbrev pub put_by_way : Site → (slot : ℕ) → (picked : List ℕ) → Value → Room → Checked Room
put_by_way at slot picked v r = then (keep_all at v (length picked) r) (λ k. set_picked at slot k.0 0 picked k.1)

abbrev pub put_picked : Site → (slot : ℕ) → (picked : List ℕ) → Value → Room → Checked Room
put_picked at slot picked v r = cond (are_apart slot 0 v 0 picked) (set_picked at slot v 0 picked r) (put_by_way at slot picked v r)

-- all elements of a vector, by what is assigned to some components and what the others had
abbrev pub mixed_value : (ids : Kind) → Site → ValueType → (picked : List ℕ) → (new old : Value) → Value
mixed_value ids at t picked new old = vector_made ids at (Mixed picked new old) t

abbrev pub mixed_with : (ids : Kind) → Site → ValueType → (picked : List ℕ) → (new old : Value) → Value
mixed_with ids at t picked new old =
    vector_made ids at (Filled (mixed_value ids at t picked new old)) (type_of t.scalar (words t.width))

-- where an assignment begins, and its operator
pub record Spot : Type 0 where
  pub at : Site
  pub sign_site : Site

abbrev pub store_component : Spot → Element → Value → (place : ℕ) → Room → Checked Room
store_component c x v p r =
    write (λ n. core.Store n x.array c.at (index_at c.at x.index p) (stored v.type.scalar c.sign_site (component v p).term)) c.at Other r

abbrev pub store_all : Spot → Element → Value → (places : List ℕ) → Room → Checked Room
store_all c x v [] r = Ok r
store_all c x v (p ∷ ps) r = then (store_component c x v p r) (store_all c x v ps)

abbrev pub heed_none : Changed → Value → (places : List ℕ) → Bool
heed_none c v [] = true
heed_none c v (p ∷ ps) = not (heeds c (component v p).term) && heed_none c v ps

-- two parameters of a function of the file may be one array
abbrev pub changed_by : Returning → Array → Changed
changed_by OfKernel a = Elements a
changed_by (OfFunction x) a = AnyElements

abbrev pub store_by_way : Spot → Element → Value → Room → Checked Room
store_by_way c x v r = then (keep_all c.at v v.type.width r) (λ k. store_all c x k.0 (places v.type.width) k.1)

abbrev pub store_vector : Spot → Element → Value → Room → Checked Room
store_vector c x v r =
    cond (heed_none (changed_by r.returns x.array) v (places v.type.width)) (store_all c x v (places v.type.width) r) (store_by_way c x v r)
