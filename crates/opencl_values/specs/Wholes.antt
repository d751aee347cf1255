-- Values of one component and of more (OpenCL 1.2, 6.1.2 and 6.1.7).
use Rattle.std.specs.Prelude.{ℕ, zero, suc, List, [], ◌∷◌, map, take, Bool, true, false, cond, not, ◌||◌, ◌&&◌, nat_eq, pos, Ok}
use Rattle.semantics.specs.Word as word
use Rattle.semantics.specs.Core.{Site, Term, Literal, Variable, Id, Binary, Select}
use Rattle.opencl_terms.specs.Types.{Scalar, ValueType, Value, value_of, is_vector, scalar_number}
use Rattle.opencl_terms.specs.Operations.{nothing}
use Rattle.opencl_terms.specs.Conversions.{uint}
use Rattle.opencl_values.specs.Faults.{Checked, WrongType, when}
use Rattle.opencl_values.specs.Singles.{Single, single, alone}

abbrev pub whole : Single → Value
whole v = value_of (alone v.scalar) (v.term ∷ [])

-- the last of some terms, or else the one in front of them
abbrev pub last_with : (so_far : Term) → List Term → Term
last_with t [] = t
last_with t (u ∷ us) = last_with u us

abbrev pub single_in : Value → Single
single_in v = single v.type.scalar (last_with nothing v.terms)

-- the term of a place, from 0, or else the last one: a scalar is each component of what it is copied to (6.2.6)
abbrev pub nth_with : (so_far : Term) → List Term → (place : ℕ) → Term
nth_with t [] n = t
nth_with t (u ∷ us) zero = u
nth_with t (u ∷ us) (suc n) = nth_with u us n

abbrev pub component : Value → (place : ℕ) → Single
component v n = single v.type.scalar (nth_with nothing v.terms n)

abbrev pub components_of : List Value → (place : ℕ) → List Single
components_of vs n = map (λ v. component v n) vs

-- a value that has to be a scalar
abbrev pub only : Site → Value → Checked Single
only site v = when (not (is_vector v.type)) WrongType site (single_in v)

abbrev pub is_same_type : (a b : ValueType) → Bool
is_same_type a b = nat_eq (scalar_number a.scalar) (scalar_number b.scalar) && nat_eq a.width b.width

-- the places of components
abbrev pub counting : List ℕ
counting = 0 ∷ 1 ∷ 2 ∷ 3 ∷ 4 ∷ 5 ∷ 6 ∷ 7 ∷ 8 ∷ 9 ∷ 10 ∷ 11 ∷ 12 ∷ 13 ∷ 14 ∷ 15 ∷ []

abbrev pub places : (width : ℕ) → List ℕ
places n = take n counting

abbrev pub is_among : List ℕ → (place : ℕ) → Bool
is_among [] n = false
is_among (p ∷ ps) n = nat_eq p n || is_among ps n

-- whether a term may be left out where its value is not used: it loads nothing and never fails
abbrev pub is_idle : Term → Bool
is_idle (Literal k z) = true
is_idle (Variable slot) = true
is_idle (Id k f d) = true
is_idle t = false

-- a term, behind one that is evaluated and whose value is not used: that is multiplied by 0, a test that has one way
abbrev pub behind : Site → (first : Term) → Term → Term
behind site first t = cond (is_idle first) t (Select (Binary word.Multiply word.Uint site first (uint 0)) nothing t)

abbrev pub behind_unpicked : Site → Value → (picked : List ℕ) → (place : ℕ) → Term → Term
behind_unpicked site v picked p t = cond (is_among picked p) t (behind site (component v p).term t)

-- a term, behind the components that are not picked: what is loaded is the whole vector
abbrev pub behind_dropped : Site → Value → (picked : List ℕ) → (places : List ℕ) → Term → Term
behind_dropped site v picked [] t = t
behind_dropped site v picked (p ∷ ps) t = behind_dropped site v picked ps (behind_unpicked site v picked p t)

-- how many elements of its scalar a vector has in memory: one of three has four (6.1.5); and below which index a vector has to be, so
-- that none of its elements has an index of more than 32 bits
abbrev pub words : (width : ℕ) → ℕ
words n = cond (nat_eq n 3) 4 n

abbrev pub vectors_below : (words : ℕ) → ℕ
vectors_below n = cond (nat_eq n 2) 2147483648 (cond (nat_eq n 4) 1073741824 (cond (nat_eq n 8) 536870912 268435456))
