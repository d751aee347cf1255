-- Members of vectors (OpenCL 1.2, 6.1.7).
use Rattle.std.specs.Prelude.{ℕ, ◌+◌, ◌-◌, ◌/◌, ◌%◌, List, [], ◌∷◌, ◌++◌, take, drop, length, Bool, true, false, cond, not, ◌||◌, ◌&&◌, nat_eq, nat_le, nat_lt, bytes_eq, codes, Ok, Option, Some, None}
use Rattle.semantics.specs.Word.{Kind}
use Rattle.semantics.specs.Core.{Site}
use Rattle.opencl_terms.specs.Types.{ValueType, Value, type_of, value_of, is_vector}
use Rattle.opencl_values.specs.Faults.{Checked, WrongType, LeftOut, Vector, refused, then, when}
use Rattle.opencl_values.specs.Wholes.{counting, places, is_among}
use Rattle.opencl_values.specs.Vectors.{Picked, made_behind}

-- the component that a letter names: `x`, `y`, `z` and `w`
abbrev pub place_lettered : (letter : ℕ) → Option ℕ
place_lettered n = cond (nat_eq n 119) (Some 3) (cond (nat_le 120 n && nat_le n 122) (Some (n - 120)) None)

-- the component that a digit of base 16 names, behind an `s`
abbrev pub place_numbered : (digit : ℕ) → Option ℕ
place_numbered n =
    cond (nat_le 48 n && nat_le n 57) (Some (n - 48))
    (cond (nat_le 97 n && nat_le n 102) (Some (n - 87)) (cond (nat_le 65 n && nat_le n 70) (Some (n - 55)) None))

abbrev pub place_named : (numbered : Bool) → (letter : ℕ) → Option ℕ
place_named numbered n = cond numbered (place_numbered n) (place_lettered n)

-- each letter is that of a component that the vector has
abbrev pub one_more : Site → (width : ℕ) → (so_far : List ℕ) → Option ℕ → Checked (List ℕ)
one_more site width ps None = refused WrongType site
one_more site width ps (Some p) = when (nat_lt p width) WrongType site (ps ++ p ∷ [])

abbrev pub picked_behind : Site → (width : ℕ) → (numbered : Bool) → (so_far : List ℕ) → (letters : List ℕ) → Checked (List ℕ)
picked_behind site width numbered ps [] = Ok ps
picked_behind site width numbered ps (n ∷ ns) =
    then (one_more site width ps (place_named numbered n)) (λ more. picked_behind site width numbered more ns)

-- halves, and components of either parity
abbrev pub half_of : (width : ℕ) → ℕ
half_of n = n / 2 + n % 2

abbrev pub evens : List ℕ
evens = 0 ∷ 2 ∷ 4 ∷ 6 ∷ 8 ∷ 10 ∷ 12 ∷ 14 ∷ []

abbrev pub odds : List ℕ
odds = 1 ∷ 3 ∷ 5 ∷ 7 ∷ 9 ∷ 11 ∷ 13 ∷ 15 ∷ []

abbrev pub upper : (width : ℕ) → List ℕ
upper n = drop (half_of n) (places n)

-- a vector of three has a fourth component there, of which nothing is known: what has it is left out
abbrev pub without_third : Site → (width : ℕ) → List ℕ → Checked (List ℕ)
without_third site n ps = when (not (nat_eq n 3)) (LeftOut Vector) site ps

-- letters, or digits behind an `s`
abbrev pub spelled : Site → (width : ℕ) → (name : List ℕ) → Checked (List ℕ)
spelled site width [] = refused WrongType site
spelled site width (n ∷ ns) = picked_behind site width (nat_eq n 115 || nat_eq n 83) [] (cond (nat_eq n 115 || nat_eq n 83) ns (n ∷ ns))

abbrev pub lengths_allowed : (count : ℕ) → Bool
lengths_allowed n = nat_eq n 1 || (nat_eq n 2 || (nat_eq n 3 || (nat_eq n 4 || (nat_eq n 8 || nat_eq n 16))))

abbrev pub counted : Site → List ℕ → Checked (List ℕ)
counted site ps = when (lengths_allowed (length ps)) WrongType site ps

abbrev pub spelled_out : Site → (width : ℕ) → (name : List ℕ) → Checked (List ℕ)
spelled_out site width name = then (spelled site width name) (counted site)

-- the components that a member names
abbrev pub member_places : Site → (width : ℕ) → (name : List ℕ) → Checked (List ℕ)
member_places site n name =
    cond (bytes_eq name (codes "lo")) (Ok (take (half_of n) counting))
    (cond (bytes_eq name (codes "hi")) (without_third site n (upper n))
    (cond (bytes_eq name (codes "even")) (Ok (take (half_of n) evens))
    (cond (bytes_eq name (codes "odd")) (without_third site n (take (half_of n) odds)) (spelled_out site n name))))

-- a scalar has no members
abbrev pub places_of_member : Site → ValueType → (name : List ℕ) → Checked (List ℕ)
places_of_member site t name = cond (is_vector t) (member_places site t.width name) (refused WrongType site)

abbrev pub first_in : List ℕ → ℕ
first_in [] = 0
first_in (p ∷ ps) = p

abbrev pub picked_of : (ids : Kind) → Site → Value → (picked : List ℕ) → Value
picked_of ids site v ps = value_of (type_of v.type.scalar (length ps)) (made_behind ids site (Picked v (first_in ps) ps) [] ps)

abbrev pub member_of : (ids : Kind) → Site → Value → (name : List ℕ) → Checked Value
member_of ids site v name = then (places_of_member site v.type name) (λ ps. Ok (picked_of ids site v ps))

-- no component is assigned twice
abbrev pub are_different : (so_far picked : List ℕ) → Bool
are_different so [] = true
are_different so (p ∷ ps) = not (is_among so p) && are_different (so ++ p ∷ []) ps

abbrev pub target_places : Site → ValueType → (name : List ℕ) → Checked (List ℕ)
target_places site t name = then (places_of_member site t name) (λ ps. when (are_different [] ps) WrongType site ps)
