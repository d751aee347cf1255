-- `select`, `bitselect`, `any`, `all`, `shuffle` and `shuffle2` (OpenCL 1.2, 6.12.6 and 6.12.12): by masks of bits, so that all arguments
-- are evaluated, and no way of the kernel is taken twice.
use Rattle.std.specs.Prelude.{ℕ, ◌+◌, ◌-◌, List, [], ◌∷◌, ◌++◌, Bool, true, false, cond, not, ◌&&◌, nat_eq, nat_le}
use Rattle.semantics.specs.Word as word
use Rattle.semantics.specs.Word.{Rightward}
use Rattle.semantics.specs.Core.{Site, Term, Binary, Shift}
use Rattle.opencl_terms.specs.Types.{Scalar, Char, Short, Int, Uint, ValueType, Value, type_of, value_of, is_vector, is_float, bits_in, scalar_number}
use Rattle.opencl_terms.specs.Conversions.{uint, masked}
use Rattle.opencl_values.specs.Faults.{Checked, WrongType, LeftOut, Vector, refused, when}
use Rattle.opencl_values.specs.Singles.{single}
use Rattle.opencl_values.specs.Bits.{is_in_memory, bits_of_number, number_of_bits}
use Rattle.opencl_values.specs.Wholes.{component, is_same_type, places, whole}

abbrev pub less : Site → (a b : Term) → Term
less site a b = Binary word.Subtract word.Uint site a b

abbrev pub bits_or : Site → (a b : Term) → Term
bits_or site a b = Binary word.BitOr word.Uint site a b

abbrev pub bits_and : Site → (a b : Term) → Term
bits_and site a b = Binary word.BitAnd word.Uint site a b

abbrev pub bits_xor : Site → (a b : Term) → Term
bits_xor site a b = Binary word.BitXor word.Uint site a b

abbrev pub down : (count : ℕ) → Term → Term
down n t = Shift Rightward word.Uint t (uint n)

-- 1 where a `uint` is not 0, else 0
abbrev pub not_zero : Site → Term → Term
not_zero site t = down 31 (bits_or site t (less site (uint 0) t))

-- the highest bit of a number of so many bits
abbrev pub highest : Site → (bits : ℕ) → Term → Term
highest site n t = masked site 1 (down (n - 1) t)

-- all bits where a number is 1, none where it is 0; and the other way
abbrev pub all_where : Site → Term → Term
all_where site t = less site (uint 0) t

abbrev pub none_where : Site → Term → Term
none_where site t = less site t (uint 1)

abbrev pub bits_at : Site → Value → (place : ℕ) → Term
bits_at site v n = bits_of_number v.type.scalar site (component v n).term

-- `select(a, b, c)` is `b` where `c`, an integer of as many bits, says so: a vector by the highest bit of each component
abbrev pub may_select : (a b c : Value) → Bool
may_select a b c =
    is_same_type a.type b.type && (nat_eq a.type.width c.type.width && (is_in_memory a.type.scalar && (is_in_memory c.type.scalar
    && (not (is_float c.type.scalar) && nat_eq (bits_in a.type.scalar) (bits_in c.type.scalar)))))

abbrev pub choice_at : Site → (c : Value) → (place : ℕ) → Term
choice_at site c n =
    cond (is_vector c.type) (highest site (bits_in c.type.scalar) (bits_at site c n)) (not_zero site (bits_at site c n))

abbrev pub chosen_bits : Site → (choice : Term) → (a b : Term) → Term
chosen_bits site t a b = bits_or site (bits_and site b (all_where site t)) (bits_and site a (none_where site t))

abbrev pub selected_at : Site → (a b c : Value) → (place : ℕ) → Term
selected_at site a b c n =
    number_of_bits a.type.scalar site (chosen_bits site (choice_at site c n) (bits_at site a n) (bits_at site b n))

abbrev pub selected_behind : Site → (a b c : Value) → (so_far : List Term) → (places : List ℕ) → List Term
selected_behind site a b c ts [] = ts
selected_behind site a b c ts (n ∷ ns) = selected_behind site a b c (ts ++ selected_at site a b c n ∷ []) ns

abbrev pub selected : Site → (a b c : Value) → Value
selected site a b c = value_of a.type (selected_behind site a b c [] (places a.type.width))

abbrev pub select_of : Site → (a b c : Value) → Checked Value
select_of site a b c = when (may_select a b c) (LeftOut Vector) site (selected site a b c)

abbrev pub select_called : Site → List Value → Checked Value
select_called site (a ∷ b ∷ c ∷ []) = select_of site a b c
select_called site vs = refused WrongType site

-- a component of `shuffle(v, m)` is the one of `v` that one of `m` numbers, modulo how many there are
abbrev pub where_equal : Site → (number : Term) → (place : ℕ) → Term
where_equal site t n = none_where site (not_zero site (bits_xor site t (uint n)))

abbrev pub numbered : Site → Value → (number : Term) → (so_far : Term) → (places : List ℕ) → Term
numbered site v i t [] = t
numbered site v i t (n ∷ ns) = numbered site v i (bits_or site t (bits_and site (bits_at site v n) (where_equal site i n))) ns

abbrev pub number_at : Site → (v m : Value) → (place : ℕ) → Term
number_at site v m n = masked site (v.type.width - 1) (component m n).term

abbrev pub shuffled_at : Site → (v m : Value) → (place : ℕ) → Term
shuffled_at site v m n = number_of_bits v.type.scalar site (numbered site v (number_at site v m n) (uint 0) (places v.type.width))

abbrev pub shuffled_behind : Site → (v m : Value) → (so_far : List Term) → (places : List ℕ) → List Term
shuffled_behind site v m ts [] = ts
shuffled_behind site v m ts (n ∷ ns) = shuffled_behind site v m (ts ++ shuffled_at site v m n ∷ []) ns

abbrev pub shuffled : Site → (v m : Value) → Value
shuffled site v m = value_of (type_of v.type.scalar m.type.width) (shuffled_behind site v m [] (places m.type.width))

-- the numbers are `uint`s, of a vector of as many bits (others are left out); a vector of three is none of these
abbrev pub may_shuffle : (v m : Value) → Bool
may_shuffle v m =
    (is_vector v.type && is_vector m.type)
    && ((not (nat_eq v.type.width 3) && not (nat_eq m.type.width 3))
    && (nat_eq (scalar_number m.type.scalar) (scalar_number Uint) && (is_in_memory v.type.scalar && nat_eq (bits_in v.type.scalar) 32)))

abbrev pub shuffle_of : Site → (v m : Value) → Checked Value
shuffle_of site v m = when (may_shuffle v m) (LeftOut Vector) site (shuffled site v m)

abbrev pub shuffle_called : Site → List Value → Checked Value
shuffle_called site (v ∷ m ∷ []) = shuffle_of site v m
shuffle_called site vs = refused WrongType site

-- the components of two vectors of one type, one behind the other, as those of one vector
abbrev pub joined : (v w : Value) → Value
joined v w = value_of (type_of v.type.scalar (v.type.width + w.type.width)) (v.terms ++ w.terms)

-- those of three components are none of these, and 32 components are left out
abbrev pub may_join : (v w : Value) → Bool
may_join v w = (is_vector v.type && is_same_type v.type w.type) && (not (nat_eq v.type.width 3) && nat_le v.type.width 8)

-- `shuffle2(v, w, m)` is `shuffle` of the components of both
abbrev pub join_of : Site → (v w m : Value) → Checked Value
join_of site v w m = cond (may_join v w) (shuffle_of site (joined v w) m) (refused (LeftOut Vector) site)

abbrev pub join_called : Site → List Value → Checked Value
join_called site (v ∷ w ∷ m ∷ []) = join_of site v w m
join_called site vs = refused WrongType site

-- `bitselect(a, b, c)` has the bits of `b` where `c` has one, and else those of `a` (6.12.6)
abbrev pub mixed_bits : Site → (a b c : Term) → Term
mixed_bits site a b c = bits_or site (bits_and site b c) (bits_and site a (bits_xor site c (uint 4294967295)))

abbrev pub mixed_at : Site → (a b c : Value) → (place : ℕ) → Term
mixed_at site a b c n = number_of_bits a.type.scalar site (mixed_bits site (bits_at site a n) (bits_at site b n) (bits_at site c n))

abbrev pub mixed_behind : Site → (a b c : Value) → (so_far : List Term) → (places : List ℕ) → List Term
mixed_behind site a b c ts [] = ts
mixed_behind site a b c ts (n ∷ ns) = mixed_behind site a b c (ts ++ mixed_at site a b c n ∷ []) ns

abbrev pub mixed : Site → (a b c : Value) → Value
mixed site a b c = value_of a.type (mixed_behind site a b c [] (places a.type.width))

abbrev pub may_mix : (a b c : Value) → Bool
may_mix a b c = (is_same_type a.type b.type && is_same_type a.type c.type) && is_in_memory a.type.scalar

abbrev pub mix_of : Site → (a b c : Value) → Checked Value
mix_of site a b c = when (may_mix a b c) (LeftOut Vector) site (mixed site a b c)

abbrev pub mix_called : Site → List Value → Checked Value
mix_called site (a ∷ b ∷ c ∷ []) = mix_of site a b c
mix_called site vs = refused WrongType site

-- `any` and `all`: 1 where the highest bit of a component, or of each, is one, else 0 (6.12.6)
abbrev pub top_at : Site → Value → (place : ℕ) → Term
top_at site v n = highest site (bits_in v.type.scalar) (bits_at site v n)

abbrev pub with_top : (is_all : Bool) → Site → (so_far top : Term) → Term
with_top true site t u = bits_and site t u
with_top false site t u = bits_or site t u

abbrev pub tops_behind : (is_all : Bool) → Site → Value → (so_far : Term) → (places : List ℕ) → Term
tops_behind a site v t [] = t
tops_behind a site v t (n ∷ ns) = tops_behind a site v (with_top a site t (top_at site v n)) ns

abbrev pub first_top : (is_all : Bool) → Term
first_top true = uint 1
first_top false = uint 0

abbrev pub tops : (is_all : Bool) → Site → Value → Value
tops a site v = whole (single Int (number_of_bits Int site (tops_behind a site v (first_top a) (places v.type.width))))

-- of `char`, `short` and `int` alone: for a narrower unsigned scalar a compiler takes the function of `int`
abbrev pub is_signed : Scalar → Bool
is_signed Char = true
is_signed Short = true
is_signed Int = true
is_signed s = false

abbrev pub tops_of : (is_all : Bool) → Site → Value → Checked Value
tops_of a site v = when (is_signed v.type.scalar) (LeftOut Vector) site (tops a site v)

abbrev pub tops_called : (is_all : Bool) → Site → List Value → Checked Value
tops_called a site (v ∷ []) = tops_of a site v
tops_called a site vs = refused WrongType site
