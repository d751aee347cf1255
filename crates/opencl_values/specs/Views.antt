-- Elements of a buffer that are seen as ones of another type, of as many bytes or more, and pointers to ones of fewer, through which nothing
-- is read or stored (C99 6.3.2.3p7; OpenCL 1.2, 6.1.5). The lowest bits
-- come first in memory: devices are little-endian, as `__ENDIAN_LITTLE__` says.
use Rattle.std.specs.Prelude.{ℕ, ◌+◌, ◌*◌, List, [], ◌∷◌, ◌++◌, Bool, cond, not, ◌&&◌, nat_eq, nat_le}
use Rattle.semantics.specs.Word as word
use Rattle.semantics.specs.Word.{Leftward, Rightward}
use Rattle.semantics.specs.Core.{Site, Array, Term, Binary, Shift}
use Rattle.opencl_terms.specs.Types.{Scalar, ValueType, Value, type_of, value_of, bits_in, is_vector}
use Rattle.opencl_terms.specs.Conversions.{uint}
use Rattle.opencl_values.specs.Bits.{is_in_memory, word_of, bits_of_word, word_of_bits, number_of_bits, bits_of_number}
use Rattle.opencl_values.specs.Wholes.{component, places}
use Rattle.opencl_values.specs.Vectors.{Loaded, vector_made}

-- how many elements of 8, 16 or 32 bits so many bits are; 0 where there is no such number
abbrev pub bytes_under : (bits : ℕ) → ℕ
bytes_under n = cond (nat_eq n 8) 1 (cond (nat_eq n 16) 2 4)

abbrev pub shorts_under : (bits : ℕ) → ℕ
shorts_under n = cond (nat_eq n 8) 0 (cond (nat_eq n 16) 1 2)

abbrev pub words_under : (bits : ℕ) → ℕ
words_under n = cond (nat_eq n 32) 1 0

abbrev pub count_under : (over bits : ℕ) → ℕ
count_under a n = cond (nat_eq a 8) (bytes_under n) (cond (nat_eq a 16) (shorts_under n) (words_under n))

-- how many elements of the scalar `over` lie under one of another
abbrev pub under_scalar : (over to : Scalar) → ℕ
under_scalar a s = count_under (bits_in a) (bits_in s)

abbrev pub so_many : (count width : ℕ) → ℕ
so_many n w = cond (nat_eq n 1) w (cond (nat_eq n 2) (w * 2) (cond (nat_eq n 4) (w * 4) 0))

-- how many lie under an element of a type. There are at most sixteen, and none under a vector of three (ours)
abbrev pub pieces : (over : Scalar) → ValueType → ℕ
pieces a t = cond (nat_le t.width 16 && not (nat_eq t.width 3)) (so_many (under_scalar a t.scalar) t.width) 0

abbrev pub has_view : (over : Scalar) → ValueType → Bool
has_view a t = is_in_memory t.scalar && (nat_le 1 (pieces a t) && nat_le (pieces a t) 16)

-- how many elements of a narrower scalar lie in one of the scalar `over`; 0 where it is not narrower
abbrev pub narrower : (over bits : ℕ) → ℕ
narrower a n = cond (nat_eq a 32) (cond (nat_eq n 8) 4 (cond (nat_eq n 16) 2 0)) (cond (nat_eq a 16 && nat_eq n 8) 2 0)

abbrev pub parts_of : (over : Scalar) → ValueType → ℕ
parts_of a t = cond (is_in_memory t.scalar && not (is_vector t)) (narrower (bits_in a) (bits_in t.scalar)) 0

abbrev pub is_finer : (over : Scalar) → ValueType → Bool
is_finer a t = nat_le 2 (parts_of a t)

-- the bits of some elements, one behind the other, of which each has so many
abbrev pub two : Site → (bits : ℕ) → (low high : Term) → Term
two site n a b = Binary word.BitOr word.Uint site a (Shift Leftward word.Uint b (uint n))

abbrev pub piece : Site → (over : Scalar) → (memory : Value) → (place : ℕ) → Term
piece site a m n = bits_of_word a site (component m n).term

abbrev pub pair : Site → (over : Scalar) → (memory : Value) → (place : ℕ) → Term
pair site a m n = two site (bits_in a) (piece site a m n) (piece site a m (n + 1))

abbrev pub four : Site → (over : Scalar) → (memory : Value) → (place : ℕ) → Term
four site a m n = two site 16 (pair site a m n) (pair site a m (n + 2))

abbrev pub joined : Site → (over : Scalar) → (count : ℕ) → (memory : Value) → (place : ℕ) → Term
joined site a c m n = cond (nat_eq c 4) (four site a m n) (cond (nat_eq c 2) (pair site a m n) (piece site a m n))

-- where the elements under a component begin
abbrev pub first_under : (count place : ℕ) → ℕ
first_under c n = cond (nat_le n 16) (so_many c n) 0

abbrev pub joined_at : Site → (over to : Scalar) → (memory : Value) → (place : ℕ) → Term
joined_at site a s m n =
    number_of_bits s site (joined site a (under_scalar a s) m (first_under (under_scalar a s) n))

abbrev pub joined_behind : Site → (over to : Scalar) → (memory : Value) → (so_far : List Term) → (places : List ℕ) → List Term
joined_behind site a s m ts [] = ts
joined_behind site a s m ts (n ∷ ns) = joined_behind site a s m (ts ++ joined_at site a s m n ∷ []) ns

abbrev pub seen_as : Site → (over : Scalar) → ValueType → (memory : Value) → Value
seen_as site a t m = value_of t (joined_behind site a t.scalar m [] (places t.width))

-- all elements that lie under one of a type
abbrev pub memory_at : Site → Array → (over : Scalar) → (count : ℕ) → (index : Term) → Value
memory_at site b a c i = vector_made word.Uint site (Loaded b (word_of a) i) (type_of (word_of a) c)

abbrev pub view_loaded : Site → Array → (over : Scalar) → ValueType → (index : Term) → Value
view_loaded site b a t i = seen_as site a t (memory_at site b a (pieces a t) i)

-- how many bits lie in front of an element that lies under a component
abbrev pub bits_before : (bits place : ℕ) → ℕ
bits_before a n = cond (nat_eq a 8) (cond (nat_eq n 1) 8 (cond (nat_eq n 2) 16 24)) 16

abbrev pub moved_down : (over : Scalar) → (place : ℕ) → Term → Term
moved_down a n t = cond (nat_eq n 0) t (Shift Rightward word.Uint t (uint (bits_before (bits_in a) n)))

abbrev pub split_at : Site → (over : Scalar) → (bits : Term) → (place : ℕ) → Term
split_at site a t n = word_of_bits a site (moved_down a n t)

abbrev pub split_behind : Site → (over : Scalar) → (bits : Term) → (so_far : List Term) → (places : List ℕ) → List Term
split_behind site a t ts [] = ts
split_behind site a t ts (n ∷ ns) = split_behind site a t (ts ++ split_at site a t n ∷ []) ns

abbrev pub component_split : Site → (over : Scalar) → Value → (so_far : List Term) → (place : ℕ) → List Term
component_split site a v ts n =
    split_behind site a (bits_of_number v.type.scalar site (component v n).term) ts (places (under_scalar a v.type.scalar))

abbrev pub all_split : Site → (over : Scalar) → Value → (so_far : List Term) → (places : List ℕ) → List Term
all_split site a v ts [] = ts
all_split site a v ts (n ∷ ns) = all_split site a v (component_split site a v ts n) ns

-- the words that lie under a value
abbrev pub memory_of : Site → (over : Scalar) → Value → Value
memory_of site a v = value_of (type_of (word_of a) (pieces a v.type)) (all_split site a v [] (places v.type.width))
