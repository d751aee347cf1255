-- The words of the values among a host's arguments, and the lengths of its buffers, in components.
use Rattle.std.specs.Prelude.{ℕ, ◌*◌, ◌/◌, ◌%◌, ◌^◌, ◌+◌, zero, suc, ℤ, pos, ◌-ℤ◌, List, [], ◌∷◌, ◌++◌, slice_index, cond, nat_lt, nat_eq, Bool, true}
use Rattle.semantics.specs.Word as word
use Rattle.semantics.specs.Word.{Word, read_bits}
use Rattle.host_launches.specs.declared.given.Argument.{Argument}
use Rattle.host_launches.specs.declared.shapes.Scalar.{Scalar}
use Rattle.host_launches.specs.declared.shapes.Scalar.TheVariants as scalars
use Rattle.host_launches.specs.declared.shapes.Shape.{Shape}
use Rattle.host_launches.specs.declared.shapes.Shape.TheVariants.{Value, Buffer, Local}
use Rattle.host_launches.specs.Shapes.{size_of}

-- parts of the words, the lowest bits of a word first
abbrev pub byte_at : (words : List ℕ) → (place : ℕ) → ℕ
byte_at ws n = slice_index ws (n / 4) / 2 ^ (8 * (n % 4)) % 256

abbrev pub pair_at : (words : List ℕ) → (place : ℕ) → ℕ
pair_at ws n = slice_index ws (n / 2) / 2 ^ (16 * (n % 2)) % 65536

abbrev pub whole_at : (words : List ℕ) → (place : ℕ) → ℕ
whole_at ws n = slice_index ws n % 2 ^ 32

-- the number of a signed type in two's complement, and that of an unsigned one, as an `int` (C99 6.2.6.2 and 6.3.1.1)
abbrev pub narrow : (half bits : ℕ) → Word
narrow half b = word.word word.Int (cond (nat_lt b half) (pos b) (pos b -ℤ pos (2 * half)))

abbrev pub unsigned : (bits : ℕ) → Word
unsigned b = word.word word.Int (pos b)

abbrev pub whole : word.Kind → (bits : ℕ) → Word
whole k b = word.word k (read_bits k b)

-- a `long` is no vector, and has the number of an `int`: the higher half repeats the sign of the lower one
abbrev pub sign_half : (low : ℕ) → ℕ
sign_half b = cond (nat_lt b 2147483648) 0 4294967295

abbrev pub is_int : (words : List ℕ) → Bool
is_int ws = nat_eq (whole_at ws 1) (sign_half (whole_at ws 0))

abbrev pub has_word : Scalar → (words : List ℕ) → Bool
has_word scalars.Long ws = is_int ws
has_word s ws = true

-- the word of the component at a place of a value
abbrev pub component : Scalar → (words : List ℕ) → (place : ℕ) → Word
component scalars.Char ws n = narrow 128 (byte_at ws n)
component scalars.Uchar ws n = unsigned (byte_at ws n)
component scalars.Short ws n = narrow 32768 (pair_at ws n)
component scalars.Ushort ws n = unsigned (pair_at ws n)
component scalars.Int ws n = whole word.Int (whole_at ws n)
component scalars.Uint ws n = whole word.Uint (whole_at ws n)
component scalars.Long ws n = whole word.Int (whole_at ws n)
component scalars.Float ws n = whole word.Uint (whole_at ws n)

-- so many components from a place on
abbrev pub components : Scalar → (words : List ℕ) → (place count : ℕ) → List Word
components s ws n zero = []
components s ws n (suc count) = component s ws n ∷ components s ws (n + 1) count

abbrev pub words_at : Shape → Argument → List Word
words_at (Value e) a = components e.scalar a.words 0 e.width
words_at (Buffer e) a = []
words_at (Local e count) a = []

abbrev pub words_of : List Shape → List Argument → List Word
words_of [] gs = []
words_of (s ∷ ss) [] = []
words_of (s ∷ ss) (a ∷ gs) = words_at s a ++ words_of ss gs

abbrev pub lengths_at : Shape → Argument → List ℕ
lengths_at (Value e) a = []
lengths_at (Buffer e) a = a.bytes / size_of e.scalar ∷ []
lengths_at (Local e count) a = []

abbrev pub lengths_of : List Shape → List Argument → List ℕ
lengths_of [] gs = []
lengths_of (s ∷ ss) [] = []
lengths_of (s ∷ ss) (a ∷ gs) = lengths_at s a ++ lengths_of ss gs
