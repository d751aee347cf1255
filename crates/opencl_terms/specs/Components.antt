-- What operators make of single components (C99 6.5; OpenCL 1.2, 6.3). Those of scalars are computed after the usual conversions; those of
-- vectors in the type of their components, where what is narrow wraps (of `char` and `short` ours).
use Rattle.std.specs.Prelude.{ℕ, ◌^◌, ◌-◌, pos, Bool, true, false, Option, Some, None, cond, nat_le}
use Rattle.semantics.specs.Word as word
use Rattle.semantics.specs.Word.{Kind, Operator, Relation, Direction}
use Rattle.semantics.specs.Core.{Site, Term, Literal, Unary, Binary, Convert, Compare, Not, Shift}
use Rattle.opencl_terms.specs.Types.{Scalar, Char, Short, Int, Uint, Long, Size, Float, kind_of, is_narrow, bits_in}
use Rattle.opencl_terms.specs.Operations.{Negation, Calculates, of_one, of_two, compared}
use Rattle.opencl_terms.specs.Conversions.{int, uint, masked, narrowed, tested, as_uint, as_long, as_float}

-- an operand beside a size: a `uint` is the same number as a size
abbrev pub widened : (ids : Kind) → (from : Scalar) → Site → Term → Term
widened ids Uint site t = t
widened ids Size site t = t
widened ids from site t = Convert ids site t

-- an operand, brought to the type of both; beside a `uint` an `int` is read as one by the operator itself
abbrev pub operand : (ids : Kind) → (from to : Scalar) → Site → Term → Term
operand ids from Float site t = as_float from t
operand ids from Size site t = widened ids from site t
operand ids from Long site t = as_long from site t
operand ids from to site t = t

-- 6.5.5, 6.5.6, 6.5.10 to 6.5.12, of two operands of a promoted scalar
abbrev pub calculated : (ids : Kind) → Operator → Scalar → Site → (a b : Term) → Term
calculated ids op Float site a b = of_two (Calculates op) word.Uint a b
calculated ids op s site a b = Binary op (kind_of ids s) site a b

-- of two narrow components: sums and products modulo their width, by way of a `uint`, in which none is out of range
abbrev pub wrapped : Operator → Scalar → Site → (a b : Term) → Term
wrapped word.Add s site a b = narrowed s site (Binary word.Add word.Uint site a b)
wrapped word.Subtract s site a b = narrowed s site (Binary word.Subtract word.Uint site a b)
wrapped word.Multiply s site a b = narrowed s site (Binary word.Multiply word.Uint site a b)
wrapped word.Divide s site a b = narrowed s site (Convert word.Uint site (Binary word.Divide word.Int site a b))
wrapped op s site a b = Binary op word.Int site a b

abbrev pub component_calculated : (ids : Kind) → Operator → Scalar → Site → (a b : Term) → Term
component_calculated ids op s site a b = cond (is_narrow s) (wrapped op s site a b) (calculated ids op s site a b)

-- 6.5.8, 6.5.9: an `int` of 0 or 1
abbrev pub related : (ids : Kind) → Relation → Scalar → (a b : Term) → Term
related ids r Float a b = compared r a b
related ids r s a b = Compare r (kind_of ids s) a b

-- what a test of a component of a vector gives: 0 or -1, all bits set (OpenCL 1.2, 6.3 d)
abbrev pub all_bits : Site → Term → Term
all_bits site t = Unary word.Negate word.Int site t

-- 6.5.3.3
abbrev pub negated : (ids : Kind) → Scalar → Site → Term → Term
negated ids Float site t = of_one Negation word.Uint t
negated ids s site t = Unary word.Negate (kind_of ids s) site t

abbrev pub component_negated : (ids : Kind) → Scalar → Site → Term → Term
component_negated ids s site t = cond (is_narrow s) (narrowed s site (Unary word.Negate word.Uint site t)) (negated ids s site t)

abbrev pub complemented : (ids : Kind) → Scalar → Site → Term → Term
complemented ids s site t = Unary word.Complement (kind_of ids s) site t

abbrev pub component_complemented : (ids : Kind) → Scalar → Site → Term → Term
component_complemented ids s site t =
    cond (is_narrow s) (narrowed s site (Unary word.Complement word.Uint site t)) (complemented ids s site t)

abbrev pub refuted : Scalar → Term → Term
refuted s t = Not (tested s t)

-- a shift of an `int` or a `uint`, as far as the lowest five bits of the count say (6.5.7; OpenCL 1.2, 6.3 j)
abbrev pub shifted : Direction → Kind → (t count : Term) → Term
shifted d k t count = Shift d k t count

-- a size is shifted by a number in the text, 0 to 31, alone (ours): to the left its product with a power of 2, to the right its quotient
abbrev pub number_in_text : Term → Option ℕ
number_in_text (Literal k (pos n)) = cond (nat_le n 31) (Some n) None
number_in_text t = None

abbrev pub size_shifted : (ids : Kind) → Direction → Site → Term → (count : ℕ) → Term
size_shifted ids word.Leftward site t n = Binary word.Multiply ids site t (uint (2 ^ n))
size_shifted ids word.Rightward site t n = Binary word.Divide ids site t (uint (2 ^ n))

-- a narrow component is shifted as far as the lowest three or four bits say, which `mask` has
abbrev pub narrow_shifted : Direction → (mask : ℕ) → (s counts : Scalar) → Site → (t count : Term) → Term
narrow_shifted word.Leftward mask s counts site t count =
    narrowed s site (Shift word.Leftward word.Uint t (masked site mask (as_uint counts site count)))
narrow_shifted word.Rightward mask s counts site t count = Shift word.Rightward word.Int t (masked site mask (as_uint counts site count))

abbrev pub component_shifted : (ids : Kind) → Direction → (s counts : Scalar) → Site → (t count : Term) → Term
component_shifted ids d s counts site t count =
    cond (is_narrow s) (narrow_shifted d (bits_in s - 1) s counts site t count) (shifted d (kind_of ids s) t count)

-- whether the highest bit of a component is set (6.3 i)
abbrev pub is_signed : Scalar → Bool
is_signed Char = true
is_signed Short = true
is_signed Int = true
is_signed s = false

abbrev pub has_highest_bit : (ids : Kind) → Scalar → Term → Term
has_highest_bit ids s t = cond (is_signed s) (Compare word.Less word.Int t (int 0)) (Compare word.AtLeast (kind_of ids s) t (uint (2 ^ (bits_in s - 1))))
