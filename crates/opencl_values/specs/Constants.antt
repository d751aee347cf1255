-- Numbers that names stand for: constants of enumerations, and those of OpenCL 1.2, 6.12.2.1 and 6.12.3, C99 5.2.4.2 and 7.16.
use Rattle.std.specs.Prelude.{ℕ, ◌-◌, ◌^◌, List, [], ◌∷◌, Bool, cond, true, false, ◌||◌, Option, Some, None, nat_lt, bytes_eq, codes}
use Rattle.std.specs.List.{find}
use Rattle.std.specs.Option.{option_map}
use Rattle.semantics.specs.Word as word
use Rattle.semantics.specs.Word.{Kind}
use Rattle.semantics.specs.Core.{Site, Term, Literal, Unary, Binary}
use Rattle.opencl_terms.specs.Types.{Scalar, Int, Uint, Size, Float}
use Rattle.opencl_terms.specs.Operations.{Constant, nothing, of_one}
use Rattle.opencl_terms.specs.Conversions.{int, uint}
use Rattle.opencl_values.specs.Scope.{or_else}
use Rattle.opencl_values.specs.Singles.{Single, single}

-- the negative number of 32 bits: -2147483648 is written -2147483647 - 1
abbrev pub negative_term : Site → (bits : ℕ) → Term
negative_term site n = Binary word.Subtract word.Int site (Unary word.Negate word.Int site (int (4294967295 - n))) (int 1)

-- the `int` of 32 bits
abbrev pub int_term : Site → (bits : ℕ) → Term
int_term site n = cond (nat_lt n 2147483648) (int n) (negative_term site n)

-- a number of a kind, by its 32 bits
abbrev pub number_value : Site → Kind → (bits : ℕ) → Single
number_value site word.Int n = single Int (int_term site n)
number_value site word.Uint n = single Uint (uint n)
number_value site word.Size n = single Uint (uint n)

-- a floating constant: its value is not reckoned
abbrev pub real_value : Single
real_value = single Float (of_one Constant word.Uint nothing)

-- of integers, each with its kind and its 32 bits
unfoldable pub integers : List (List ℕ × Kind × ℕ)
integers =
    (codes "true", word.Int, 1) ∷ (codes "false", word.Int, 0) ∷ (codes "CHAR_BIT", word.Int, 8)
    ∷ (codes "CHAR_MAX", word.Int, 127) ∷ (codes "CHAR_MIN", word.Int, 4294967168)
    ∷ (codes "SCHAR_MAX", word.Int, 127) ∷ (codes "SCHAR_MIN", word.Int, 4294967168) ∷ (codes "UCHAR_MAX", word.Int, 255)
    ∷ (codes "SHRT_MAX", word.Int, 32767) ∷ (codes "SHRT_MIN", word.Int, 4294934528) ∷ (codes "USHRT_MAX", word.Int, 65535)
    ∷ (codes "INT_MAX", word.Int, 2147483647) ∷ (codes "INT_MIN", word.Int, 2147483648) ∷ (codes "UINT_MAX", word.Uint, 4294967295)
    ∷ (codes "FLT_DIG", word.Int, 6) ∷ (codes "FLT_MANT_DIG", word.Int, 24) ∷ (codes "FLT_RADIX", word.Int, 2)
    ∷ (codes "FLT_MAX_EXP", word.Int, 128) ∷ (codes "FLT_MAX_10_EXP", word.Int, 38) ∷ []

unfoldable pub reals : List (List ℕ)
reals =
    codes "FLT_MAX" ∷ codes "FLT_MIN" ∷ codes "FLT_EPSILON" ∷ codes "MAXFLOAT" ∷ codes "INFINITY" ∷ codes "HUGE_VALF" ∷ codes "NAN"
    ∷ codes "M_E_F" ∷ codes "M_LOG2E_F" ∷ codes "M_LOG10E_F" ∷ codes "M_LN2_F" ∷ codes "M_LN10_F" ∷ codes "M_PI_F" ∷ codes "M_PI_2_F"
    ∷ codes "M_PI_4_F" ∷ codes "M_1_PI_F" ∷ codes "M_2_PI_F" ∷ codes "M_2_SQRTPI_F" ∷ codes "M_SQRT2_F" ∷ codes "M_SQRT1_2_F" ∷ []

abbrev pub is_one_of : List (List ℕ) → List ℕ → Bool
is_one_of [] name = false
is_one_of (n ∷ ns) name = bytes_eq n name || is_one_of ns name

abbrev pub integer_named : List ℕ → Option (List ℕ × Kind × ℕ)
integer_named name = find (λ entry. bytes_eq entry.0 name) integers

abbrev pub integer_meant : Site → List ℕ × Kind × ℕ → Single
integer_meant site entry = number_value site entry.1 entry.2

abbrev pub real_named : List ℕ → Option Single
real_named name = cond (is_one_of reals name) (Some real_value) None

abbrev pub constant_named : Site → List ℕ → Option Single
constant_named site name = or_else (option_map (integer_meant site) (integer_named name)) (real_named name)
