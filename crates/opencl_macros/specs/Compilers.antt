-- Names of which a compiler may have a macro: a condition that depends on one that the text does not define is left out.
use Rattle.std.specs.Prelude.{ℕ, List, [], ◌∷◌, take, Bool, true, false, cond, nat_eq, nat_le, ◌&&◌, ◌||◌, bytes_eq, Result, Ok, Err, codes}
use Rattle.semantics.specs.Core.{Site}
use Rattle.opencl_macros.specs.Macros.{Table, is_defined}

-- names that are kept for macros of compilers: two underscores, or one and a capital letter (C99 6.10.8p4)
abbrev pub is_reserved : (name : List ℕ) → Bool
is_reserved [] = false
is_reserved (a ∷ []) = false
is_reserved (a ∷ b ∷ rest) = nat_eq a 95 && (nat_eq b 95 || (nat_le 65 b && nat_le b 90))

-- macros of one beginning: of types (OpenCL 1.2, 6.2.4.2), of versions (6.10), of floats and doubles (6.12.2), of fences and images
-- (6.12.8, 6.12.14)
abbrev pub is_of_family : (name : List ℕ) → Bool
is_of_family name =
    bytes_eq (take 3 name) (codes "as_") || (bytes_eq (take 11 name) (codes "CL_VERSION_") || (bytes_eq (take 4 name) (codes "FLT_")
    || (bytes_eq (take 4 name) (codes "DBL_") || (bytes_eq (take 3 name) (codes "FP_") || bytes_eq (take 4 name) (codes "CLK_")))))

abbrev pub is_one_of : List (List ℕ) → (name : List ℕ) → Bool
is_one_of [] name = false
is_one_of (n ∷ ns) name = bytes_eq name n || is_one_of ns name

-- constants that each compiler defines (OpenCL 1.2, 6.12.2 and 6.12.3): a condition may ask whether they are, and none is undefined
unfoldable pub standard_names : List (List ℕ)
standard_names =
    codes "CHAR_BIT" ∷ codes "CHAR_MAX" ∷ codes "CHAR_MIN" ∷ codes "SCHAR_MAX" ∷ codes "SCHAR_MIN" ∷ codes "UCHAR_MAX"
    ∷ codes "SHRT_MAX" ∷ codes "SHRT_MIN" ∷ codes "USHRT_MAX" ∷ codes "INT_MAX" ∷ codes "INT_MIN" ∷ codes "UINT_MAX"
    ∷ codes "LONG_MAX" ∷ codes "LONG_MIN" ∷ codes "ULONG_MAX" ∷ codes "FLT_MAX" ∷ codes "FLT_MIN" ∷ codes "FLT_EPSILON"
    ∷ codes "MAXFLOAT" ∷ codes "HUGE_VALF" ∷ codes "INFINITY" ∷ codes "NAN" ∷ codes "M_E_F" ∷ codes "M_LOG2E_F"
    ∷ codes "M_LOG10E_F" ∷ codes "M_LN2_F" ∷ codes "M_LN10_F" ∷ codes "M_PI_F" ∷ codes "M_PI_2_F" ∷ codes "M_PI_4_F"
    ∷ codes "M_1_PI_F" ∷ codes "M_2_PI_F" ∷ codes "M_2_SQRTPI_F" ∷ codes "M_SQRT2_F" ∷ codes "M_SQRT1_2_F" ∷ []

abbrev pub is_standard : (name : List ℕ) → Bool
is_standard name = is_one_of standard_names name

-- macros of doubles (OpenCL 1.2, 6.12.2), of kernels (6.10), of `long` in the embedded profile (10), and of C99 (7.16, 7.17)
unfoldable pub header_names : List (List ℕ)
header_names =
    codes "HUGE_VAL" ∷ codes "kernel_exec" ∷ codes "cles_khr_int64" ∷ codes "true" ∷ codes "false" ∷ codes "NULL" ∷ codes "M_E"
    ∷ codes "M_LOG2E" ∷ codes "M_LOG10E" ∷ codes "M_LN2" ∷ codes "M_LN10" ∷ codes "M_PI" ∷ codes "M_PI_2" ∷ codes "M_PI_4"
    ∷ codes "M_1_PI" ∷ codes "M_2_PI" ∷ codes "M_2_SQRTPI" ∷ codes "M_SQRT2" ∷ codes "M_SQRT1_2" ∷ []

-- macros of the extension of halves (OpenCL 1.2 extensions, 9.5)
unfoldable pub half_names : List (List ℕ)
half_names =
    codes "HALF_DIG" ∷ codes "HALF_MANT_DIG" ∷ codes "HALF_MAX_10_EXP" ∷ codes "HALF_MAX_EXP" ∷ codes "HALF_MIN_10_EXP"
    ∷ codes "HALF_MIN_EXP" ∷ codes "HALF_RADIX" ∷ codes "HALF_MAX" ∷ codes "HALF_MIN" ∷ codes "HALF_EPSILON" ∷ codes "M_E_H"
    ∷ codes "M_LOG2E_H" ∷ codes "M_LOG10E_H" ∷ codes "M_LN2_H" ∷ codes "M_LN10_H" ∷ codes "M_PI_H" ∷ codes "M_PI_2_H"
    ∷ codes "M_PI_4_H" ∷ codes "M_1_PI_H" ∷ codes "M_2_PI_H" ∷ codes "M_2_SQRTPI_H" ∷ codes "M_SQRT2_H" ∷ codes "M_SQRT1_2_H" ∷ []

abbrev pub is_compilers : (name : List ℕ) → Bool
is_compilers name = is_standard name || (is_reserved name || (is_of_family name || (is_one_of header_names name || is_one_of half_names name)))

-- whether a name is defined (C99 6.10.1p1), where the text or the standard says so
abbrev pub whether_defined : Table → Site → (name : List ℕ) → Result Bool Site
whether_defined table site name =
    cond (is_defined name table || is_standard name) (Ok true) (cond (is_compilers name) (Err site) (Ok false))
