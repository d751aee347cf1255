-- The built-in functions that are read, by their names, and what is made of their arguments (OpenCL 1.2, 6.2.3, 6.2.4 and 6.12).
use Rattle.std.specs.Prelude.{ℕ, ◌+◌, List, [], ◌∷◌, Bool, true, false, cond, Option, Some, None, bytes_eq, codes, nat_eq}
use Rattle.std.specs.List.{find, starts_with}
use Rattle.semantics.specs.Core.{Function, GlobalId, LocalId, GroupId, GlobalSize, LocalSize, NumGroups}
use Rattle.opencl_terms.specs.Types.{Scalar, Char, Uchar, Short, Ushort, Int, Uint, Float}
use Rattle.opencl_values.specs.Faults as faults
use Rattle.opencl_values.specs.Faults.{Construct, Atomic, Image, Vector, Pointer}
use Rattle.opencl_values.specs.Scope.{or_else}

-- `Integers` take integers of one scalar and give such a one; `Floats` take and give floats; `Scaled` a float and an `int`; `FromBits`
-- makes a float of a `uint`, `Exponent` an `int` of a float; `Tests` of floats give an `int` of 0 or 1; of vectors `Reduces` gives a float
-- of all components, `Spreads` a vector of such; `Selects` chooses between two, `Shuffles` takes components by numbers, `Joins` those of two;
-- `Mixes` chooses bit by bit, `Tops` gives an `int` of the highest bits; `Dimensions` is `get_work_dim`
pub data Form : Type 0 where
  IdOf : (function : Function) → Form
  Converts Saturates BitsAs : (to : Scalar) → Form
  Integers Floats Tests Reduces Spreads : (count : ℕ) → Form
  Offset Lesser Greater Clamped Absolute Product24 Sum24 Scaled FromBits Exponent Selects Shuffles Joins Mixes Dimensions : Form
  Tops : (is_all : Bool) → Form
  Missing : (construct : Construct) → Form

-- how many arguments it takes
abbrev pub count_of : Form → ℕ
count_of (IdOf f) = 1
count_of (Converts to) = 1
count_of (Saturates to) = 1
count_of (BitsAs to) = 1
count_of (Integers n) = n
count_of (Floats n) = n
count_of (Tests n) = n
count_of (Reduces n) = n
count_of (Spreads n) = n
count_of Offset = 1
count_of Lesser = 2
count_of Greater = 2
count_of Clamped = 3
count_of Absolute = 1
count_of Product24 = 2
count_of Sum24 = 3
count_of Scaled = 2
count_of FromBits = 1
count_of Exponent = 1
count_of Selects = 3
count_of Shuffles = 2
count_of Joins = 3
count_of Mixes = 3
count_of (Tops is_all) = 1
count_of Dimensions = 0
count_of (Missing construct) = 0

-- functions of 6.12.2 to 6.12.6: of integers, of floats, their cheaper forms, common and geometric ones, tests. Those with a pointer are
-- left out. The last one is a work-item function whose value no one knows
unfoldable pub functions : List (List ℕ × Form)
functions =
    (codes "min", Lesser) ∷ (codes "max", Greater) ∷ (codes "clamp", Clamped) ∷ (codes "abs", Absolute) ∷ (codes "mul24", Product24)
    ∷ (codes "mad24", Sum24) ∷ (codes "abs_diff", Integers 2) ∷ (codes "add_sat", Integers 2) ∷ (codes "sub_sat", Integers 2)
    ∷ (codes "hadd", Integers 2) ∷ (codes "rhadd", Integers 2) ∷ (codes "clz", Integers 1) ∷ (codes "mad_hi", Integers 3)
    ∷ (codes "mad_sat", Integers 3) ∷ (codes "mul_hi", Integers 2) ∷ (codes "rotate", Integers 2) ∷ (codes "popcount", Integers 1)
    ∷ (codes "acos", Floats 1) ∷ (codes "acosh", Floats 1) ∷ (codes "acospi", Floats 1) ∷ (codes "asin", Floats 1)
    ∷ (codes "asinh", Floats 1) ∷ (codes "asinpi", Floats 1) ∷ (codes "atan", Floats 1) ∷ (codes "atanh", Floats 1)
    ∷ (codes "atanpi", Floats 1) ∷ (codes "cbrt", Floats 1) ∷ (codes "ceil", Floats 1) ∷ (codes "cos", Floats 1)
    ∷ (codes "cosh", Floats 1) ∷ (codes "cospi", Floats 1) ∷ (codes "erf", Floats 1) ∷ (codes "erfc", Floats 1) ∷ (codes "exp", Floats 1)
    ∷ (codes "exp2", Floats 1) ∷ (codes "exp10", Floats 1) ∷ (codes "expm1", Floats 1) ∷ (codes "fabs", Floats 1)
    ∷ (codes "floor", Floats 1) ∷ (codes "lgamma", Floats 1) ∷ (codes "log", Floats 1) ∷ (codes "log2", Floats 1)
    ∷ (codes "log10", Floats 1) ∷ (codes "log1p", Floats 1) ∷ (codes "logb", Floats 1) ∷ (codes "rint", Floats 1)
    ∷ (codes "round", Floats 1) ∷ (codes "rsqrt", Floats 1) ∷ (codes "sin", Floats 1) ∷ (codes "sinh", Floats 1)
    ∷ (codes "sinpi", Floats 1) ∷ (codes "sqrt", Floats 1) ∷ (codes "tan", Floats 1) ∷ (codes "tanh", Floats 1)
    ∷ (codes "tanpi", Floats 1) ∷ (codes "tgamma", Floats 1) ∷ (codes "trunc", Floats 1) ∷ (codes "atan2", Floats 2)
    ∷ (codes "atan2pi", Floats 2) ∷ (codes "copysign", Floats 2) ∷ (codes "fdim", Floats 2) ∷ (codes "fmax", Floats 2)
    ∷ (codes "fmin", Floats 2) ∷ (codes "fmod", Floats 2) ∷ (codes "hypot", Floats 2) ∷ (codes "maxmag", Floats 2)
    ∷ (codes "minmag", Floats 2) ∷ (codes "nextafter", Floats 2) ∷ (codes "pow", Floats 2) ∷ (codes "powr", Floats 2)
    ∷ (codes "remainder", Floats 2) ∷ (codes "fma", Floats 3) ∷ (codes "mad", Floats 3) ∷ (codes "ldexp", Scaled) ∷ (codes "pown", Scaled)
    ∷ (codes "rootn", Scaled) ∷ (codes "nan", FromBits) ∷ (codes "ilogb", Exponent) ∷ (codes "half_cos", Floats 1)
    ∷ (codes "half_exp", Floats 1) ∷ (codes "half_exp2", Floats 1) ∷ (codes "half_exp10", Floats 1) ∷ (codes "half_log", Floats 1)
    ∷ (codes "half_log2", Floats 1) ∷ (codes "half_log10", Floats 1) ∷ (codes "half_recip", Floats 1) ∷ (codes "half_rsqrt", Floats 1)
    ∷ (codes "half_sin", Floats 1) ∷ (codes "half_sqrt", Floats 1) ∷ (codes "half_tan", Floats 1) ∷ (codes "native_cos", Floats 1)
    ∷ (codes "native_exp", Floats 1) ∷ (codes "native_exp2", Floats 1) ∷ (codes "native_exp10", Floats 1) ∷ (codes "native_log", Floats 1)
    ∷ (codes "native_log2", Floats 1) ∷ (codes "native_log10", Floats 1) ∷ (codes "native_recip", Floats 1)
    ∷ (codes "native_rsqrt", Floats 1) ∷ (codes "native_sin", Floats 1) ∷ (codes "native_sqrt", Floats 1) ∷ (codes "native_tan", Floats 1)
    ∷ (codes "half_divide", Floats 2) ∷ (codes "half_powr", Floats 2) ∷ (codes "native_divide", Floats 2)
    ∷ (codes "native_powr", Floats 2) ∷ (codes "degrees", Floats 1) ∷ (codes "radians", Floats 1) ∷ (codes "sign", Floats 1)
    ∷ (codes "step", Floats 2) ∷ (codes "mix", Floats 3) ∷ (codes "smoothstep", Floats 3) ∷ (codes "dot", Reduces 2)
    ∷ (codes "distance", Reduces 2) ∷ (codes "length", Reduces 1) ∷ (codes "normalize", Spreads 1) ∷ (codes "fast_distance", Reduces 2)
    ∷ (codes "fast_length", Reduces 1) ∷ (codes "fast_normalize", Spreads 1) ∷ (codes "isequal", Tests 2) ∷ (codes "isnotequal", Tests 2)
    ∷ (codes "isgreater", Tests 2) ∷ (codes "isgreaterequal", Tests 2) ∷ (codes "isless", Tests 2) ∷ (codes "islessequal", Tests 2)
    ∷ (codes "islessgreater", Tests 2) ∷ (codes "isordered", Tests 2) ∷ (codes "isunordered", Tests 2) ∷ (codes "isfinite", Tests 1)
    ∷ (codes "isinf", Tests 1) ∷ (codes "isnan", Tests 1) ∷ (codes "isnormal", Tests 1) ∷ (codes "signbit", Tests 1)
    ∷ (codes "fract", Missing Pointer) ∷ (codes "frexp", Missing Pointer) ∷ (codes "lgamma_r", Missing Pointer)
    ∷ (codes "modf", Missing Pointer) ∷ (codes "remquo", Missing Pointer) ∷ (codes "sincos", Missing Pointer) ∷ (codes "cross", Spreads 2)
    ∷ (codes "select", Selects) ∷ (codes "shuffle", Shuffles) ∷ (codes "shuffle2", Joins)
    ∷ (codes "bitselect", Mixes) ∷ (codes "any", Tops false) ∷ (codes "all", Tops true)
    ∷ (codes "get_work_dim", Dimensions) ∷ []

-- the work-item functions (6.12.1)
unfoldable pub item_functions : List (List ℕ × Form)
item_functions =
    (codes "get_global_id", IdOf GlobalId) ∷ (codes "get_local_id", IdOf LocalId) ∷ (codes "get_group_id", IdOf GroupId)
    ∷ (codes "get_global_size", IdOf GlobalSize) ∷ (codes "get_local_size", IdOf LocalSize) ∷ (codes "get_num_groups", IdOf NumGroups)
    ∷ (codes "get_global_offset", Offset) ∷ []

-- a conversion of an integer is the same with each rounding, that of a float is not reckoned (6.2.3); bits as another type (6.2.4.2)
unfoldable pub conversions : List (List ℕ × Form)
conversions =
    (codes "convert_char", Converts Char) ∷ (codes "convert_char_rte", Converts Char) ∷ (codes "convert_char_rtz", Converts Char)
    ∷ (codes "convert_char_rtp", Converts Char) ∷ (codes "convert_char_rtn", Converts Char) ∷ (codes "convert_char_sat", Saturates Char)
    ∷ (codes "convert_char_sat_rte", Saturates Char) ∷ (codes "convert_char_sat_rtz", Saturates Char)
    ∷ (codes "convert_char_sat_rtp", Saturates Char) ∷ (codes "convert_char_sat_rtn", Saturates Char)
    ∷ (codes "convert_uchar", Converts Uchar) ∷ (codes "convert_uchar_rte", Converts Uchar) ∷ (codes "convert_uchar_rtz", Converts Uchar)
    ∷ (codes "convert_uchar_rtp", Converts Uchar) ∷ (codes "convert_uchar_rtn", Converts Uchar)
    ∷ (codes "convert_uchar_sat", Saturates Uchar) ∷ (codes "convert_uchar_sat_rte", Saturates Uchar)
    ∷ (codes "convert_uchar_sat_rtz", Saturates Uchar) ∷ (codes "convert_uchar_sat_rtp", Saturates Uchar)
    ∷ (codes "convert_uchar_sat_rtn", Saturates Uchar) ∷ (codes "convert_short", Converts Short)
    ∷ (codes "convert_short_rte", Converts Short) ∷ (codes "convert_short_rtz", Converts Short)
    ∷ (codes "convert_short_rtp", Converts Short) ∷ (codes "convert_short_rtn", Converts Short)
    ∷ (codes "convert_short_sat", Saturates Short) ∷ (codes "convert_short_sat_rte", Saturates Short)
    ∷ (codes "convert_short_sat_rtz", Saturates Short) ∷ (codes "convert_short_sat_rtp", Saturates Short)
    ∷ (codes "convert_short_sat_rtn", Saturates Short) ∷ (codes "convert_ushort", Converts Ushort)
    ∷ (codes "convert_ushort_rte", Converts Ushort) ∷ (codes "convert_ushort_rtz", Converts Ushort)
    ∷ (codes "convert_ushort_rtp", Converts Ushort) ∷ (codes "convert_ushort_rtn", Converts Ushort)
    ∷ (codes "convert_ushort_sat", Saturates Ushort) ∷ (codes "convert_ushort_sat_rte", Saturates Ushort)
    ∷ (codes "convert_ushort_sat_rtz", Saturates Ushort) ∷ (codes "convert_ushort_sat_rtp", Saturates Ushort)
    ∷ (codes "convert_ushort_sat_rtn", Saturates Ushort) ∷ (codes "convert_int", Converts Int) ∷ (codes "convert_int_rte", Converts Int)
    ∷ (codes "convert_int_rtz", Converts Int) ∷ (codes "convert_int_rtp", Converts Int) ∷ (codes "convert_int_rtn", Converts Int)
    ∷ (codes "convert_int_sat", Saturates Int) ∷ (codes "convert_int_sat_rte", Saturates Int)
    ∷ (codes "convert_int_sat_rtz", Saturates Int) ∷ (codes "convert_int_sat_rtp", Saturates Int)
    ∷ (codes "convert_int_sat_rtn", Saturates Int) ∷ (codes "convert_uint", Converts Uint) ∷ (codes "convert_uint_rte", Converts Uint)
    ∷ (codes "convert_uint_rtz", Converts Uint) ∷ (codes "convert_uint_rtp", Converts Uint) ∷ (codes "convert_uint_rtn", Converts Uint)
    ∷ (codes "convert_uint_sat", Saturates Uint) ∷ (codes "convert_uint_sat_rte", Saturates Uint)
    ∷ (codes "convert_uint_sat_rtz", Saturates Uint) ∷ (codes "convert_uint_sat_rtp", Saturates Uint)
    ∷ (codes "convert_uint_sat_rtn", Saturates Uint) ∷ (codes "convert_float", Converts Float)
    ∷ (codes "convert_float_rte", Converts Float) ∷ (codes "convert_float_rtz", Converts Float)
    ∷ (codes "convert_float_rtp", Converts Float) ∷ (codes "convert_float_rtn", Converts Float) ∷ (codes "as_char", BitsAs Char)
    ∷ (codes "as_uchar", BitsAs Uchar) ∷ (codes "as_short", BitsAs Short) ∷ (codes "as_ushort", BitsAs Ushort)
    ∷ (codes "as_int", BitsAs Int) ∷ (codes "as_uint", BitsAs Uint) ∷ (codes "as_float", BitsAs Float) ∷ []

-- the form of a name in a table, with its place there, counted from a number
abbrev pub entry_at : List (List ℕ × Form) → (name : List ℕ) → (place : ℕ) → Option (Form × ℕ)
entry_at [] name n = None
entry_at (e ∷ es) name n = cond (bytes_eq e.0 name) (Some (e.1, n)) (entry_at es name (n + 1))

-- the form of a name, with the number of its operation, where that is not reckoned: above those of `opencl_terms`
unfoldable pub form_named : (name : List ℕ) → Option (Form × ℕ)
form_named name = or_else (entry_at functions name 64) (or_else (entry_at item_functions name 0) (entry_at conversions name 0))

-- names that begin so are left out
unfoldable pub beginnings : List (List ℕ × Construct)
beginnings =
    (codes "atomic_", Atomic) ∷ (codes "atom_", Atomic) ∷ (codes "read_image", Image) ∷ (codes "write_image", Image)
    ∷ (codes "get_image", Image) ∷ (codes "vload", Vector) ∷ (codes "vstore", Vector) ∷ []

abbrev pub construct_of : Option (List ℕ × Construct) → Construct
construct_of (Some e) = e.1
construct_of None = faults.Function

unfoldable pub construct_called : (name : List ℕ) → Construct
construct_called name = construct_of (find (λ e. starts_with nat_eq name e.0) beginnings)
