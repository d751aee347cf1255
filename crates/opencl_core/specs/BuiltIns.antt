-- Names of the standard's functions (OpenCL 1.2, 6.12). Where a file declares a function of such a name, a compiler may choose by the types
-- of the arguments which of both is called (clang's functions may be overloaded), so a call of one is left out.
use Rattle.std.specs.Prelude.{ℕ, List, [], ◌∷◌, take, Bool, ◌||◌, bytes_eq, codes}
use Rattle.opencl_core.specs.Names.{is_one_of}

-- of angles (OpenCL 1.2, 6.12.2)
unfoldable pub trigonometric_names : List (List ℕ)
trigonometric_names =
    codes "acos" ∷ codes "acosh" ∷ codes "acospi" ∷ codes "asin" ∷ codes "asinh" ∷ codes "asinpi" ∷ codes "atan" ∷
    codes "atan2" ∷ codes "atanh" ∷ codes "atanpi" ∷ codes "atan2pi" ∷ codes "cos" ∷ codes "cosh" ∷ codes "cospi" ∷
    codes "sin" ∷ codes "sincos" ∷ codes "sinh" ∷ codes "sinpi" ∷ codes "tan" ∷ codes "tanh" ∷ codes "tanpi" ∷ []

-- of powers and logarithms (6.12.2)
unfoldable pub exponential_names : List (List ℕ)
exponential_names =
    codes "cbrt" ∷ codes "erf" ∷ codes "erfc" ∷ codes "exp" ∷ codes "exp2" ∷ codes "exp10" ∷ codes "expm1" ∷
    codes "frexp" ∷ codes "hypot" ∷ codes "ilogb" ∷ codes "ldexp" ∷ codes "lgamma" ∷ codes "lgamma_r" ∷ codes "log" ∷
    codes "log2" ∷ codes "log10" ∷ codes "log1p" ∷ codes "logb" ∷ codes "pow" ∷ codes "pown" ∷ codes "powr" ∷
    codes "rootn" ∷ codes "rsqrt" ∷ codes "sqrt" ∷ codes "tgamma" ∷ []

-- the others of floats (6.12.2)
unfoldable pub rounding_names : List (List ℕ)
rounding_names =
    codes "ceil" ∷ codes "copysign" ∷ codes "fabs" ∷ codes "fdim" ∷ codes "floor" ∷ codes "fma" ∷ codes "fmax" ∷
    codes "fmin" ∷ codes "fmod" ∷ codes "fract" ∷ codes "mad" ∷ codes "maxmag" ∷ codes "minmag" ∷ codes "modf" ∷
    codes "nan" ∷ codes "nextafter" ∷ codes "remainder" ∷ codes "remquo" ∷ codes "rint" ∷ codes "round" ∷
    codes "trunc" ∷ []

-- of integers (6.12.3)
unfoldable pub whole_names : List (List ℕ)
whole_names =
    codes "abs" ∷ codes "abs_diff" ∷ codes "add_sat" ∷ codes "hadd" ∷ codes "rhadd" ∷ codes "clamp" ∷ codes "clz" ∷
    codes "mad_hi" ∷ codes "mad_sat" ∷ codes "max" ∷ codes "min" ∷ codes "mul_hi" ∷ codes "rotate" ∷ codes "sub_sat" ∷
    codes "upsample" ∷ codes "popcount" ∷ codes "mad24" ∷ codes "mul24" ∷ []

-- common and geometric ones, and those of vectors, printing and prefetching (6.12.4, 6.12.5, 6.12.10, 6.12.12, 6.12.13)
unfoldable pub common_names : List (List ℕ)
common_names =
    codes "degrees" ∷ codes "mix" ∷ codes "radians" ∷ codes "step" ∷ codes "smoothstep" ∷ codes "sign" ∷
    codes "cross" ∷ codes "dot" ∷ codes "distance" ∷ codes "length" ∷ codes "normalize" ∷ codes "fast_distance" ∷
    codes "fast_length" ∷ codes "fast_normalize" ∷ codes "shuffle" ∷ codes "shuffle2" ∷ codes "vec_step" ∷
    codes "printf" ∷ codes "prefetch" ∷ codes "wait_group_events" ∷ []

-- relational ones (6.12.6)
unfoldable pub relational_names : List (List ℕ)
relational_names =
    codes "isequal" ∷ codes "isnotequal" ∷ codes "isgreater" ∷ codes "isgreaterequal" ∷ codes "isless" ∷
    codes "islessequal" ∷ codes "islessgreater" ∷ codes "isfinite" ∷ codes "isinf" ∷ codes "isnan" ∷ codes "isnormal" ∷
    codes "isordered" ∷ codes "isunordered" ∷ codes "signbit" ∷ codes "any" ∷ codes "all" ∷ codes "bitselect" ∷
    codes "select" ∷ []

-- of work-items and of their order (6.12.1, 6.12.8, 6.12.9)
unfoldable pub item_names : List (List ℕ)
item_names =
    codes "get_work_dim" ∷ codes "get_global_size" ∷ codes "get_global_id" ∷ codes "get_local_size" ∷
    codes "get_local_id" ∷ codes "get_num_groups" ∷ codes "get_group_id" ∷ codes "get_global_offset" ∷
    codes "barrier" ∷ codes "mem_fence" ∷ codes "read_mem_fence" ∷ codes "write_mem_fence" ∷ []

-- those of one beginning: more names than there are
unfoldable pub begins_as_value : (name : List ℕ) → Bool
begins_as_value name = bytes_eq (take 8 name) (codes "convert_") || (bytes_eq (take 3 name) (codes "as_") || (bytes_eq (take 5 name) (codes "vload") || (bytes_eq (take 6 name) (codes "vstore") || (bytes_eq (take 7 name) (codes "native_") || (bytes_eq (take 5 name) (codes "half_"))))))

unfoldable pub begins_as_access : (name : List ℕ) → Bool
begins_as_access name = bytes_eq (take 7 name) (codes "atomic_") || (bytes_eq (take 5 name) (codes "atom_") || (bytes_eq (take 6 name) (codes "async_") || (bytes_eq (take 10 name) (codes "read_image") || (bytes_eq (take 11 name) (codes "write_image") || (bytes_eq (take 10 name) (codes "get_image_"))))))

unfoldable pub is_built_in : (name : List ℕ) → Bool
is_built_in name = is_one_of trigonometric_names name || (is_one_of exponential_names name || (is_one_of rounding_names name || (is_one_of whole_names name || (is_one_of common_names name || (is_one_of relational_names name || (is_one_of item_names name || (begins_as_value name || begins_as_access name)))))))
