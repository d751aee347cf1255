-- Which names declarations may take (ours): as in kernels of the plain language, but that any other function may be hidden.
use Rattle.std.specs.Prelude.{ℕ, List, [], ◌∷◌, take, Bool, true, false, not, ◌||◌, ◌&&◌, nat_eq, nat_le, bytes_eq, codes}

abbrev pub is_one_of : List (List ℕ) → List ℕ → Bool
is_one_of [] name = false
is_one_of (n ∷ ns) name = bytes_eq name n || is_one_of ns name

-- names that no declaration may take: functions of ids, and what stands in barriers and attributes
unfoldable pub reserved_names : List (List ℕ)
reserved_names =
    codes "get_global_id" ∷ codes "get_local_id" ∷ codes "get_group_id" ∷ codes "get_global_size" ∷ codes "get_local_size"
    ∷ codes "get_num_groups" ∷ codes "reqd_work_group_size" ∷ codes "get_work_dim" ∷ codes "CLK_LOCAL_MEM_FENCE"
    ∷ codes "CLK_GLOBAL_MEM_FENCE" ∷ codes "barrier" ∷ []

-- names that belong to the compiler, which may have a macro of that name (C99 7.1.3): two underscores, or one and a capital letter
abbrev pub is_compilers : List ℕ → Bool
is_compilers [] = false
is_compilers (a ∷ []) = false
is_compilers (a ∷ b ∷ rest) = nat_eq a 95 && (nat_eq b 95 || (nat_le 65 b && nat_le b 90))

-- names that a compiler gives to OpenCL's built-in functions by macros, as `_cl_abs` to `abs`: a kernel that declares both would have one
-- variable for two
abbrev pub is_renamed : List ℕ → Bool
is_renamed name = bytes_eq (take 4 name) (codes "_cl_")

-- names that no declaration may take, wherever it stands
unfoldable pub is_taken : List ℕ → Bool
is_taken name = is_one_of reserved_names name || (is_compilers name || is_renamed name)

abbrev pub begins_underscored : List ℕ → Bool
begins_underscored [] = false
begins_underscored (a ∷ rest) = nat_eq a 95

-- functions that a compiler calls on its own, for loops and rows of stores: a kernel of such a name would be called in their place
unfoldable pub called_names : List (List ℕ)
called_names = codes "memcpy" ∷ codes "memmove" ∷ codes "memset" ∷ codes "memcmp" ∷ codes "bcmp" ∷ []

-- a kernel's own name is declared at file scope, where calls in its body see it (C99 6.2.1p4), where each name that begins with `_` belongs
-- to the compiler, and where it has external linkage, as library functions have (C99 7.1.3)
abbrev pub may_name_kernel : List ℕ → Bool
may_name_kernel name = not (begins_underscored name || (is_one_of called_names name || is_taken name))
