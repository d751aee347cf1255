-- Which names are visible, and what they stand for (C99 6.2.1). Ours: a visible name is not declared again, and a name is not visible
-- in its own initialiser.
use Rattle.std.specs.Prelude.{ℕ, List, [], ◌∷◌, ◌++◌, length, take, Bool, true, false, not, cond, ◌||◌, ◌&&◌, nat_eq, nat_le, Option, Some, None, is_some, bytes_eq, codes}
use Rattle.semantics.specs.Word.{Kind, Uint, Size}
use Rattle.semantics.specs.Core.{Site, Array, Global, Local}
use Rattle.semantics.specs.Launch.{LocalArray}
use Rattle.types.specs.TypeFaults.{NameTwice, Checked, when}

-- the devices that a kernel is read for: those of 32 address bits, where `size_t` is `uint`; or any, where it is a kind of its own, which
-- has 32 bits or more (OpenCL 1.2, 6.1.1)
pub data Devices : Type 0 where
  Bits32 : Devices
  Any : Devices

-- the kind of `size_t`, which ids and sizes have (6.12.1)
abbrev pub size_kind : Devices → Kind
size_kind Bits32 = Uint
size_kind Any = Size

-- a private variable or value parameter, or a buffer parameter or local array
pub data Meaning : Type 0 where
  VariableAt : (slot : ℕ) (kind : Kind) → Meaning
  ArrayAt : (array : Array) (kind : Kind) (writable : Bool) → Meaning

pub record Binding : Type 0 where
  pub name : List ℕ
  pub meaning : Meaning

-- for which devices, what is visible, and all that was declared so far: the kinds of the slots, of the buffers, and the local arrays
pub record Scope : Type 0 where
  pub devices : Devices
  pub visible : List Binding
  pub slots : List Kind
  pub buffers : List Kind
  pub arrays : List LocalArray

abbrev pub empty_scope : Devices → Scope
empty_scope d = record { devices = d; visible = []; slots = []; buffers = []; arrays = [] }

-- at the end of a block its names go, what was declared stays counted
abbrev pub leave_block : Scope → Scope → Scope
leave_block outer inner = record inner { visible = outer.visible }

abbrev pub meaning_of : List Binding → List ℕ → Option Meaning
meaning_of [] name = None
meaning_of (b ∷ bs) name = cond (bytes_eq b.name name) (Some b.meaning) (meaning_of bs name)

abbrev pub is_one_of : List (List ℕ) → List ℕ → Bool
is_one_of [] name = false
is_one_of (n ∷ ns) name = bytes_eq name n || is_one_of ns name

-- names that no declaration may take (ours): the functions and flags that stand in kernels. Other built-in functions may be
-- declared, but then not called
unfoldable pub reserved_names : List (List ℕ)
reserved_names =
    codes "get_global_id" ∷ codes "get_local_id" ∷ codes "get_group_id" ∷ codes "get_global_size" ∷ codes "get_local_size"
    ∷ codes "get_num_groups" ∷ codes "reqd_work_group_size" ∷ codes "get_work_dim" ∷ codes "CLK_LOCAL_MEM_FENCE"
    ∷ codes "CLK_GLOBAL_MEM_FENCE" ∷ codes "min" ∷ codes "max" ∷ codes "barrier" ∷ []

-- names that belong to the compiler, which may have a macro of that name (C99 7.1.3): two underscores, or one and a capital letter
abbrev pub is_compilers : List ℕ → Bool
is_compilers [] = false
is_compilers (a ∷ []) = false
is_compilers (a ∷ b ∷ rest) = nat_eq a 95 && (nat_eq b 95 || (nat_le 65 b && nat_le b 90))

-- names that a compiler gives to OpenCL's built-in functions by macros, as `_cl_abs` to `abs` (ours): a kernel that declares both would
-- have one variable for two
abbrev pub is_renamed : List ℕ → Bool
is_renamed name = bytes_eq (take 4 name) (codes "_cl_")

-- names that no declaration may take, wherever it stands
unfoldable pub is_taken : List ℕ → Bool
is_taken name = is_one_of reserved_names name || (is_compilers name || is_renamed name)

-- a declaration's name is not visible and not taken
abbrev pub may_declare : Scope → List ℕ → Bool
may_declare scope name = not (is_some (meaning_of scope.visible name) || is_taken name)

abbrev pub begins_underscored : List ℕ → Bool
begins_underscored [] = false
begins_underscored (a ∷ rest) = nat_eq a 95

-- functions that a compiler calls on its own, for loops and rows of stores: a kernel of such a name would be called in their place
unfoldable pub called_names : List (List ℕ)
called_names = codes "memcpy" ∷ codes "memmove" ∷ codes "memset" ∷ codes "memcmp" ∷ codes "bcmp" ∷ []

-- a kernel's own name is declared at file scope, where calls in its body see it (C99 6.2.1p4), where each name that begins with `_` belongs
-- to the compiler, and where it has external linkage, as library functions have (C99 7.1.3)
abbrev pub may_name_kernel : List ℕ → Bool
may_name_kernel name = not (begins_underscored name || (is_one_of called_names name || is_taken name))

abbrev pub bind : Scope → List ℕ → Meaning → Scope
bind scope name meaning = record scope { visible = scope.visible ++ record { name = name; meaning = meaning } ∷ [] }

abbrev pub declare_variable : Scope → Site → List ℕ → Kind → Checked Scope
declare_variable scope site name kind =
    when (may_declare scope name) NameTwice site (bind (record scope { slots = scope.slots ++ kind ∷ [] }) name (VariableAt (length scope.slots) kind))

abbrev pub declare_buffer : Scope → Site → List ℕ → Kind → (constant : Bool) → Checked Scope
declare_buffer scope site name kind constant =
    when (may_declare scope name) NameTwice site (bind (record scope { buffers = scope.buffers ++ kind ∷ [] }) name
    (ArrayAt (record { space = Global; number = length scope.buffers }) kind (not constant)))

abbrev pub declare_array : Scope → Site → List ℕ → Kind → (size : ℕ) → Checked Scope
declare_array scope site name kind size =
    when (may_declare scope name) NameTwice site (bind (record scope { arrays = scope.arrays ++ record { kind = kind; length = size } ∷ [] }) name
    (ArrayAt (record { space = Local; number = length scope.arrays }) kind true))
