-- Plain kernels: each statement is `a[get_global_id(0) * K + C] = V;` of a `uint` buffer, K and C numbers that may be left out, V a
-- number or a value parameter, and the index is one that a `uint` has at each launch of at most so many groups.
use Rattle.std.specs.Prelude.{◌≡◌, ℕ, ℤ, pos, ◌+ℤ◌, ◌-ℤ◌, ◌*ℤ◌, ◌≤ℤ◌, ◌<◌, ◌≤◌, List, [], length, Bool, true, false, ◌||◌, slice_index_or}
use Rattle.semantics.specs.Word.{Kind, Int, Uint, Size, in_kind, Add, Multiply}
use Rattle.semantics.specs.Core.{Site, Global, GlobalId, Term, Literal, Variable, Id, Binary, Convert, Statement, Store, Statements, none, one}
use Rattle.semantics.specs.Launch.{Kernel}
use Rattle.semantics.specs.Conditions.{Conditions}

-- the global id, a multiple of it, and either with a number more
pub data IsPlainIndex : Term → (factor constant : ℕ) → Type 0 where
  Alone : IsPlainIndex (Id Uint GlobalId 0) 1 0
  Times : (product : Site) (kf : Kind) (f : ℕ) → in_kind kf (pos f) ≡ true → IsPlainIndex (Binary Multiply Uint product (Id Uint GlobalId 0) (Literal kf (pos f))) f 0
  Plus : (sum : Site) (kc : Kind) (c : ℕ) → in_kind kc (pos c) ≡ true → IsPlainIndex (Binary Add Uint sum (Id Uint GlobalId 0) (Literal kc (pos c))) 1 c
  TimesPlus : (sum product : Site) (kf kc : Kind) (f c : ℕ) → in_kind kf (pos f) ≡ true → in_kind kc (pos c) ≡ true →
      IsPlainIndex (Binary Add Uint sum (Binary Multiply Uint product (Id Uint GlobalId 0) (Literal kf (pos f))) (Literal kc (pos c))) f c

-- what is no `uint` is brought to it (C99 6.5.16.1)
pub data IsPlainValue (arguments : List Kind) : Term → Type 0 where
  Number : (n : ℕ) → in_kind Uint (pos n) ≡ true → IsPlainValue arguments (Literal Uint (pos n))
  BroughtNumber : (site : Site) (n : ℕ) → in_kind Int (pos n) ≡ true → IsPlainValue arguments (Convert Uint site (Literal Int (pos n)))
  Parameter : (x : ℕ) → x < length arguments → IsPlainValue arguments (Variable x)
  BroughtParameter : (site : Site) (x : ℕ) → x < length arguments → IsPlainValue arguments (Convert Uint site (Variable x))

-- the largest index, where there are at most `groups` groups
abbrev pub last_index : (size : ℕ) (groups : ℤ) (factor constant : ℕ) → ℤ
last_index size groups f c = pos f *ℤ (pos size *ℤ groups -ℤ pos 1) +ℤ pos c

pub data IsPlainStore (arguments : List Kind) (size : ℕ) (groups : ℤ) : Statement → Type 0 where
  Plain : (n buffer : ℕ) (site : Site) (index : Term) (f c : ℕ) (value : Term) →
      IsPlainIndex index f c → last_index size groups f c ≤ℤ pos 4294967295 → IsPlainValue arguments value →
      IsPlainStore arguments size groups (Store n (record { space = Global; number = buffer }) site index value)

abbrev pub ArePlain : (arguments : List Kind) (size : ℕ) (groups : ℤ) → Statements → Type 0
ArePlain ks size groups none = Unit {0}
ArePlain ks size groups (one s others) = IsPlainStore ks size groups s × ArePlain ks size groups others

-- and no line says what a buffer holds
abbrev pub IsPlain : Kernel → Conditions → Type 0
IsPlain k c = ArePlain k.arguments k.sizes.x c.groups.x.high k.body × (c.contents ≡ [])

abbrev pub is_int : Kind → Bool
is_int Int = true
is_int Uint = false
is_int Size = false

-- the value is an `int` parameter
abbrev pub is_signed : (arguments : List Kind) → Term → Bool
is_signed ks (Convert k site (Variable x)) = is_int (slice_index_or ks x Int)
is_signed ks t = false

-- some statement stores an `int` parameter
abbrev pub has_signed : (arguments : List Kind) → Statements → Bool
has_signed ks (one (Store n a site index value) others) = is_signed ks value || has_signed ks others
has_signed ks ss = false

-- local sizes and group counts are those that a text can say
pub record HasLimits (k : Kernel) (c : Conditions) : Type 0 where
  pub size_x : (1 ≤ k.sizes.x) × (k.sizes.x ≤ 1024)
  pub size_y : (1 ≤ k.sizes.y) × (k.sizes.y ≤ 1024)
  pub size_z : (1 ≤ k.sizes.z) × (k.sizes.z ≤ 1024)
  pub groups_x : (pos 1 ≤ℤ c.groups.x.high) × (c.groups.x.high ≤ℤ pos 65536)
