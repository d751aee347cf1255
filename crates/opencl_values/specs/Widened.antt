-- Names that say how many components they are of, by digits behind their first letters (OpenCL 1.2, 6.2.3, 6.2.4.2 and 6.12.7): conversions
-- of vectors, as `convert_uchar4_sat` and `as_int2`, and `vload4` and `vstore4`.
use Rattle.std.specs.Prelude.{ℕ, ◌+◌, ◌-◌, List, [], ◌∷◌, ◌++◌, take, drop, length, Bool, cond, ◌||◌, ◌&&◌, Option, Some, None, bytes_eq, codes, nat_eq, nat_le}
use Rattle.std.specs.List.{starts_with}
use Rattle.opencl_values.specs.Functions.{Form, entry_at, conversions}

abbrev pub is_digit : ℕ → Bool
is_digit n = nat_le 48 n && nat_le n 57

-- how many letters stand in front of the first digit
abbrev pub letters_before : List ℕ → ℕ
letters_before [] = 0
letters_before (n ∷ ns) = cond (is_digit n) 0 (letters_before ns + 1)

-- how many components the digits in front mean, and how many digits these are
pub record Counted : Type 0 where
  pub width : ℕ
  pub digits : ℕ

abbrev pub is_width : (digit : ℕ) → Bool
is_width n = nat_eq n 50 || (nat_eq n 51 || (nat_eq n 52 || nat_eq n 56))

abbrev pub one_digit : List ℕ → Option Counted
one_digit [] = None
one_digit (n ∷ ns) = cond (is_width n) (Some (record { width = n - 48; digits = 1 })) None

abbrev pub counted : List ℕ → Option Counted
counted ns = cond (starts_with nat_eq ns (codes "16")) (Some (record { width = 16; digits = 2 })) (one_digit ns)

-- a name without these digits
abbrev pub without : (name : List ℕ) → (letters digits : ℕ) → List ℕ
without name k d = take k name ++ drop (k + d) name

pub record Wide : Type 0 where
  pub width : ℕ
  pub form : Form

abbrev pub wide : (width : ℕ) → Option (Form × ℕ) → Option Wide
wide n None = None
wide n (Some f) = Some (record { width = n; form = f.0 })

abbrev pub wide_with : (name : List ℕ) → (letters : ℕ) → Option Counted → Option Wide
wide_with name k None = None
wide_with name k (Some c) = wide c.width (entry_at conversions (without name k c.digits) 0)

-- a conversion of vectors, and of how many components
unfoldable pub wide_named : (name : List ℕ) → Option Wide
wide_named name = wide_with name (letters_before name) (counted (drop (letters_before name) name))

abbrev pub width_alone : (rest : List ℕ) → Option Counted → Option ℕ
width_alone rest None = None
width_alone rest (Some c) = cond (nat_eq c.digits (length rest)) (Some c.width) None

abbrev pub width_behind : (front name : List ℕ) → Option ℕ
width_behind front name =
    cond (starts_with nat_eq name front) (width_alone (drop (length front) name) (counted (drop (length front) name))) None

-- how many elements of an array a name reads as a vector, or writes
unfoldable pub read_width : (name : List ℕ) → Option ℕ
read_width name = width_behind (codes "vload") name

unfoldable pub written_width : (name : List ℕ) → Option ℕ
written_width name = width_behind (codes "vstore") name
