-- Launch conditions, and the launches that meet them (ours). All sums are taken over whole numbers, without wrapping.
use Rattle.std.specs.Prelude.{◌≡◌, Bool, true, false, ◌<◌, ℕ, ℤ, pos, ◌≤ℤ◌, ◌+ℤ◌, ◌*ℤ◌, List, [], ◌∷◌, length, slice_index_or}
use Rattle.std.specs.List.{All, AllZip}
use Rattle.semantics.specs.Word.{Word, zero_word}
use Rattle.semantics.specs.Launch.{Three, Kernel, Launch}
use Rattle.semantics.specs.Setup.{along}

-- both ends belong to a range
pub record Range : Type 0 where
  pub low : ℤ
  pub high : ℤ

-- what a product has two of: an argument (by its number among the value parameters) or a group count
pub data Factor : Type 0 where
  ArgumentFactor : (parameter : ℕ) → Factor
  GroupsFactor : (dimension : ℕ) → Factor

-- a number, or a number times an argument, times a group count, or times a product of two of these
pub data Summand : Type 0 where
  Constant : (number : ℤ) → Summand
  Argument : (factor : ℤ) (parameter : ℕ) → Summand
  Groups : (factor : ℤ) (dimension : ℕ) → Summand
  Product : (factor : ℤ) (first second : Factor) → Summand

-- the left sum is at least the right one
pub record Requirement : Type 0 where
  pub left : List Summand
  pub right : List Summand

-- each element of a buffer is at most a sum, or at least: when the launch begins, and each store keeps it
pub record Content : Type 0 where
  pub buffer : ℕ
  pub is_upper : Bool
  pub sum : List Summand

pub record Conditions : Type 0 where
  pub groups : Three Range
  pub arguments : List Range
  pub lengths : List (List Summand)
  pub requires : List Requirement
  pub contents : List Content
  pub budget : ℕ

abbrev pub factor_value : Launch → Factor → ℤ
factor_value l (ArgumentFactor n) = (slice_index_or l.arguments n zero_word).value
factor_value l (GroupsFactor d) = pos (along l.groups d 1)

abbrev pub summand_value : Launch → Summand → ℤ
summand_value l (Constant n) = n
summand_value l (Argument c n) = c *ℤ (slice_index_or l.arguments n zero_word).value
summand_value l (Groups c d) = c *ℤ pos (along l.groups d 1)
summand_value l (Product c a b) = c *ℤ (factor_value l a *ℤ factor_value l b)

abbrev pub sum_value : Launch → List Summand → ℤ
sum_value l [] = pos 0
sum_value l (x ∷ xs) = summand_value l x +ℤ sum_value l xs

abbrev pub IsIn : Range → ℤ → Type 0
IsIn r z = (r.low ≤ℤ z) × (z ≤ℤ r.high)

-- a buffer has at least as many elements as its sum
abbrev pub IsLongEnough : Launch → List Summand → List ℤ → Type 0
IsLongEnough l sum b = sum_value l sum ≤ℤ pos (length b)

abbrev pub IsRequired : Launch → Requirement → Type 0
IsRequired l r = sum_value l r.right ≤ℤ sum_value l r.left

-- a number that the line lets the buffer hold
abbrev pub IsBounded : (is_upper : Bool) → (sum z : ℤ) → Type 0
IsBounded true sum z = z ≤ℤ sum
IsBounded false sum z = sum ≤ℤ z

abbrev pub IsContent : Launch → Content → ℤ → Type 0
IsContent l x z = IsBounded x.is_upper (sum_value l x.sum) z

-- all elements of the line's buffer are such numbers
abbrev pub IsHeld : Launch → Content → Type 0
IsHeld l x = All (IsContent l x) (slice_index_or l.buffers x.buffer [])

pub record Meets (c : Conditions) (l : Launch) : Type 0 where
  pub groups_x : IsIn c.groups.x (pos l.groups.x)
  pub groups_y : IsIn c.groups.y (pos l.groups.y)
  pub groups_z : IsIn c.groups.z (pos l.groups.z)
  pub arguments : AllZip (λ (r : Range) (w : Word). IsIn r w.value) c.arguments l.arguments
  pub lengths : AllZip (IsLongEnough l) c.lengths l.buffers
  pub requires : All (IsRequired l) c.requires
  pub contents : All (IsHeld l) c.contents

-- the conditions are of this kernel: a range for each value parameter, a sum for each buffer parameter, and no other names
abbrev pub IsNamedFactor : Kernel → Factor → Type 0
IsNamedFactor k (ArgumentFactor p) = p < length k.arguments
IsNamedFactor k (GroupsFactor d) = d < 3

abbrev pub IsNamed : Kernel → Summand → Type 0
IsNamed k (Constant n) = Unit {0}
IsNamed k (Argument c p) = p < length k.arguments
IsNamed k (Groups c d) = d < 3
IsNamed k (Product c a b) = IsNamedFactor k a × IsNamedFactor k b

pub record ConditionsFit (kernel : Kernel) (c : Conditions) : Type 0 where
  pub arguments : length c.arguments ≡ length kernel.arguments
  pub lengths : length c.lengths ≡ length kernel.buffers
  pub sums : All (All (IsNamed kernel)) c.lengths
  pub requires : All (λ (r : Requirement). All (IsNamed kernel) r.left × All (IsNamed kernel) r.right) c.requires
  pub contents : All (λ (x : Content). (x.buffer < length kernel.buffers) × All (IsNamed kernel) x.sum) c.contents
