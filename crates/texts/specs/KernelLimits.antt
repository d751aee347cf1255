-- What it is for a kernel to be within the limits (ours). How many brackets are open at once the grammar has: at most 64.
use Rattle.std.specs.Prelude.{◌≡◌, ℕ, ◌+◌, ◌*◌, ◌≤◌, List, None, Ok}
use Rattle.texts.specs.Surface.{Statement, Declare, DeclareArray, Assign, If, While, For, Barrier, Jump, Block, Statements, none, one, Kernel}
use Rattle.texts.specs.Lexemes.{Lexeme}
use Rattle.texts.specs.Ended.{IsShort}
use Rattle.texts.specs.ParseFaults.{ParseFault, Expected, TooDeep, TooMany}
use Rattle.texts.specs.Limits.{deep_statements, Counts, nothing_declared, next, count_parameters, count_statements}

-- a local array has 1 to 16,384 elements
abbrev mutual
  pub ArraysFit : Statement → Type 0
  ArraysFit (Declare d) = Unit {0}
  ArraysFit (DeclareArray n site kind name_site name length) = (1 ≤ length) × (length ≤ 16384)
  ArraysFit (Assign a) = Unit {0}
  ArraysFit (If n site test a b) = AllArraysFit a × AllArraysFit b
  ArraysFit (While n site test body) = AllArraysFit body
  ArraysFit (For n site first test update body) = AllArraysFit body
  ArraysFit (Barrier n site flags) = Unit {0}
  ArraysFit (Jump n site jump) = Unit {0}
  ArraysFit (Block n site body) = AllArraysFit body

  pub AllArraysFit : Statements → Type 0
  AllArraysFit none = Unit {0}
  AllArraysFit (one s ss) = ArraysFit s × AllArraysFit ss

-- a `for` has two more in its head
abbrev mutual
  pub statements_in : Statement → ℕ
  statements_in (Declare d) = 1
  statements_in (DeclareArray n site kind name_site name length) = 1
  statements_in (Assign a) = 1
  statements_in (If n site test a b) = 1 + (statements_of a + statements_of b)
  statements_in (While n site test body) = 1 + statements_of body
  statements_in (For n site first test update body) = 3 + statements_of body
  statements_in (Barrier n site flags) = 1
  statements_in (Jump n site jump) = 1
  statements_in (Block n site body) = 1 + statements_of body

  pub statements_of : Statements → ℕ
  statements_of none = 0
  statements_of (one s ss) = statements_in s + statements_of ss

abbrev pub IsLocalSize : ℕ → Type 0
IsLocalSize n = (1 ≤ n) × (n ≤ 1024)

-- no node is below 32 levels
abbrev pub IsShallow : Kernel → Type 0
IsShallow k = deep_statements 1 k.body ≡ None

-- local sizes, statements, arrays and names are no more than may be
pub record IsFew (k : Kernel) : Type 0 where
  pub local_sizes : IsLocalSize k.sizes.x × IsLocalSize k.sizes.y × IsLocalSize k.sizes.z × (k.sizes.x * k.sizes.y * k.sizes.z ≤ 1024)
  pub statements : statements_of k.body ≤ 512
  pub arrays : AllArraysFit k.body
  pub names : (c : Counts) × (next (count_parameters nothing_declared k.parameters) (λ c. count_statements c k.body) ≡ Ok c)

abbrev pub IsWithinLimits : Kernel → Type 0
IsWithinLimits k = IsShallow k × IsFew k

-- that the limit of which a fault speaks is kept, where a kernel opens no more than `room` brackets at once
abbrev pub IsKept : ParseFault → (room : ℕ) → List Lexeme → Kernel → Type 0
IsKept Expected room ts k = Unit {0}
IsKept TooDeep room ts k = (room ≤ 64) × IsShallow k
IsKept TooMany room ts k = IsShort ts × IsFew k
