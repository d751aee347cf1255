-- How many names a kernel declares, of whatever sort.
use Rattle.std.specs.Prelude.{ℕ, ◌+◌, ◌≤◌, length}
use Rattle.texts.specs.Surface.{First, FirstDeclares, FirstAssigns, Statement, Declare, DeclareArray, Assign, If, While, For, Barrier, Jump, Block, Statements, none, one, Kernel}

abbrev pub declared_first : First → ℕ
declared_first (FirstDeclares d) = 1
declared_first (FirstAssigns a) = 0

-- private variables and local arrays, also those of the blocks inside
abbrev mutual
  pub declared_in : Statement → ℕ
  declared_in (Declare d) = 1
  declared_in (DeclareArray n site kind name_site name size) = 1
  declared_in (Assign a) = 0
  declared_in (If n site test a b) = declared_by a + declared_by b
  declared_in (While n site test body) = declared_by body
  declared_in (For n site first test update body) = declared_first first + declared_by body
  declared_in (Barrier n site flags) = 0
  declared_in (Jump n site jump) = 0
  declared_in (Block n site body) = declared_by body

  pub declared_by : Statements → ℕ
  declared_by none = 0
  declared_by (one s ss) = declared_in s + declared_by ss

-- parameters, private variables and local arrays
abbrev pub declarations_of : Kernel → ℕ
declarations_of k = length k.parameters + declared_by k.body

-- what the limits allow: 16 buffers, 64 value parameters and private variables together, 16 local arrays
abbrev pub most_names : ℕ
most_names = 96

abbrev pub HasFewNames : Kernel → Type 0
HasFewNames k = declarations_of k ≤ most_names
