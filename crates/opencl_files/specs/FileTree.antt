-- What is read of a file of OpenCL C for one kernel (C99 6.9; OpenCL 1.2, 6.7 and 6.8).
use Rattle.std.specs.Prelude.{ℕ, List, Option}
use Rattle.semantics.specs.Core.{Site}
use Rattle.semantics.specs.Launch.{Three}
use Rattle.opencl_tree.specs.Types.{Base, Qualifiers}
use Rattle.opencl_tree.specs.Tree.{Expression, Declaration, Statements}

-- a parameter; one without a name has the site at which that would stand
pub record Parameter : Type 0 where
  pub site : Site
  pub name : Option (List ℕ)
  pub base : Base
  pub qualifiers : Qualifiers
  pub stars : List Qualifiers
  pub dimensions : List (Option Expression)

-- what stands in front of a function's body; `sizes` is its `reqd_work_group_size` (OpenCL 1.2, 6.7.2)
pub record Header : Type 0 where
  pub sizes : Option (Three ℕ)
  pub base : Base
  pub qualifiers : Qualifiers
  pub stars : List Qualifiers
  pub site : Site
  pub name : List ℕ
  pub parameters : List Parameter

-- a constant of an enumeration, with its number where that is written (C99 6.7.2.2)
pub record Enumerator : Type 0 where
  pub site : Site
  pub name : List ℕ
  pub value : Option Expression

-- a kernel, and in front of it in its file the names of types, the enumerations, each with its constants, and the functions with a body
pub record KernelText : Type 0 where
  pub header : Header
  pub body : Statements
  pub aliases : List Declaration
  pub enumerations : List (List Enumerator)
  pub functions : List (Header × Statements)
