-- Types as they are written (OpenCL 1.2, 6.1, 6.5 and 6.8; C99 6.7.2 and 6.7.3).
use Rattle.std.specs.Prelude.{ℕ, Bool, List, Option}
use Rattle.opencl_tokens.specs.Scalars.{Scalar}

-- the address spaces (6.5)
pub data Space : Type 0 where
  Global Local Constant Private : Space

pub record Qualifiers : Type 0 where
  pub space : Option Space
  pub constant : Bool
  pub volatile : Bool
  pub restrict : Bool

-- a scalar has width 1, a vector 2, 3, 4, 8 or 16; an alias is a name that a `typedef` made
pub data Base : Type 0 where
  Void : Base
  Numbers : (scalar : Scalar) (width : ℕ) → Base
  Alias : (name : List ℕ) → Base

-- a base with its qualifiers, and for each star behind it the star's own
pub record TypeName : Type 0 where
  pub base : Base
  pub qualifiers : Qualifiers
  pub stars : List Qualifiers
