-- Values of one component, and what is made of one (C99 6.3.1).
use Rattle.std.specs.Prelude.{ℕ}
use Rattle.semantics.specs.Word.{Kind}
use Rattle.semantics.specs.Core.{Site, Term}
use Rattle.opencl_terms.specs.Types.{Scalar, ValueType, type_of, promoted, common}
use Rattle.opencl_terms.specs.Conversions.{converted}
use Rattle.opencl_terms.specs.Operators.{Bringing, Testing, of_one_component}

pub record Single : Type 0 where
  pub scalar : Scalar
  pub term : Term

abbrev pub single : Scalar → Term → Single
single s t = record { scalar = s; term = t }

abbrev pub alone : Scalar → ValueType
alone s = type_of s 1

-- the scalar to which two operands are converted (6.3.1.8)
abbrev pub scalar_of_both : (a b : Single) → Scalar
scalar_of_both a b = common (promoted a.scalar) (promoted b.scalar)

-- as another scalar
abbrev pub as_scalar : (ids : Kind) → (to : Scalar) → Site → Single → Term
as_scalar ids to site v = converted ids v.scalar to site v.term

-- as an operand of an operator
abbrev pub as_operand : (ids : Kind) → (to : Scalar) → Site → Single → Term
as_operand ids to site v = of_one_component ids (alone v.scalar) (Bringing to) site v.term

-- as a test
abbrev pub as_test : (ids : Kind) → Site → Single → Term
as_test ids site v = of_one_component ids (alone v.scalar) Testing site v.term
