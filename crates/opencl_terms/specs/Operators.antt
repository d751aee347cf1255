-- Operators of one and of two components, by the type of the value that has them: a vector's are not promoted (OpenCL 1.2, 6.3).
use Rattle.std.specs.Prelude.{Bool, true, false, cond, not, ◌||◌}
use Rattle.semantics.specs.Word as word
use Rattle.semantics.specs.Word.{Kind, Operator, Relation, Direction}
use Rattle.semantics.specs.Core.{Site, Term, Binary, And, Or}
use Rattle.opencl_terms.specs.Types.{Scalar, Int, ValueType, type_of, is_vector, is_float, kind_of, signed_of}
use Rattle.opencl_terms.specs.Conversions.{converted, tested, truth}
use Rattle.opencl_terms.specs.Components.{operand, calculated, component_calculated, related, all_bits, negated, component_negated, complemented, component_complemented, refuted, shifted, component_shifted}

-- `Bringing` makes an operand of a scalar operator, `Testing` of a logical one
pub data OfOne : Type 0 where
  Conversion : (to : Scalar) → OfOne
  Bringing : (to : Scalar) → OfOne
  Testing : OfOne
  Negative : OfOne
  Complement : OfOne
  Refutation : OfOne

-- `counts` is the scalar of a shift's counts; `Both` and `Either` are `&&` and `||`
pub data OfTwo : Type 0 where
  Arithmetic : (operator : Operator) → OfTwo
  Comparison : (relation : Relation) → OfTwo
  Shifting : (direction : Direction) (counts : Scalar) → OfTwo
  Both : OfTwo
  Either : OfTwo

abbrev pub of_one_component : (ids : Kind) → ValueType → OfOne → Site → Term → Term
of_one_component ids t (Conversion to) site x = converted ids t.scalar to site x
of_one_component ids t (Bringing to) site x = operand ids t.scalar to site x
of_one_component ids t Testing site x = cond (is_vector t) (truth ids t.scalar x) (tested t.scalar x)
of_one_component ids t Negative site x = cond (is_vector t) (component_negated ids t.scalar site x) (negated ids t.scalar site x)
of_one_component ids t Complement site x = cond (is_vector t) (component_complemented ids t.scalar site x) (complemented ids t.scalar site x)
of_one_component ids t Refutation site x = cond (is_vector t) (all_bits site (refuted t.scalar x)) (refuted t.scalar x)

-- of vectors `&&` and `||` evaluate both sides (6.3 g)
abbrev pub of_two_components : (ids : Kind) → ValueType → OfTwo → Site → (x y : Term) → Term
of_two_components ids t (Arithmetic op) site x y =
    cond (is_vector t) (component_calculated ids op t.scalar site x y) (calculated ids op t.scalar site x y)
of_two_components ids t (Comparison r) site x y = cond (is_vector t) (all_bits site (related ids r t.scalar x y)) (related ids r t.scalar x y)
of_two_components ids t (Shifting d counts) site x y =
    cond (is_vector t) (component_shifted ids d t.scalar counts site x y) (shifted d (kind_of ids t.scalar) x y)
of_two_components ids t Both site x y = cond (is_vector t) (all_bits site (Binary word.BitAnd word.Int site x y)) (And x y)
of_two_components ids t Either site x y = cond (is_vector t) (all_bits site (Binary word.BitOr word.Int site x y)) (Or x y)

-- what a test gives: of scalars an `int`, of vectors the signed integers of as many bits
abbrev pub test_type : ValueType → ValueType
test_type t = cond (is_vector t) (type_of (signed_of t.scalar) t.width) (type_of Int 1)

-- the type of the result, by that of the operands
abbrev pub result_type : OfTwo → ValueType → ValueType
result_type (Arithmetic op) t = t
result_type (Comparison r) t = test_type t
result_type (Shifting d counts) t = t
result_type Both t = test_type t
result_type Either t = test_type t

-- `%` and the operators on bits take no floats (C99 6.5.5p2, 6.5.10p2)
abbrev pub of_floats : Operator → Bool
of_floats word.Add = true
of_floats word.Subtract = true
of_floats word.Multiply = true
of_floats word.Divide = true
of_floats op = false

abbrev pub may_take : OfTwo → Scalar → Bool
may_take (Arithmetic op) s = not (is_float s) || of_floats op
may_take (Shifting d counts) s = not (is_float s)
may_take op s = true
