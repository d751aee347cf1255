-- What the code's operators and types of values stand for.
use Rattle.core_code.specs.View.{direction, operator, relation}
use Rattle.opencl_terms.specs.Operators as operators
use Rattle.opencl_terms.specs.Types as types
use Rattle.opencl_terms.specs.View.{scalar}
use Rattle.opencl_terms.specs.declared.operators.OfOne.{OfOne}
use Rattle.opencl_terms.specs.declared.operators.OfOne.TheVariants as ones
use Rattle.opencl_terms.specs.declared.operators.OfTwo.{OfTwo}
use Rattle.opencl_terms.specs.declared.operators.OfTwo.TheVariants as twos
use Rattle.opencl_terms.specs.declared.scalars.ValueType.{ValueType}

abbrev pub of_one : OfOne → operators.OfOne
of_one (ones.Conversion to) = operators.Conversion (scalar to)
of_one (ones.Bringing to) = operators.Bringing (scalar to)
of_one ones.Testing = operators.Testing
of_one ones.Negative = operators.Negative
of_one ones.Complement = operators.Complement
of_one ones.Refutation = operators.Refutation

abbrev pub of_two : OfTwo → operators.OfTwo
of_two (twos.Arithmetic op) = operators.Arithmetic (operator op)
of_two (twos.Comparison r) = operators.Comparison (relation r)
of_two (twos.Shifting d counts) = operators.Shifting (direction d) (scalar counts)
of_two twos.Both = operators.Both
of_two twos.Either = operators.Either

abbrev pub value_type : ValueType → types.ValueType
value_type t = types.type_of (scalar t.scalar) t.width
