-- What the code's types and operations stand for.
use Rattle.core_code.specs.View.{operator, relation}
use Rattle.opencl_terms.specs.Types as types
use Rattle.opencl_terms.specs.Operations as operations
use Rattle.opencl_terms.specs.declared.scalars.Scalar.{Scalar}
use Rattle.opencl_terms.specs.declared.scalars.Scalar.TheVariants as scalars
use Rattle.opencl_terms.specs.declared.operations.Operation.{Operation}
use Rattle.opencl_terms.specs.declared.operations.Operation.TheVariants as variants

abbrev pub scalar : Scalar → types.Scalar
scalar scalars.Boolean = types.Boolean
scalar scalars.Char = types.Char
scalar scalars.Uchar = types.Uchar
scalar scalars.Short = types.Short
scalar scalars.Ushort = types.Ushort
scalar scalars.Int = types.Int
scalar scalars.Uint = types.Uint
scalar scalars.Long = types.Long
scalar scalars.Size = types.Size
scalar scalars.Float = types.Float

abbrev pub operation : Operation → operations.Operation
operation variants.Constant = operations.Constant
operation variants.Negation = operations.Negation
operation variants.OfInt = operations.OfInt
operation variants.OfUint = operations.OfUint
operation variants.OfSize = operations.OfSize
operation variants.ToInt = operations.ToInt
operation variants.ToUint = operations.ToUint
operation (variants.Calculates op) = operations.Calculates (operator op)
operation (variants.Compares r) = operations.Compares (relation r)
