-- What the code answers of conditions, as the definitions have it.
use Rattle.std.specs.Prelude.{ℕ, Bool, List, Option}
use Rattle.std.specs.Option.{option_map}
use denote.Ref.{Bor}
use Rattle.opencl_tokens.specs.Tokens as tokens
use Rattle.opencl_tokens.specs.declared.Token.{Token}
use Rattle.opencl_macros.specs.Operators as operators
use Rattle.opencl_macros.specs.Conditions as conditions
use Rattle.opencl_macros.specs.Seen.{lent}
use Rattle.opencl_macros.specs.declared.operators.Binary.{Binary}
use Rattle.opencl_macros.specs.declared.operators.Binary.TheVariants as binaries
use Rattle.opencl_macros.specs.declared.conditions.Part.{Part}
use Rattle.opencl_macros.specs.declared.conditions.Part.TheVariants as parts

abbrev pub binary : Binary → operators.Binary
binary binaries.Times = operators.Times
binary binaries.Divided = operators.Divided
binary binaries.Rest = operators.Rest
binary binaries.Plus = operators.Plus
binary binaries.Minus = operators.Minus
binary binaries.ShiftLeft = operators.ShiftLeft
binary binaries.ShiftRight = operators.ShiftRight
binary binaries.Less = operators.Less
binary binaries.Greater = operators.Greater
binary binaries.LessEqual = operators.LessEqual
binary binaries.GreaterEqual = operators.GreaterEqual
binary binaries.Equal = operators.Equal
binary binaries.NotEqual = operators.NotEqual
binary binaries.And = operators.And
binary binaries.Xor = operators.Xor
binary binaries.Or = operators.Or
binary binaries.Both = operators.Both
binary binaries.Either = operators.Either

abbrev pub maybe_binary : Option Binary → Option operators.Binary
maybe_binary op = option_map binary op

abbrev pub part : Part → conditions.Part
part parts.Whole = conditions.Whole
part parts.Operand = conditions.Operand
part (parts.Joined level) = conditions.Joined level
part (parts.More level first) = conditions.More level first

abbrev pub value_rest : Option ℕ × Bor (List Token) → Option ℕ × List tokens.Token
value_rest got = (got.0, lent got.1)

abbrev pub same_value : Option ℕ → Option ℕ
same_value value = value

abbrev pub same_flag : Bool → Bool
same_flag flag = flag
