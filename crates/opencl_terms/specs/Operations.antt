-- Operations that are not reckoned: those on floats, whose results a device gives. Each has a number. Where it stands in a kernel is
-- numbered later, so its place is 0 here; operands that it lacks are the literal 0.
use Rattle.std.specs.Prelude.{ℕ, ◌+◌, pos}
use Rattle.semantics.specs.Word as word
use Rattle.semantics.specs.Word.{Kind, Operator, Relation}
use Rattle.semantics.specs.Core.{Term, Literal, Opaque, Compare}

-- a floating constant is one, too: C99 6.4.4.2 leaves its last bit to the compiler
pub data Operation : Type 0 where
  Constant : Operation
  Negation : Operation
  OfInt : Operation
  OfUint : Operation
  OfSize : Operation
  ToInt : Operation
  ToUint : Operation
  Calculates : (operator : Operator) → Operation
  Compares : (relation : Relation) → Operation

abbrev pub operator_number : Operator → ℕ
operator_number word.Add = 0
operator_number word.Subtract = 1
operator_number word.Multiply = 2
operator_number word.Divide = 3
operator_number word.Remainder = 4
operator_number word.BitAnd = 5
operator_number word.BitOr = 6
operator_number word.BitXor = 7

abbrev pub relation_number : Relation → ℕ
relation_number word.Less = 0
relation_number word.AtMost = 1
relation_number word.More = 2
relation_number word.AtLeast = 3
relation_number word.Equal = 4
relation_number word.Unequal = 5

-- no two operations have one number
abbrev pub number_of : Operation → ℕ
number_of Constant = 0
number_of Negation = 1
number_of OfInt = 2
number_of OfUint = 3
number_of OfSize = 4
number_of ToInt = 5
number_of ToUint = 6
number_of (Calculates op) = 8 + operator_number op
number_of (Compares r) = 16 + relation_number r

abbrev pub nothing : Term
nothing = Literal word.Uint (pos 0)

abbrev pub of_one : Operation → Kind → Term → Term
of_one op k a = Opaque (number_of op) 0 k a nothing nothing

abbrev pub of_two : Operation → Kind → (a b : Term) → Term
of_two op k a b = Opaque (number_of op) 0 k a b nothing

-- a comparison of floats, as an `int` of 0 or 1
abbrev pub compared : Relation → (a b : Term) → Term
compared r a b = Compare word.Unequal word.Uint (of_two (Compares r) word.Uint a b) nothing
