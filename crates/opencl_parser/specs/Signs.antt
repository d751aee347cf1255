-- What the signs of expressions say (C99 6.5).
use Rattle.std.specs.Prelude.{ℕ, List, Bool, true, false, cond, nat_eq, Option, Some, None}
use Rattle.semantics.specs.Core.{Site}
use Rattle.semantics.specs.Word as words
use Rattle.texts.specs.Surface as surface
use Rattle.texts.specs.Surface.{InfixSign, AssignSign, Arithmetic, Comparison}
use Rattle.opencl_tokens.specs.Signs as signs
use Rattle.opencl_tokens.specs.Lexemes.{LexemeKind, Mark, Name}
use Rattle.opencl_tree.specs.Tree as tree
use Rattle.opencl_tree.specs.Tree.{PrefixSign, StepSign, Expression, Increment, Decrement}

-- signs that stand by themselves
abbrev pub is_left_parenthesis : LexemeKind → Bool
is_left_parenthesis (Mark signs.LeftParenthesis) = true
is_left_parenthesis kind = false

abbrev pub is_right_parenthesis : LexemeKind → Bool
is_right_parenthesis (Mark signs.RightParenthesis) = true
is_right_parenthesis kind = false

abbrev pub is_right_bracket : LexemeKind → Bool
is_right_bracket (Mark signs.RightBracket) = true
is_right_bracket kind = false

abbrev pub is_comma : LexemeKind → Bool
is_comma (Mark signs.Comma) = true
is_comma kind = false

abbrev pub is_colon : LexemeKind → Bool
is_colon (Mark signs.Colon) = true
is_colon kind = false

abbrev pub is_star : LexemeKind → Bool
is_star (Mark signs.Star) = true
is_star kind = false

abbrev pub name_at : LexemeKind → Option (List ℕ)
name_at (Name x) = Some x
name_at kind = None

-- what joins a left operand and a right one: a sign, or a comma
pub data Join : Type 0 where
  Operates : (sign : InfixSign) → Join
  Sequence : Join

abbrev pub joined : Join → Site → Expression → Expression → Expression
joined (Operates sign) at l r = tree.Infix at sign l r
joined Sequence at l r = tree.Comma at l r

-- how it goes on behind a left operand
pub data Joint : Type 0 where
  Joins : (join : Join) → Joint
  Assigns : (sign : AssignSign) → Joint
  Asks : Joint

abbrev pub arithmetic : ℕ → words.Operator → Option (ℕ × Joint)
arithmetic rank operator = Some (rank, Joins (Operates (Arithmetic operator)))

abbrev pub comparison : ℕ → words.Relation → Option (ℕ × Joint)
comparison rank relation = Some (rank, Joins (Operates (Comparison relation)))

abbrev pub assignment : words.Operator → Option (ℕ × Joint)
assignment operator = Some (12, Assigns (surface.With operator))

-- with its rank: a lower one binds closer (6.5.5 to 6.5.17)
abbrev pub joint_of : signs.Sign → Option (ℕ × Joint)
joint_of signs.Star = arithmetic 1 words.Multiply
joint_of signs.Slash = arithmetic 1 words.Divide
joint_of signs.Percent = arithmetic 1 words.Remainder
joint_of signs.Plus = arithmetic 2 words.Add
joint_of signs.Minus = arithmetic 2 words.Subtract
joint_of signs.LeftShift = Some (3, Joins (Operates surface.LeftShift))
joint_of signs.RightShift = Some (3, Joins (Operates surface.RightShift))
joint_of signs.Less = comparison 4 words.Less
joint_of signs.Greater = comparison 4 words.More
joint_of signs.LessEqual = comparison 4 words.AtMost
joint_of signs.GreaterEqual = comparison 4 words.AtLeast
joint_of signs.EqualEqual = comparison 5 words.Equal
joint_of signs.NotEqual = comparison 5 words.Unequal
joint_of signs.And = arithmetic 6 words.BitAnd
joint_of signs.Caret = arithmetic 7 words.BitXor
joint_of signs.Or = arithmetic 8 words.BitOr
joint_of signs.AndAnd = Some (9, Joins (Operates surface.LogicalAnd))
joint_of signs.OrOr = Some (10, Joins (Operates surface.LogicalOr))
joint_of signs.Question = Some (11, Asks)
joint_of signs.Equal = Some (12, Assigns surface.Plain)
joint_of signs.PlusEqual = assignment words.Add
joint_of signs.MinusEqual = assignment words.Subtract
joint_of signs.StarEqual = assignment words.Multiply
joint_of signs.SlashEqual = assignment words.Divide
joint_of signs.PercentEqual = assignment words.Remainder
joint_of signs.AndEqual = assignment words.BitAnd
joint_of signs.OrEqual = assignment words.BitOr
joint_of signs.CaretEqual = assignment words.BitXor
joint_of signs.LeftShiftEqual = Some (12, Assigns surface.WithLeftShift)
joint_of signs.RightShiftEqual = Some (12, Assigns surface.WithRightShift)
joint_of signs.Comma = Some (13, Joins Sequence)
joint_of s = None

abbrev pub of_rank : ℕ → Option (ℕ × Joint) → Option Joint
of_rank rank None = None
of_rank rank (Some entry) = cond (nat_eq entry.0 rank) (Some entry.1) None

abbrev pub joint_at : ℕ → LexemeKind → Option Joint
joint_at rank (Mark s) = of_rank rank (joint_of s)
joint_at rank kind = None

-- how an operand begins that begins with a sign (6.5.3, 6.5.4)
pub data Opening : Type 0 where
  Prefixes : (sign : PrefixSign) → Opening
  Steps : (sign : StepSign) → Opening
  Opens : Opening
  Wrong : Opening

abbrev pub opening_of : signs.Sign → Opening
opening_of signs.Minus = Prefixes tree.Minus
opening_of signs.Plus = Prefixes tree.Plus
opening_of signs.Not = Prefixes tree.LogicalNot
opening_of signs.Tilde = Prefixes tree.BitNot
opening_of signs.Star = Prefixes tree.Indirection
opening_of signs.And = Prefixes tree.AddressOf
opening_of signs.PlusPlus = Steps Increment
opening_of signs.MinusMinus = Steps Decrement
opening_of signs.LeftParenthesis = Opens
opening_of s = Wrong

-- what stands behind an operand and belongs to it (6.5.2)
pub data Suffix : Type 0 where
  Indexes : Suffix
  Selects : Suffix
  StepsBehind : (sign : StepSign) → Suffix
  Follows : Suffix

abbrev pub suffix_at : LexemeKind → Option Suffix
suffix_at (Mark signs.LeftBracket) = Some Indexes
suffix_at (Mark signs.Dot) = Some Selects
suffix_at (Mark signs.PlusPlus) = Some (StepsBehind Increment)
suffix_at (Mark signs.MinusMinus) = Some (StepsBehind Decrement)
suffix_at (Mark signs.Arrow) = Some Follows
suffix_at kind = None
