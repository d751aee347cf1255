-- What the grammar reads of a token: what it is, and where it begins. And the tables of its signs and words.
use Rattle.std.specs.Prelude.{ℕ, List, map, Bool, true, false, Option, Some, None}
use Rattle.semantics.specs.Word.{Kind, Int, Uint, Size, Add, Subtract, Multiply, Divide, Remainder, BitAnd, BitOr, BitXor, Less, AtMost, More, AtLeast, Equal, Unequal}
use Rattle.semantics.specs.Core.{Site}
use Rattle.texts.specs.Numbers.{Literal}
use Rattle.texts.specs.Signs as signs
use Rattle.texts.specs.Signs.{Sign}
use Rattle.texts.specs.Reserved as words
use Rattle.texts.specs.Reserved.{Reserved}
use Rattle.texts.specs.Tokens.{TokenKind, Name, Word, Number, Mark, Token}
use Rattle.texts.specs.Surface.{PrefixSign, Minus, LogicalNot, BitNot, InfixSign, Arithmetic, LeftShift, RightShift, Comparison, LogicalAnd, LogicalOr, AssignSign, Plain, With, WithLeftShift, WithRightShift, JumpWord, Return, Break, Continue}

pub record Lexeme : Type 0 where
  pub kind : TokenKind
  pub site : Site

abbrev pub lexeme : Token → Lexeme
lexeme t = record { kind = t.kind; site = t.site }

abbrev pub lexemes : List Token → List Lexeme
lexemes tokens = map lexeme tokens

abbrev pub mark : Sign → Site → Lexeme
mark sign site = record { kind = Mark sign; site = site }

abbrev pub word : Reserved → Site → Lexeme
word w site = record { kind = Word w; site = site }

abbrev pub name : List ℕ → Site → Lexeme
name bytes site = record { kind = Name bytes; site = site }

abbrev pub number : Literal → Site → Lexeme
number literal site = record { kind = Number literal; site = site }

-- the signs between two operands, each with its rank: the lower, the tighter it binds (C99 6.5.5 to 6.5.14)
abbrev pub infix_of : Sign → Option (ℕ × InfixSign)
infix_of signs.Star = Some (1, Arithmetic Multiply)
infix_of signs.Slash = Some (1, Arithmetic Divide)
infix_of signs.Percent = Some (1, Arithmetic Remainder)
infix_of signs.Plus = Some (2, Arithmetic Add)
infix_of signs.Minus = Some (2, Arithmetic Subtract)
infix_of signs.LeftShift = Some (3, LeftShift)
infix_of signs.RightShift = Some (3, RightShift)
infix_of signs.Less = Some (4, Comparison Less)
infix_of signs.Greater = Some (4, Comparison More)
infix_of signs.LessEqual = Some (4, Comparison AtMost)
infix_of signs.GreaterEqual = Some (4, Comparison AtLeast)
infix_of signs.EqualEqual = Some (5, Comparison Equal)
infix_of signs.NotEqual = Some (5, Comparison Unequal)
infix_of signs.And = Some (6, Arithmetic BitAnd)
infix_of signs.Caret = Some (7, Arithmetic BitXor)
infix_of signs.Or = Some (8, Arithmetic BitOr)
infix_of signs.AndAnd = Some (9, LogicalAnd)
infix_of signs.OrOr = Some (10, LogicalOr)
infix_of sign = None

-- the signs in front of an operand (C99 6.5.3)
abbrev pub prefix_of : Sign → Option PrefixSign
prefix_of signs.Minus = Some Minus
prefix_of signs.Not = Some LogicalNot
prefix_of signs.Tilde = Some BitNot
prefix_of sign = None

-- the signs of assignments (C99 6.5.16)
abbrev pub assign_of : Sign → Option AssignSign
assign_of signs.Equal = Some Plain
assign_of signs.PlusEqual = Some (With Add)
assign_of signs.MinusEqual = Some (With Subtract)
assign_of signs.StarEqual = Some (With Multiply)
assign_of signs.SlashEqual = Some (With Divide)
assign_of signs.PercentEqual = Some (With Remainder)
assign_of signs.AndEqual = Some (With BitAnd)
assign_of signs.OrEqual = Some (With BitOr)
assign_of signs.CaretEqual = Some (With BitXor)
assign_of signs.LeftShiftEqual = Some WithLeftShift
assign_of signs.RightShiftEqual = Some WithRightShift
assign_of sign = None

-- the types of numbers (OpenCL 1.2, 6.1.1)
abbrev pub kind_of : Reserved → Option Kind
kind_of words.Int = Some Int
kind_of words.Uint = Some Uint
kind_of w = None

-- the kinds that a text names: `size_t` is left out (ours)
abbrev pub is_named : Kind → Bool
is_named Int = true
is_named Uint = true
is_named Size = false

-- the words of jump statements (C99 6.8.6), `goto` aside
abbrev pub jump_of : Reserved → Option JumpWord
jump_of words.Return = Some Return
jump_of words.Break = Some Break
jump_of words.Continue = Some Continue
jump_of w = None
