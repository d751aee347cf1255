-- The code's signs and reserved words as the definitions have them.
use Rattle.std.specs.Prelude.{ℕ, List}
use denote.Ref.{Bor}
use Rattle.texts.specs.Signs as signs
use Rattle.texts.specs.Reserved as reserved
use Rattle.lexer.specs.declared.spelling.Sign.TheVariants as sign_of
use Rattle.lexer.specs.declared.spelling.Sign.{Sign}
use Rattle.lexer.specs.declared.spelling.Reserved.TheVariants as word_of
use Rattle.lexer.specs.declared.spelling.Reserved.{Reserved}

abbrev pub sign : Sign → signs.Sign
sign sign_of.LeftShiftEqual = signs.LeftShiftEqual
sign sign_of.RightShiftEqual = signs.RightShiftEqual
sign sign_of.LeftShift = signs.LeftShift
sign sign_of.RightShift = signs.RightShift
sign sign_of.LessEqual = signs.LessEqual
sign sign_of.GreaterEqual = signs.GreaterEqual
sign sign_of.EqualEqual = signs.EqualEqual
sign sign_of.NotEqual = signs.NotEqual
sign sign_of.AndAnd = signs.AndAnd
sign sign_of.OrOr = signs.OrOr
sign sign_of.PlusEqual = signs.PlusEqual
sign sign_of.MinusEqual = signs.MinusEqual
sign sign_of.StarEqual = signs.StarEqual
sign sign_of.SlashEqual = signs.SlashEqual
sign sign_of.PercentEqual = signs.PercentEqual
sign sign_of.AndEqual = signs.AndEqual
sign sign_of.OrEqual = signs.OrEqual
sign sign_of.CaretEqual = signs.CaretEqual
sign sign_of.PlusPlus = signs.PlusPlus
sign sign_of.MinusMinus = signs.MinusMinus
sign sign_of.LeftParenthesis = signs.LeftParenthesis
sign sign_of.RightParenthesis = signs.RightParenthesis
sign sign_of.LeftBrace = signs.LeftBrace
sign sign_of.RightBrace = signs.RightBrace
sign sign_of.LeftBracket = signs.LeftBracket
sign sign_of.RightBracket = signs.RightBracket
sign sign_of.Semicolon = signs.Semicolon
sign sign_of.Comma = signs.Comma
sign sign_of.Star = signs.Star
sign sign_of.Plus = signs.Plus
sign sign_of.Minus = signs.Minus
sign sign_of.Slash = signs.Slash
sign sign_of.Percent = signs.Percent
sign sign_of.And = signs.And
sign sign_of.Or = signs.Or
sign sign_of.Caret = signs.Caret
sign sign_of.Tilde = signs.Tilde
sign sign_of.Not = signs.Not
sign sign_of.Less = signs.Less
sign sign_of.Greater = signs.Greater
sign sign_of.Equal = signs.Equal
sign sign_of.Question = signs.Question
sign sign_of.Colon = signs.Colon

abbrev pub word : Reserved → reserved.Reserved
word word_of.Kernel = reserved.Kernel
word word_of.Global = reserved.Global
word word_of.Local = reserved.Local
word word_of.Constant = reserved.Constant
word word_of.Private = reserved.Private
word word_of.Attribute = reserved.Attribute
word word_of.Const = reserved.Const
word word_of.Int = reserved.Int
word word_of.Uint = reserved.Uint
word word_of.Unsigned = reserved.Unsigned
word word_of.Signed = reserved.Signed
word word_of.Void = reserved.Void
word word_of.If = reserved.If
word word_of.Else = reserved.Else
word word_of.While = reserved.While
word word_of.For = reserved.For
word word_of.Do = reserved.Do
word word_of.Switch = reserved.Switch
word word_of.Case = reserved.Case
word word_of.Default = reserved.Default
word word_of.Break = reserved.Break
word word_of.Continue = reserved.Continue
word word_of.Return = reserved.Return
word word_of.Goto = reserved.Goto
word word_of.Struct = reserved.Struct
word word_of.Union = reserved.Union
word word_of.Enum = reserved.Enum
word word_of.Typedef = reserved.Typedef
word word_of.Sizeof = reserved.Sizeof
word word_of.Float = reserved.Float
word word_of.Double = reserved.Double
word word_of.Half = reserved.Half
word word_of.Char = reserved.Char
word word_of.Uchar = reserved.Uchar
word word_of.Short = reserved.Short
word word_of.Ushort = reserved.Ushort
word word_of.Long = reserved.Long
word word_of.Ulong = reserved.Ulong
word word_of.Bool = reserved.Bool
word word_of.SizeT = reserved.SizeT
word word_of.Volatile = reserved.Volatile
word word_of.Restrict = reserved.Restrict
word word_of.Static = reserved.Static
word word_of.Extern = reserved.Extern
word word_of.Inline = reserved.Inline
word word_of.Register = reserved.Register
word word_of.Auto = reserved.Auto

-- an entry of a table
abbrev pub sign_entry : Bor (List ℕ) × Sign → List ℕ × signs.Sign
sign_entry e = (e.0.now, sign e.1)

abbrev pub word_entry : Bor (List ℕ) × Reserved → List ℕ × reserved.Reserved
word_entry e = (e.0.now, word e.1)
