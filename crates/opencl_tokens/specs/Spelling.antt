-- The code's signs, words and scalars as the definitions have them.
use Rattle.std.specs.Prelude.{ℕ, List}
use denote.Ref.{Bor}
use Rattle.opencl_tokens.specs.Signs as signs
use Rattle.opencl_tokens.specs.Words as words
use Rattle.opencl_tokens.specs.Scalars as scalars
use Rattle.opencl_tokens.specs.declared.spelling.Sign.TheVariants as sign_of
use Rattle.opencl_tokens.specs.declared.spelling.Sign.{Sign}
use Rattle.opencl_tokens.specs.declared.vocabulary.Word.TheVariants as word_of
use Rattle.opencl_tokens.specs.declared.vocabulary.Word.{Word}
use Rattle.opencl_tokens.specs.declared.vocabulary.Scalar.TheVariants as scalar_of
use Rattle.opencl_tokens.specs.declared.vocabulary.Scalar.{Scalar}

abbrev pub sign : Sign → signs.Sign
sign sign_of.LeftShiftEqual = signs.LeftShiftEqual
sign sign_of.RightShiftEqual = signs.RightShiftEqual
sign sign_of.LeftShift = signs.LeftShift
sign sign_of.RightShift = signs.RightShift
sign sign_of.LessEqual = signs.LessEqual
sign sign_of.GreaterEqual = signs.GreaterEqual
sign sign_of.EqualEqual = signs.EqualEqual
sign sign_of.NotEqual = signs.NotEqual
sign sign_of.AndAnd = signs.AndAnd
sign sign_of.OrOr = signs.OrOr
sign sign_of.PlusEqual = signs.PlusEqual
sign sign_of.MinusEqual = signs.MinusEqual
sign sign_of.StarEqual = signs.StarEqual
sign sign_of.SlashEqual = signs.SlashEqual
sign sign_of.PercentEqual = signs.PercentEqual
sign sign_of.AndEqual = signs.AndEqual
sign sign_of.OrEqual = signs.OrEqual
sign sign_of.CaretEqual = signs.CaretEqual
sign sign_of.PlusPlus = signs.PlusPlus
sign sign_of.MinusMinus = signs.MinusMinus
sign sign_of.LeftParenthesis = signs.LeftParenthesis
sign sign_of.RightParenthesis = signs.RightParenthesis
sign sign_of.LeftBrace = signs.LeftBrace
sign sign_of.RightBrace = signs.RightBrace
sign sign_of.LeftBracket = signs.LeftBracket
sign sign_of.RightBracket = signs.RightBracket
sign sign_of.Semicolon = signs.Semicolon
sign sign_of.Comma = signs.Comma
sign sign_of.Star = signs.Star
sign sign_of.Plus = signs.Plus
sign sign_of.Minus = signs.Minus
sign sign_of.Slash = signs.Slash
sign sign_of.Percent = signs.Percent
sign sign_of.And = signs.And
sign sign_of.Or = signs.Or
sign sign_of.Caret = signs.Caret
sign sign_of.Tilde = signs.Tilde
sign sign_of.Not = signs.Not
sign sign_of.Less = signs.Less
sign sign_of.Greater = signs.Greater
sign sign_of.Equal = signs.Equal
sign sign_of.Question = signs.Question
sign sign_of.Colon = signs.Colon
sign sign_of.Arrow = signs.Arrow
sign sign_of.Dot = signs.Dot
sign sign_of.Ellipsis = signs.Ellipsis
sign sign_of.Hash = signs.Hash
sign sign_of.HashHash = signs.HashHash

abbrev pub word : Word → words.Word
word word_of.Kernel = words.Kernel
word word_of.Global = words.Global
word word_of.Local = words.Local
word word_of.Constant = words.Constant
word word_of.Private = words.Private
word word_of.ReadOnly = words.ReadOnly
word word_of.WriteOnly = words.WriteOnly
word word_of.ReadWrite = words.ReadWrite
word word_of.Attribute = words.Attribute
word word_of.Const = words.Const
word word_of.Restrict = words.Restrict
word word_of.Volatile = words.Volatile
word word_of.Static = words.Static
word word_of.Inline = words.Inline
word word_of.Extern = words.Extern
word word_of.Register = words.Register
word word_of.Auto = words.Auto
word word_of.Typedef = words.Typedef
word word_of.Enum = words.Enum
word word_of.Struct = words.Struct
word word_of.Union = words.Union
word word_of.Void = words.Void
word word_of.Unsigned = words.Unsigned
word word_of.Signed = words.Signed
word word_of.Char = words.Char
word word_of.Short = words.Short
word word_of.Int = words.Int
word word_of.Long = words.Long
word word_of.Float = words.Float
word word_of.Double = words.Double
word word_of.Half = words.Half
word word_of.If = words.If
word word_of.Else = words.Else
word word_of.While = words.While
word word_of.Do = words.Do
word word_of.For = words.For
word word_of.Switch = words.Switch
word word_of.Case = words.Case
word word_of.Default = words.Default
word word_of.Break = words.Break
word word_of.Continue = words.Continue
word word_of.Return = words.Return
word word_of.Goto = words.Goto
word word_of.Sizeof = words.Sizeof

abbrev pub scalar : Scalar → scalars.Scalar
scalar scalar_of.Bool = scalars.Bool
scalar scalar_of.Char = scalars.Char
scalar scalar_of.Uchar = scalars.Uchar
scalar scalar_of.Short = scalars.Short
scalar scalar_of.Ushort = scalars.Ushort
scalar scalar_of.Int = scalars.Int
scalar scalar_of.Uint = scalars.Uint
scalar scalar_of.Long = scalars.Long
scalar scalar_of.Ulong = scalars.Ulong
scalar scalar_of.SizeT = scalars.SizeT
scalar scalar_of.PtrdiffT = scalars.PtrdiffT
scalar scalar_of.Half = scalars.Half
scalar scalar_of.Float = scalars.Float
scalar scalar_of.Double = scalars.Double

-- an entry of a table
abbrev pub sign_entry : Bor (List ℕ) × Sign → List ℕ × signs.Sign
sign_entry e = (e.0.now, sign e.1)

abbrev pub word_entry : Bor (List ℕ) × Word → List ℕ × words.Word
word_entry e = (e.0.now, word e.1)

abbrev pub type_entry : Bor (List ℕ) × Scalar × ℕ → List ℕ × scalars.Scalar × ℕ
type_entry e = (e.0.now, scalar e.1, e.2)
