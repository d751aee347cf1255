-- Signs are told apart by numbers.
use Rattle.std.specs.Prelude.{ℕ, Bool, nat_eq}
use Rattle.opencl_tokens.specs.Signs as signs
use Rattle.opencl_tokens.specs.Signs.{Sign}

-- other signs have other numbers
abbrev pub sign_number : Sign → ℕ
sign_number signs.LeftShiftEqual = 0
sign_number signs.RightShiftEqual = 1
sign_number signs.LeftShift = 2
sign_number signs.RightShift = 3
sign_number signs.LessEqual = 4
sign_number signs.GreaterEqual = 5
sign_number signs.EqualEqual = 6
sign_number signs.NotEqual = 7
sign_number signs.AndAnd = 8
sign_number signs.OrOr = 9
sign_number signs.PlusEqual = 10
sign_number signs.MinusEqual = 11
sign_number signs.StarEqual = 12
sign_number signs.SlashEqual = 13
sign_number signs.PercentEqual = 14
sign_number signs.AndEqual = 15
sign_number signs.OrEqual = 16
sign_number signs.CaretEqual = 17
sign_number signs.PlusPlus = 18
sign_number signs.MinusMinus = 19
sign_number signs.LeftParenthesis = 20
sign_number signs.RightParenthesis = 21
sign_number signs.LeftBrace = 22
sign_number signs.RightBrace = 23
sign_number signs.LeftBracket = 24
sign_number signs.RightBracket = 25
sign_number signs.Semicolon = 26
sign_number signs.Comma = 27
sign_number signs.Star = 28
sign_number signs.Plus = 29
sign_number signs.Minus = 30
sign_number signs.Slash = 31
sign_number signs.Percent = 32
sign_number signs.And = 33
sign_number signs.Or = 34
sign_number signs.Caret = 35
sign_number signs.Tilde = 36
sign_number signs.Not = 37
sign_number signs.Less = 38
sign_number signs.Greater = 39
sign_number signs.Equal = 40
sign_number signs.Question = 41
sign_number signs.Colon = 42
sign_number signs.Arrow = 43
sign_number signs.Dot = 44
sign_number signs.Ellipsis = 45
sign_number signs.Hash = 46
sign_number signs.HashHash = 47

abbrev pub same_sign : Sign → Sign → Bool
same_sign a b = nat_eq (sign_number a) (sign_number b)
