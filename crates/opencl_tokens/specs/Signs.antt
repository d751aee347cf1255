-- The signs (C99 6.4.6), named by what they look like.
use Rattle.std.specs.Prelude.{ℕ, List, [], ◌∷◌, codes}

pub data Sign : Type 0 where
  LeftShiftEqual RightShiftEqual LeftShift RightShift : Sign
  LessEqual GreaterEqual EqualEqual NotEqual AndAnd OrOr : Sign
  PlusEqual MinusEqual StarEqual SlashEqual PercentEqual AndEqual OrEqual CaretEqual PlusPlus MinusMinus : Sign
  LeftParenthesis RightParenthesis LeftBrace RightBrace LeftBracket RightBracket Semicolon Comma : Sign
  Star Plus Minus Slash Percent And Or Caret Tilde Not Less Greater Equal Question Colon : Sign
  Arrow Dot Ellipsis Hash HashHash : Sign

-- how each is written, longer ones first; `<: :> <% %> %: %:%:` are other spellings of `[ ] { } # ##` (6.4.6p3); 63 is the question mark
unfoldable pub signs : List (List ℕ × Sign)
signs =
    (codes "%:%:", HashHash) ∷ (codes "<<=", LeftShiftEqual) ∷ (codes ">>=", RightShiftEqual) ∷ (codes "...", Ellipsis)
    ∷ (codes "<<", LeftShift) ∷ (codes ">>", RightShift) ∷ (codes "<=", LessEqual) ∷ (codes ">=", GreaterEqual) ∷ (codes "==", EqualEqual)
    ∷ (codes "!=", NotEqual) ∷ (codes "&&", AndAnd) ∷ (codes "||", OrOr) ∷ (codes "+=", PlusEqual) ∷ (codes "-=", MinusEqual)
    ∷ (codes "*=", StarEqual) ∷ (codes "/=", SlashEqual) ∷ (codes "%=", PercentEqual) ∷ (codes "&=", AndEqual) ∷ (codes "|=", OrEqual)
    ∷ (codes "^=", CaretEqual) ∷ (codes "++", PlusPlus) ∷ (codes "--", MinusMinus) ∷ (codes "->", Arrow) ∷ (codes "##", HashHash)
    ∷ (codes "<:", LeftBracket) ∷ (codes ":>", RightBracket) ∷ (codes "<%", LeftBrace) ∷ (codes "%>", RightBrace) ∷ (codes "%:", Hash)
    ∷ (codes "(", LeftParenthesis) ∷ (codes ")", RightParenthesis) ∷ (codes "{", LeftBrace) ∷ (codes "}", RightBrace)
    ∷ (codes "[", LeftBracket) ∷ (codes "]", RightBracket) ∷ (codes ";", Semicolon) ∷ (codes ",", Comma) ∷ (codes ".", Dot)
    ∷ (codes "*", Star) ∷ (codes "+", Plus) ∷ (codes "-", Minus) ∷ (codes "/", Slash) ∷ (codes "%", Percent) ∷ (codes "&", And)
    ∷ (codes "|", Or) ∷ (codes "^", Caret) ∷ (codes "~", Tilde) ∷ (codes "!", Not) ∷ (codes "<", Less) ∷ (codes ">", Greater)
    ∷ (codes "=", Equal) ∷ (63 ∷ [], Question) ∷ (codes ":", Colon) ∷ (codes "#", Hash) ∷ []
