-- What the lexemes of a text are.
use Rattle.std.specs.Prelude.{◌≢◌, ◌≤◌, List, [], ◌∷◌, length}
use Rattle.semantics.specs.Core.{Site}
use Rattle.texts.specs.Tokens.{End}
use Rattle.texts.specs.Lexemes.{Lexeme}

-- the end stands behind all others, and nowhere else
pub data EndsOnce : List Lexeme → Type 0 where
  ends : (at : Site) → EndsOnce (record { kind = End; site = at } ∷ [])
  goes_on : {t : Lexeme} {ts : List Lexeme} → t.kind ≢ End → EndsOnce ts → EndsOnce (t ∷ ts)

-- a text of at most 65,536 bytes has no more, with its end
abbrev pub IsShort : List Lexeme → Type 0
IsShort ts = length ts ≤ 65537
