-- What a reader's answer rests on.
use Rattle.std.specs.Prelude.{◌≡◌, List, [], ◌∷◌, ◌++◌}
use Rattle.texts.specs.Lexemes.{Lexeme}
use Rattle.parser.specs.Reader.{Reader, Attempt, Took, Refused, run}

-- what stands before the rest, and something said of it
pub data Before (ts rest : List Lexeme) (holds : List Lexeme → Type 0) : Type 0 where
  before : (front : List Lexeme) → ts ≡ front ++ rest → holds front → Before ts rest holds

abbrev pub rest_of : {A : Type 0} → Attempt A → List Lexeme
rest_of (Took a rest) = rest
rest_of (Refused fault rest) = rest

-- the same answer with another rest
abbrev pub leaving : {A : Type 0} → Attempt A → List Lexeme → Attempt A
leaving (Took a rest) others = Took a others
leaving (Refused fault rest) others = Refused fault others

-- whatever others stand behind the first lexeme that is left, the answer is the same
abbrev pub Rests : {A : Type 0} → Reader A → List Lexeme → Attempt A → List Lexeme → Type 0
Rests reader ts outcome [] = Unit {0}
Rests reader ts outcome (t ∷ tail) = Before ts (t ∷ tail) (λ front. (others : List Lexeme) → run reader (front ++ t ∷ others) ≡ leaving outcome (t ∷ others))
