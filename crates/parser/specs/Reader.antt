-- Programs that read lexemes from the front, look one ahead, and never go back.
use Rattle.std.specs.Prelude.{List, [], ◌∷◌}
use Rattle.texts.specs.Lexemes.{Lexeme}
use Rattle.texts.specs.ParseFaults.{ParseFault}
use Rattle.texts.specs.Tokens.{End, first_site}

pub data Reader : Type 0 → Type 1 where
  Gives : {A : Type 0} → (value : A) → Reader A
  Fails : {A : Type 0} → (fault : ParseFault) → Reader A
  Looks : {A : Type 0} → (at : Lexeme → Reader A) → Reader A
  Passes : {A : Type 0} → (after : Reader A) → Reader A
  Then : {A B : Type 0} → (first : Reader A) (next : A → Reader B) → Reader B

-- what was read and what is left, or why not, with what was left at the lexeme that is to blame
pub data Attempt (A : Type 0) : Type 0 where
  Took : (value : A) (rest : List Lexeme) → Attempt A
  Refused : (fault : ParseFault) (rest : List Lexeme) → Attempt A

abbrev pub carry : {A B : Type 0} → Attempt A → (A → List Lexeme → Attempt B) → Attempt B
carry (Took a rest) next = next a rest
carry (Refused fault rest) next = Refused fault rest

-- the lexeme at the front: the end, where none is left
abbrev pub front : List Lexeme → Lexeme
front [] = record { kind = End; site = first_site }
front (t ∷ ts) = t

abbrev pub behind : List Lexeme → List Lexeme
behind [] = []
behind (t ∷ ts) = ts

abbrev pub run : {A : Type 0} → Reader A → List Lexeme → Attempt A
run (Gives a) ts = Took a ts
run (Fails fault) ts = Refused fault ts
run (Looks at) ts = run (at (front ts)) ts
run (Passes after) ts = run after (behind ts)
run (Then first next) ts = carry (run first ts) (λ a rest. run (next a) rest)
