-- Programs that read lexemes from the front, look one ahead, and never go back.
use Rattle.std.specs.Prelude.{List, [], ◌∷◌, Bool, cond, Option, Some, None}
use Rattle.semantics.specs.Core.{Site}
use Rattle.opencl_tokens.specs.Lexemes.{Lexeme, LexemeKind, End}
use Rattle.opencl_parser.specs.Faults.{ParseFault, Expected}

pub data Reader : Type 0 → Type 1 where
  Gives : {A : Type 0} → (value : A) → Reader A
  Fails : {A : Type 0} → (fault : ParseFault) → Reader A
  Looks : {A : Type 0} → (at : Lexeme → Reader A) → Reader A
  Passes : {A : Type 0} → (after : Reader A) → Reader A
  Then : {A B : Type 0} → (first : Reader A) (next : A → Reader B) → Reader B

-- what was read and what is left, or why not, with the place of the lexeme that is to blame
pub data Attempt (A : Type 0) : Type 0 where
  Took : (value : A) (rest : List Lexeme) → Attempt A
  Refused : (fault : ParseFault) (site : Site) → Attempt A

abbrev pub carry : {A B : Type 0} → Attempt A → (A → List Lexeme → Attempt B) → Attempt B
carry (Took a rest) next = next a rest
carry (Refused fault site) next = Refused fault site

-- the lexeme at the front: the end, where none is left
abbrev pub front : List Lexeme → Lexeme
front [] = record { kind = End; site = record { line = 1; column = 1 } }
front (t ∷ ts) = t

abbrev pub behind : List Lexeme → List Lexeme
behind [] = []
behind (t ∷ ts) = ts

abbrev pub run : {A : Type 0} → Reader A → List Lexeme → Attempt A
run (Gives a) ts = Took a ts
run (Fails fault) ts = Refused fault (front ts).site
run (Looks at) ts = run (at (front ts)) ts
run (Passes after) ts = run after (behind ts)
run (Then first next) ts = carry (run first ts) (λ a rest. run (next a) rest)

-- passes over the lexeme that is due
abbrev pub expects : (LexemeKind → Bool) → Reader Site
expects is_due = Looks (λ t. cond (is_due t.kind) (Passes (Gives t.site)) (Fails Expected))

-- passes over what a lexeme must have, and gives that with its place
abbrev pub taken : {A : Type 0} → Option A → Site → Reader (A × Site)
taken None at = Fails Expected
taken (Some a) at = Passes (Gives (a, at))

abbrev pub takes : {A : Type 0} → (LexemeKind → Option A) → Reader (A × Site)
takes found = Looks (λ t. taken (found t.kind) t.site)
