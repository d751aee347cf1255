-- What it takes for a reader to take something.
use Rattle.std.proofs.Common.{◌≡◌, Bool, true, false, cond, List, [], ◌∷◌, refl, ap, sym, ◌∙◌}
use Rattle.std.proofs.lemmas.Bool.{false≢true}
use Rattle.semantics.specs.Core.{Site}
use Rattle.texts.specs.Tokens.{TokenKind}
use Rattle.texts.specs.Lexemes.{Lexeme}
use Rattle.texts.specs.ParseFaults.{Expected}
use Rattle.parser.specs.Reader.{Reader, Gives, Fails, Passes, Attempt, Took, Refused, carry, front, behind, run}
use Rattle.parser.specs.Expressions.{expects}
use Rattle.parser.specs.Kernels.{is_end}
use Rattle.parser.specs.Fronts.{rest_of}

abbrev is_taken : {A : Type 0} → Attempt A → Bool
is_taken (Took a rest) = true
is_taken (Refused fault rest) = false

abbrev value_in : {A : Type 0} → A → Attempt A → A
value_in d (Took a rest) = a
value_in d (Refused fault rest) = d

pub not-taken : {A : Type 0} (fault : _) (left rest : List Lexeme) (a : A) → Refused fault left ≡ Took a rest → ⊥
not-taken fault left rest a e = false≢true (ap is_taken e)

pub same-value : {A : Type 0} (a b : A) (rest left : List Lexeme) → Took a rest ≡ Took b left → a ≡ b
same-value a b rest left e = ap (value_in a) e

pub same-rest : {A : Type 0} (a b : A) (rest left : List Lexeme) → Took a rest ≡ Took b left → rest ≡ left
same-rest a b rest left e = ap rest_of e

-- one reading after another
pub data Through {A B : Type 0} (first : Attempt A) (next : A → List Lexeme → Attempt B) (b : B) (rest : List Lexeme) : Type 0 where
  through : (a : A) (middle : List Lexeme) → first ≡ Took a middle → next a middle ≡ Took b rest → Through first next b rest

pub went : {A B : Type 0} (first : Attempt A) (next : A → List Lexeme → Attempt B) (b : B) (rest : List Lexeme) → carry first next ≡ Took b rest → Through first next b rest
went (Took a middle) next b rest e = through a middle refl e
went (Refused fault left) next b rest e = absurd (not-taken fault left rest b e)

pub on-test : {A : Type 0} {P : Type 0} (b : Bool) (x y : Reader A) (ts rest : List Lexeme) (a : A) → run (cond b x y) ts ≡ Took a rest → (b ≡ true → run x ts ≡ Took a rest → P) → (b ≡ false → run y ts ≡ Took a rest → P) → P
on-test true x y ts rest a e f g = f refl e
on-test false x y ts rest a e f g = g refl e

pub front-is : (ts : List Lexeme) (kind : TokenKind) → is_end kind ≡ false → (front ts).kind ≡ kind → ts ≡ record { kind = kind; site = (front ts).site } ∷ behind ts
front-is [] kind other e = absurd (false≢true (sym other ∙ sym (ap is_end e)))
front-is (t ∷ ts) kind other e = ap (λ k. record { kind = k; site = t.site } ∷ ts) e

-- the lexeme that is due stood at the front
pub data Passed (ts : List Lexeme) (is_due : TokenKind → Bool) (rest : List Lexeme) : Type 0 where
  over : is_due (front ts).kind ≡ true → behind ts ≡ rest → Passed ts is_due rest

pub expected : (is_due : TokenKind → Bool) (ts rest : List Lexeme) (at : Site) → run (expects is_due) ts ≡ Took at rest → Passed ts is_due rest
expected is_due ts rest at e =
    on-test (is_due (front ts).kind) (Passes (Gives (front ts).site)) (Fails Expected) ts rest at e
    (λ due e. over due (same-rest (front ts).site at (behind ts) rest e)) (λ other e. absurd (not-taken Expected ts rest at e))
