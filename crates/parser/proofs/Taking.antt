-- What a reader did that took something: each reading on its way.
use Rattle.std.proofs.Common.{◌≡◌, ℕ, suc, Bool, true, false, cond, Option, Some, None, List, ◌∷◌, refl, ap, ◌∙◌, subst}
use Rattle.semantics.specs.Word.{Kind}
use Rattle.semantics.specs.Core.{Site}
use Rattle.texts.specs.Reserved.{Reserved}
use Rattle.texts.specs.Signs.{Sign}
use Rattle.texts.specs.Tokens as token
use Rattle.texts.specs.Tokens.{TokenKind}
use Rattle.texts.specs.Surface.{AssignSign}
use Rattle.texts.specs.Lexemes.{Lexeme, mark, word, name, kind_of, assign_of}
use Rattle.texts.specs.ParseFaults.{Expected, TooDeep}
use Rattle.parser.specs.Reader.{Reader, Gives, Fails, Looks, Passes, Then, Took, front, behind, run}
use Rattle.parser.specs.Expressions.{expects, kind_at}
use Rattle.parser.specs.Statements.{takes, taken, name_at, assign_at, bracket, opens}
use Rattle.parser.specs.Kernels.{is_end}
use Rattle.parser.proofs.Options.{none-some, same-some}
use Rattle.parser.proofs.Inversion.{not-taken, same-value, same-rest, Through, through, went, front-is, Passed, over, expected}

abbrev pub Went : {A : Type 0} → Reader A → List Lexeme → A → List Lexeme → Type 0
Went (Gives b) ts a rest = (b ≡ a) × (ts ≡ rest)
Went (Fails fault) ts a rest = ⊥
Went (Looks at) ts a rest = Went (at (front ts)) ts a rest
Went (Passes after) ts a rest = Went after (behind ts) a rest
Went (Then {A = A} first next) ts b rest = (a : A) × (middle : List Lexeme) × (run first ts ≡ Took a middle) × Went (next a) middle b rest

pub taking : {A : Type 0} (reader : Reader A) (ts rest : List Lexeme) (a : A) → run reader ts ≡ Took a rest → Went reader ts a rest
taking (Gives b) ts rest a e = (same-value b a ts rest e, same-rest b a ts rest e)
taking (Fails fault) ts rest a e = not-taken fault ts rest a e
taking (Looks at) ts rest a e = taking (at (front ts)) ts rest a e
taking (Passes after) ts rest a e = taking after (behind ts) rest a e
taking (Then first next) ts rest b e = on (λ a. taking (next a)) (went (run first ts) (λ a rest. run (next a) rest) b rest e)
  where
    on : ((a : _) (ts rest : List Lexeme) (b : _) → run (next a) ts ≡ Took b rest → Went (next a) ts b rest) → Through (run first ts) (λ a rest. run (next a) rest) b rest → Went (Then first next) ts b rest
    on again (through a middle p q) = (a, middle, p, again a middle rest b q)

-- what was made of it is what was taken
pub settled : {A : Type 0} (holds : A → List Lexeme → Type 0) (a b : A) (middle rest : List Lexeme) → (b ≡ a) × (middle ≡ rest) → holds b middle → holds a rest
settled holds a b middle rest e h = subst (λ x. holds x rest) e.0 (subst (holds b) e.1 h)

-- past an opening bracket, where one may be opened
pub within : {A : Type 0} (holds : ℕ → Type 0) (room : ℕ) (next : ℕ → Reader A) (ts rest : List Lexeme) (a : A) → run (bracket room next) ts ≡ Took a rest → ((less : ℕ) → run (next less) (behind ts) ≡ Took a rest → holds (suc less)) → holds room
within holds ℕ.zero next ts rest a k go = absurd (not-taken TooDeep ts rest a k)
within holds (suc less) next ts rest a k go = go less k

pub opened-then : {A : Type 0} (holds : ℕ → Type 0) (is_due : TokenKind → Bool) (room : ℕ) (next : ℕ → Reader A) (ts rest : List Lexeme) (a : A) → Went (opens is_due room next) ts a rest → ((less : ℕ) → is_due (front ts).kind ≡ true → Went (next less) (behind ts) a rest → holds (suc less)) → holds room
opened-then holds is_due room next ts rest a w go = by (is_due (front ts).kind) refl w
  where
    in-room : (room : ℕ) → is_due (front ts).kind ≡ true → Went (bracket room next) ts a rest → holds room
    in-room ℕ.zero due w = absurd w
    in-room (suc less) due w = go less due w

    by : (b : Bool) → is_due (front ts).kind ≡ b → Went (cond b (bracket room next) (Fails Expected)) ts a rest → holds room
    by true due w = in-room room due w
    by false due w = absurd w

pub opened : {A : Type 0} (holds : ℕ → Type 0) (is_due : TokenKind → Bool) (room : ℕ) (next : ℕ → Reader A) (ts rest : List Lexeme) (a : A) → run (opens is_due room next) ts ≡ Took a rest → ((less : ℕ) → is_due (front ts).kind ≡ true → Went (next less) (behind ts) a rest → holds (suc less)) → holds room
opened holds is_due room next ts rest a k go = opened-then holds is_due room next ts rest a (taking (opens is_due room next) ts rest a k) go

-- a sign or a word that is due
pub past : (kind : TokenKind) (is_due : TokenKind → Bool) → is_end kind ≡ false → ((other : TokenKind) → is_due other ≡ true → other ≡ kind) → (ts rest : List Lexeme) (at : Site) → run (expects is_due) ts ≡ Took at rest → ts ≡ record { kind = kind; site = (front ts).site } ∷ rest
past kind is_due stays back ts rest at e = by (expected is_due ts rest at e)
  where
    by : Passed ts is_due rest → ts ≡ record { kind = kind; site = (front ts).site } ∷ rest
    by (over due eq) = front-is ts kind stays (back (front ts).kind due) ∙ ap (λ l. record { kind = kind; site = (front ts).site } ∷ l) eq

-- what a lexeme must have
pub data Taken {A : Type 0} (found : TokenKind → Option A) (ts : List Lexeme) (a : A × Site) (rest : List Lexeme) : Type 0 where
  has : found (front ts).kind ≡ Some a.0 → (front ts).site ≡ a.1 → behind ts ≡ rest → Taken found ts a rest

pub takes-back : {A : Type 0} (found : TokenKind → Option A) (ts rest : List Lexeme) (a : A × Site) → run (takes found) ts ≡ Took a rest → Taken found ts a rest
takes-back found ts rest a e = by (found (front ts).kind) refl (taking (taken (found (front ts).kind) (front ts).site) ts rest a e)
  where
    by : (o : Option _) → found (front ts).kind ≡ o → Went (taken o (front ts).site) ts a rest → Taken found ts a rest
    by None q w = absurd w
    by (Some b) q w = has (q ∙ ap (λ p. Some p.0) w.0) (ap (λ p. p.1) w.0) w.1

-- a name, a type's word and a sign of assignment, written out
name-back : (kind : TokenKind) (x : List ℕ) → name_at kind ≡ Some x → kind ≡ token.Name x
name-back (token.Name y) x h = ap token.Name (same-some _ y x refl h)
name-back kind x h = absurd (none-some x h)

pub a-name : (ts rest : List Lexeme) (x : List ℕ × Site) → run (takes name_at) ts ≡ Took x rest → ts ≡ name x.0 x.1 ∷ rest
a-name ts rest x e = by (takes-back name_at ts rest x e)
  where
    by : Taken name_at ts x rest → ts ≡ name x.0 x.1 ∷ rest
    by (has found site eq) = front-is ts (token.Name x.0) refl (name-back (front ts).kind x.0 found) ∙ ap (λ at. name x.0 at ∷ behind ts) site ∙ ap (λ l. name x.0 x.1 ∷ l) eq

pub data TypeWord (ts : List Lexeme) (kind : Kind) (at : Site) (rest : List Lexeme) : Type 0 where
  type_word : (w : Reserved) → kind_of w ≡ Some kind → ts ≡ word w at ∷ rest → TypeWord ts kind at rest

pub word-back : (ts : List Lexeme) (kind : TokenKind) (of : Kind) → (front ts).kind ≡ kind → kind_at kind ≡ Some of → TypeWord ts of (front ts).site (behind ts)
word-back ts (token.Word w) of q h = type_word w h (front-is ts (token.Word w) refl q)
word-back ts kind of q h = absurd (none-some of h)

pub a-type : (ts rest : List Lexeme) (k : Kind × Site) → run (takes kind_at) ts ≡ Took k rest → TypeWord ts k.0 k.1 rest
a-type ts rest k e = by (takes-back kind_at ts rest k e)
  where
    by : Taken kind_at ts k rest → TypeWord ts k.0 k.1 rest
    by (has found site eq) = subst (λ at. TypeWord ts k.0 at rest) site (subst (TypeWord ts k.0 (front ts).site) eq (word-back ts (front ts).kind k.0 refl found))

pub data AssignWord (ts : List Lexeme) (sign : AssignSign) (at : Site) (rest : List Lexeme) : Type 0 where
  assign_word : (s : Sign) → assign_of s ≡ Some sign → ts ≡ mark s at ∷ rest → AssignWord ts sign at rest

assign-back : (ts : List Lexeme) (kind : TokenKind) (sign : AssignSign) → (front ts).kind ≡ kind → assign_at kind ≡ Some sign → AssignWord ts sign (front ts).site (behind ts)
assign-back ts (token.Mark s) sign q h = assign_word s h (front-is ts (token.Mark s) refl q)
assign-back ts kind sign q h = absurd (none-some sign h)

pub an-assignment : (ts rest : List Lexeme) (sign : AssignSign × Site) → run (takes assign_at) ts ≡ Took sign rest → AssignWord ts sign.0 sign.1 rest
an-assignment ts rest sign e = by (takes-back assign_at ts rest sign e)
  where
    by : Taken assign_at ts sign rest → AssignWord ts sign.0 sign.1 rest
    by (has found site eq) = subst (λ at. AssignWord ts sign.0 at rest) site (subst (AssignWord ts sign.0 (front ts).site) eq (assign-back ts (front ts).kind sign.0 refl found))
