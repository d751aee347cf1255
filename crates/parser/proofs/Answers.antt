-- A reader takes what is there, or says that a limit is passed which is passed: of depth, or of how much there is of something.
use Rattle.std.proofs.Common.{◌≡◌, Bool, true, false, cond, List, refl, ap, sym, ◌∙◌, subst}
use Rattle.std.proofs.lemmas.Bool.{false≢true}
use Rattle.texts.specs.Lexemes.{Lexeme}
use Rattle.texts.specs.ParseFaults.{TooDeep, TooMany}
use Rattle.parser.specs.Reader.{Reader, Gives, Fails, Looks, Passes, Then, Took, Refused, carry, front, behind, run}

-- what is neither too `deep` nor too `many` it takes
pub data Answers {A : Type 0} (reader : Reader A) (ts : List Lexeme) (a : A) (rest : List Lexeme) (deep many : Type 0) : Type 0 where
  takes : run reader ts ≡ Took a rest → Answers reader ts a rest deep many
  too_deep : (left : List Lexeme) → (deep → ⊥) → run reader ts ≡ Refused TooDeep left → Answers reader ts a rest deep many
  too_many : (left : List Lexeme) → (many → ⊥) → run reader ts ≡ Refused TooMany left → Answers reader ts a rest deep many

pub gives : {A : Type 0} {a : A} {ts : List Lexeme} {deep many : Type 0} → Answers (Gives a) ts a ts deep many
gives = takes refl

pub refuses-deep : {A : Type 0} {a : A} {ts rest : List Lexeme} {deep many : Type 0} → (deep → ⊥) → Answers (Fails TooDeep) ts a rest deep many
refuses-deep {ts = ts} n = too_deep ts n refl

pub refuses-many : {A : Type 0} {a : A} {ts rest : List Lexeme} {deep many : Type 0} → (many → ⊥) → Answers (Fails TooMany) ts a rest deep many
refuses-many {ts = ts} n = too_many ts n refl

pub looks : {A : Type 0} {a : A} {at : Lexeme → Reader A} {ts rest : List Lexeme} {deep many : Type 0} → Answers (at (front ts)) ts a rest deep many → Answers (Looks at) ts a rest deep many
looks (takes k) = takes k
looks (too_deep left n k) = too_deep left n k
looks (too_many left n k) = too_many left n k

pub passes : {A : Type 0} {a : A} {after : Reader A} {ts rest : List Lexeme} {deep many : Type 0} → Answers after (behind ts) a rest deep many → Answers (Passes after) ts a rest deep many
passes (takes k) = takes k
passes (too_deep left n k) = too_deep left n k
passes (too_many left n k) = too_many left n k

-- what is sure to be taken, and then others
pub sure : {A B : Type 0} {a : A} {b : B} {first : Reader A} {next : A → Reader B} {ts middle rest : List Lexeme} {deep many : Type 0} → run first ts ≡ Took a middle → Answers (next a) middle b rest deep many → Answers (Then first next) ts b rest deep many
sure {next = next} e (takes k) = takes (ap (λ o. carry o (λ a rest. run (next a) rest)) e ∙ k)
sure {next = next} e (too_deep left n k) = too_deep left n (ap (λ o. carry o (λ a rest. run (next a) rest)) e ∙ k)
sure {next = next} e (too_many left n k) = too_many left n (ap (λ o. carry o (λ a rest. run (next a) rest)) e ∙ k)

-- a part, and then others: where the whole is within a limit, so is the part
pub both : {A B : Type 0} {a : A} {b : B} {first : Reader A} {next : A → Reader B} {ts middle rest : List Lexeme} {deep-part many-part deep many : Type 0} → Answers first ts a middle deep-part many-part → (deep → deep-part) → (many → many-part) → Answers (next a) middle b rest deep many → Answers (Then first next) ts b rest deep many
both (takes e) low few k = sure e k
both {next = next} (too_deep left n e) low few k = too_deep left (λ f. n (low f)) (ap (λ o. carry o (λ a rest. run (next a) rest)) e)
both {next = next} (too_many left n e) low few k = too_many left (λ f. n (few f)) (ap (λ o. carry o (λ a rest. run (next a) rest)) e)

pub weaker : {A : Type 0} {a : A} {reader : Reader A} {ts rest : List Lexeme} {deep-part many-part deep many : Type 0} → (deep → deep-part) → (many → many-part) → Answers reader ts a rest deep-part many-part → Answers reader ts a rest deep many
weaker low few (takes k) = takes k
weaker low few (too_deep left n k) = too_deep left (λ f. n (low f)) k
weaker low few (too_many left n k) = too_many left (λ f. n (few f)) k

pub if-false : {A : Type 0} {a : A} (b : Bool) (x y : Reader A) {ts rest : List Lexeme} {deep many : Type 0} → b ≡ false → Answers y ts a rest deep many → Answers (cond b x y) ts a rest deep many
if-false {a = a} b x y {ts = ts} {rest = rest} {deep = deep} {many = many} e h = subst (λ b. Answers (cond b x y) ts a rest deep many) (sym e) h

-- a test of a count that is passed, and one that is not, where there are not too many
pub if-so : {A : Type 0} {a : A} (b : Bool) {reader : Reader A} {ts rest : List Lexeme} {deep many : Type 0} → (many → b ≡ true) → Answers reader ts a rest deep many → Answers (cond b reader (Fails TooMany)) ts a rest deep many
if-so true passed h = h
if-so false passed h = refuses-many (λ f. false≢true (passed f))

pub if-not : {A : Type 0} {a : A} (b : Bool) {reader : Reader A} {ts rest : List Lexeme} {deep many : Type 0} → (many → b ≡ false) → Answers reader ts a rest deep many → Answers (cond b (Fails TooMany) reader) ts a rest deep many
if-not true failed h = refuses-many (λ f. false≢true (sym (failed f)))
if-not false failed h = h
