-- What buffers hold by lines of conditions: solo runs whose loads are answered so, and stores that keep it.
use Rattle.std.specs.Prelude.{ℕ, zero, suc, ◌≡◌, ◌<◌, length, slice_index_or, ℤ, List, [], ◌∷◌, true, false}
use Rattle.std.specs.List.{All}
use Rattle.semantics.specs.Word.{Word, as_kind, is_zero}
use Rattle.semantics.specs.Core.{Array, Space, Global, Local, Term, Literal, Variable, Id, Load, Unary, Binary, Convert, Compare, Not, And, Or, Select, Minimum, Maximum, Shift, Within, Opaque, Statement, Set, Store, If, Loop, Barrier, Return, Break, Continue}
use Rattle.semantics.specs.Setup.{Setup}
use Rattle.semantics.specs.Memory.{Cell, Memory, kind_at, element_kind}
use Rattle.semantics.specs.Evaluation.{Outcome, Gives, Needs, Faults, evaluate}
use Rattle.semantics.specs.Ask.{Ask, Loads, Stores, Goes, Waits, Rests, ask}
use Rattle.semantics.specs.Solo.{after}
use Rattle.semantics.specs.Conditions.{Content, IsContent}

-- a number that a buffer of this number may hold
abbrev pub MayHold : Setup → List Content → (buffer : ℕ) → ℤ → Type 0
MayHold s cs b z = All (λ (x : Content). x.buffer ≡ b → IsContent s.launch x z) cs

-- local arrays hold anything
abbrev pub HoldsIn : Setup → List Content → (owner array : ℕ) → ℤ → Type 0
HoldsIn s cs zero a z = MayHold s cs a z
HoldsIn s cs (suc g) a z = Unit {0}

abbrev pub Holds : Setup → List Content → Cell → ℤ → Type 0
Holds s cs c z = HoldsIn s cs c.owner c.array z

-- an element that its array has
abbrev pub IsInsideIn : Setup → (owner array index : ℕ) → Type 0
IsInsideIn s zero a k = k < length (slice_index_or s.launch.buffers a [])
IsInsideIn s (suc g) a k = Unit {0}

abbrev pub IsInside : Setup → Cell → Type 0
IsInside s c = IsInsideIn s c.owner c.array c.index

-- each element of a memory, read as its kind, is such a number
abbrev pub IsKept : Setup → List Content → Memory → Type 0
IsKept s cs m = (c : Cell) → IsInside s c → Holds s cs c (as_kind (kind_at s c) (m c))

-- an answer to a load is such a number, read as its element's kind
abbrev pub Heeds : Setup → List Content → Ask → (answer : ℤ) → Type 0
Heeds s cs (Loads at kind site) answer = Holds s cs at (as_kind kind answer)
Heeds s cs (Stores at site value next) answer = Unit {0}
Heeds s cs (Goes next) answer = Unit {0}
Heeds s cs (Waits next) answer = Unit {0}
Heeds s cs Rests answer = Unit {0}

-- a solo run whose answers all are
abbrev pub IsHonest : Setup → List Content → ℕ → List ℤ → Type 0
IsHonest s cs i [] = Unit {0}
IsHonest s cs i (answer ∷ ws) = IsHonest s cs i ws × Heeds s cs (ask s i (after s i ws)) answer

-- a store stores such a number
abbrev pub StoresKept : Setup → List Content → Ask → Type 0
StoresKept s cs (Loads at kind site) = Unit {0}
StoresKept s cs (Stores at site value next) = Holds s cs at value
StoresKept s cs (Goes next) = Unit {0}
StoresKept s cs (Waits next) = Unit {0}
StoresKept s cs Rests = Unit {0}

-- the next answer is such a number of the array that it is loaded from
abbrev pub HoldsOf : Setup → List Content → Space → (array : ℕ) → ℤ → Type 0
HoldsOf s cs Global a z = MayHold s cs a z
HoldsOf s cs Local a z = Unit {0}

abbrev pub FirstHeld : Setup → List Content → Array → List Word → Type 0
FirstHeld s cs a [] = Unit {0}
FirstHeld s cs a (w ∷ rest) = HoldsOf s cs a.space a.number (as_kind (element_kind s a) w.value)

-- where a term has a value, with the answers that are left
abbrev pub Behind : Outcome → (Word → List Word → Type 0) → Type 0
Behind (Gives v rest) P = P v rest
Behind (Needs a index site) P = Unit {0}
Behind (Faults f site) P = Unit {0}

-- the answers to the loads of a term, of those that are given so far, all are
abbrev pub HonestTerm : Setup → List Content → ℕ → (now : List ℕ) → Term → (vars answers : List Word) → Type 0
HonestTerm s cs i now (Literal k z) vars answers = Unit {0}
HonestTerm s cs i now (Variable x) vars answers = Unit {0}
HonestTerm s cs i now (Id k f d) vars answers = Unit {0}
HonestTerm s cs i now (Load a site index) vars answers = HonestTerm s cs i now index vars answers × Behind (evaluate s i now index vars answers) (λ k rest. FirstHeld s cs a rest)
HonestTerm s cs i now (Unary op kind site e) vars answers = HonestTerm s cs i now e vars answers
HonestTerm s cs i now (Binary op kind site left right) vars answers = HonestTerm s cs i now left vars answers × Behind (evaluate s i now left vars answers) (λ a rest. HonestTerm s cs i now right vars rest)
HonestTerm s cs i now (Convert kind site e) vars answers = HonestTerm s cs i now e vars answers
HonestTerm s cs i now (Compare r kind left right) vars answers = HonestTerm s cs i now left vars answers × Behind (evaluate s i now left vars answers) (λ a rest. HonestTerm s cs i now right vars rest)
HonestTerm s cs i now (Not e) vars answers = HonestTerm s cs i now e vars answers
HonestTerm s cs i now (And left right) vars answers = HonestTerm s cs i now left vars answers × Behind (evaluate s i now left vars answers) (λ a rest. is_zero a.value ≡ false → HonestTerm s cs i now right vars rest)
HonestTerm s cs i now (Or left right) vars answers = HonestTerm s cs i now left vars answers × Behind (evaluate s i now left vars answers) (λ a rest. is_zero a.value ≡ true → HonestTerm s cs i now right vars rest)
HonestTerm s cs i now (Select test taken skipped) vars answers =
    HonestTerm s cs i now test vars answers
    × Behind (evaluate s i now test vars answers) (λ t rest. (is_zero t.value ≡ false → HonestTerm s cs i now taken vars rest) × (is_zero t.value ≡ true → HonestTerm s cs i now skipped vars rest))
HonestTerm s cs i now (Minimum left right) vars answers = HonestTerm s cs i now left vars answers × Behind (evaluate s i now left vars answers) (λ a rest. HonestTerm s cs i now right vars rest)
HonestTerm s cs i now (Maximum left right) vars answers = HonestTerm s cs i now left vars answers × Behind (evaluate s i now left vars answers) (λ a rest. HonestTerm s cs i now right vars rest)
HonestTerm s cs i now (Shift d k value count) vars answers = HonestTerm s cs i now value vars answers × Behind (evaluate s i now value vars answers) (λ a rest. HonestTerm s cs i now count vars rest)
HonestTerm s cs i now (Within site n index) vars answers = HonestTerm s cs i now index vars answers
HonestTerm s cs i now (Opaque n at k a b c) vars answers = HonestTerm s cs i now a vars answers × Behind (evaluate s i now a vars answers) (λ x rest. HonestTerm s cs i now b vars rest × Behind (evaluate s i now b vars rest) (λ y rest'. HonestTerm s cs i now c vars rest'))

-- those to the loads of the statement in front
abbrev pub HonestFront : Setup → List Content → ℕ → (now : List ℕ) → Statement → (vars answers : List Word) → Type 0
HonestFront s cs i now (Set n x e) vars answers = HonestTerm s cs i now e vars answers
HonestFront s cs i now (Store n a site k e) vars answers = HonestTerm s cs i now k vars answers × Behind (evaluate s i now k vars answers) (λ index later. HonestTerm s cs i now e vars later)
HonestFront s cs i now (If n e taken skipped) vars answers = HonestTerm s cs i now e vars answers
HonestFront s cs i now (Loop n e body update) vars answers = HonestTerm s cs i now e vars answers
HonestFront s cs i now (Barrier n l g) vars answers = Unit {0}
HonestFront s cs i now (Return n) vars answers = Unit {0}
HonestFront s cs i now (Break n loop) vars answers = Unit {0}
HonestFront s cs i now (Continue n loop) vars answers = Unit {0}
