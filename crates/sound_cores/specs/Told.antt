-- What tells statements apart: no number stands twice, exits are of the loop around, and a loop's update only assigns.
use Rattle.std.specs.Prelude.{ℕ, ◌≡◌, List, [], ◌∷◌, ◌++◌, Option, Some, None}
use Rattle.semantics.specs.Core.{Statement, Set, Store, If, Loop, Barrier, Return, Break, Continue, Statements, none, one}
use Rattle.arrivals.specs.Points.{Has}

-- the numbers of all statements, those inside included
abbrev mutual
  pub numbers_of : Statement → List ℕ
  numbers_of (Set n x e) = n ∷ []
  numbers_of (Store n a site k e) = n ∷ []
  numbers_of (If n e taken skipped) = n ∷ (numbers_in taken ++ numbers_in skipped)
  numbers_of (Loop n e body update) = n ∷ (numbers_in body ++ numbers_in update)
  numbers_of (Barrier n l g) = n ∷ []
  numbers_of (Return n) = n ∷ []
  numbers_of (Break n loop) = n ∷ []
  numbers_of (Continue n loop) = n ∷ []

  pub numbers_in : Statements → List ℕ
  numbers_in none = []
  numbers_in (one st rest) = numbers_of st ++ numbers_in rest

abbrev pub NoneTwice : List ℕ → Type 0
NoneTwice [] = Unit {0}
NoneTwice (n ∷ ns) = (Has n ns → ⊥) × NoneTwice ns

abbrev pub Assigns : Statement → Type 0
Assigns (Set n x e) = Unit {0}
Assigns (Store n a site k e) = Unit {0}
Assigns (If n e taken skipped) = ⊥
Assigns (Loop n e body update) = ⊥
Assigns (Barrier n l g) = ⊥
Assigns (Return n) = ⊥
Assigns (Break n loop) = ⊥
Assigns (Continue n loop) = ⊥

abbrev pub AllAssign : Statements → Type 0
AllAssign none = Unit {0}
AllAssign (one st rest) = Assigns st × AllAssign rest

-- that loop is the one around
abbrev pub Leaves : (around : Option ℕ) → (loop : ℕ) → Type 0
Leaves None loop = ⊥
Leaves (Some n) loop = loop ≡ n

abbrev mutual
  pub IsPlaced : (around : Option ℕ) → Statement → Type 0
  IsPlaced around (Set n x e) = Unit {0}
  IsPlaced around (Store n a site k e) = Unit {0}
  IsPlaced around (If n e taken skipped) = ArePlaced around taken × ArePlaced around skipped
  IsPlaced around (Loop n e body update) = ArePlaced (Some n) body × AllAssign update
  IsPlaced around (Barrier n l g) = Unit {0}
  IsPlaced around (Return n) = Unit {0}
  IsPlaced around (Break n loop) = Leaves around loop
  IsPlaced around (Continue n loop) = Leaves around loop

  pub ArePlaced : (around : Option ℕ) → Statements → Type 0
  ArePlaced around none = Unit {0}
  ArePlaced around (one st rest) = IsPlaced around st × ArePlaced around rest

-- a kernel's statements
pub record AreTold (ss : Statements) : Type 0 where
  pub once : NoneTwice (numbers_in ss)
  pub placed : ArePlaced None ss
