-- The symbols of facts, and the numbers by which forms know them.
use Rattle.std.specs.Prelude.{ℕ, zero, suc, ◌+◌, ◌*◌, ◌/◌, ◌%◌, ℤ, pos, negsuc, [], ◌∷◌, List}
use Rattle.linear.specs.Linear.{Form}
use Rattle.linear.specs.Exact.{sum, multiple}

-- one of the two items of a pair; where one item is enough, it is the first
pub data Side : Type 0 where
  First : Side
  Second : Side

-- of the launch: a group count, an argument by its parameter, a buffer's length; of an item: its local and its group id, the new
-- symbols along its path, from 0, a private variable by its slot, where a path begins and at the anchor before it, and how often the
-- test of a loop was true
pub data Symbol : Type 0 where
  Groups : (dimension : ℕ) → Symbol
  ArgumentOf : (parameter : ℕ) → Symbol
  Length : (buffer : ℕ) → Symbol
  Local : (item : Side) (dimension : ℕ) → Symbol
  Group : (item : Side) (dimension : ℕ) → Symbol
  New : (item : Side) (index : ℕ) → Symbol
  Variable : (item : Side) (slot : ℕ) → Symbol
  AtAnchor : (item : Side) (slot : ℕ) → Symbol
  Turns : (item : Side) (loop : ℕ) → Symbol

-- sixteen families, whose numbers alternate
abbrev pub number : Symbol → ℕ
number (Groups d) = 0 + 16 * d
number (ArgumentOf n) = 1 + 16 * n
number (Length b) = 2 + 16 * b
number (Local First d) = 3 + 16 * d
number (Group First d) = 4 + 16 * d
number (New First k) = 5 + 16 * k
number (Variable First x) = 6 + 16 * x
number (AtAnchor First x) = 7 + 16 * x
number (Turns First k) = 8 + 16 * k
number (Local Second d) = 9 + 16 * d
number (Group Second d) = 10 + 16 * d
number (New Second k) = 11 + 16 * k
number (Variable Second x) = 12 + 16 * x
number (AtAnchor Second x) = 13 + 16 * x
number (Turns Second k) = 14 + 16 * k

-- a family's symbol; no symbol has a number of the sixteenth family
abbrev pub of_family : (family index : ℕ) → Symbol
of_family zero i = Groups i
of_family (suc zero) i = ArgumentOf i
of_family (suc (suc zero)) i = Length i
of_family (suc (suc (suc zero))) i = Local First i
of_family (suc (suc (suc (suc zero)))) i = Group First i
of_family (suc (suc (suc (suc (suc zero))))) i = New First i
of_family (suc (suc (suc (suc (suc (suc zero)))))) i = Variable First i
of_family (suc (suc (suc (suc (suc (suc (suc zero))))))) i = AtAnchor First i
of_family (suc (suc (suc (suc (suc (suc (suc (suc zero)))))))) i = Turns First i
of_family (suc (suc (suc (suc (suc (suc (suc (suc (suc zero))))))))) i = Local Second i
of_family (suc (suc (suc (suc (suc (suc (suc (suc (suc (suc zero)))))))))) i = Group Second i
of_family (suc (suc (suc (suc (suc (suc (suc (suc (suc (suc (suc zero))))))))))) i = New Second i
of_family (suc (suc (suc (suc (suc (suc (suc (suc (suc (suc (suc (suc zero)))))))))))) i = Variable Second i
of_family (suc (suc (suc (suc (suc (suc (suc (suc (suc (suc (suc (suc (suc zero))))))))))))) i = AtAnchor Second i
of_family (suc (suc (suc (suc (suc (suc (suc (suc (suc (suc (suc (suc (suc (suc zero)))))))))))))) i = Turns Second i
of_family (suc (suc (suc (suc (suc (suc (suc (suc (suc (suc (suc (suc (suc (suc (suc f))))))))))))))) i = Turns First i

unfoldable pub symbol_of : ℕ → Symbol
symbol_of n = of_family (n % 16) (n / 16)

abbrev pub Fact : Type 0
Fact = Form ℕ

abbrev pub constant : ℤ → Fact
constant z = record { terms = []; constant = z }

-- one symbol, once
abbrev pub once : Symbol → Fact
once s = record { terms = record { coefficient = pos 1; symbol = number s } ∷ []; constant = pos 0 }

abbrev pub minus : Fact → Fact → Fact
minus f g = sum f (multiple (negsuc 0) g)

-- both say of two forms that they are equal
abbrev pub equals : Fact → Fact → List Fact
equals f g = minus f g ∷ minus g f ∷ []

-- what denies that a form is at least 0
abbrev pub denial : Fact → Fact
denial f = minus (constant (negsuc 0)) f
