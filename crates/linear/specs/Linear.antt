-- Linear facts over any type of symbols, and lists of them that nothing meets.
use Rattle.std.specs.Prelude.{ℤ, pos, ◌+ℤ◌, ◌*ℤ◌, ◌≤ℤ◌, List, [], ◌∷◌}
use Rattle.std.specs.List.{All}

-- a symbol times a coefficient
pub record Weighted (S : Type 0) : Type 0 where
  pub coefficient : ℤ
  pub symbol : S

-- a sum of symbols with coefficients, and a constant
pub record Form (S : Type 0) : Type 0 where
  pub terms : List (Weighted S)
  pub constant : ℤ

abbrev pub terms_value : {S : Type 0} → (S → ℤ) → List (Weighted S) → ℤ
terms_value v [] = pos 0
terms_value v (t ∷ ts) = t.coefficient *ℤ v t.symbol +ℤ terms_value v ts

-- what a form is where each symbol is a whole number
abbrev pub value_of : {S : Type 0} → (S → ℤ) → Form S → ℤ
value_of v f = terms_value v f.terms +ℤ f.constant

-- a fact says of a form that it is at least 0
abbrev pub IsMet : {S : Type 0} → (S → ℤ) → Form S → Type 0
IsMet v f = pos 0 ≤ℤ value_of v f

-- no whole numbers for the symbols meet all of the facts
abbrev pub IsImpossible : {S : Type 0} → List (Form S) → Type 0
IsImpossible {S} facts = (v : S → ℤ) → All (IsMet v) facts → ⊥
