-- Quotients of a path by forms that are no numbers, kept so that equal ones are one.
use Rattle.std.specs.Prelude.{ℕ, List, [], ◌∷◌, Bool, true, false, ◌&&◌, cond, nat_eq, Option, Some, None}
use Rattle.std.specs.Ordering.{int_eq}
use Rattle.linear.specs.Linear.{Weighted}
use Rattle.linear.specs.Exact.{Terms}
use Rattle.facts.specs.Symbols.{Fact}

-- two forms, their quotient, and what it leaves
pub record Shared : Type 0 where
  pub dividend : Fact
  pub divisor : Fact
  pub quotient : Fact
  pub left : Fact

abbrev pub is_same_term : Weighted ℕ → Weighted ℕ → Bool
is_same_term t u = int_eq t.coefficient u.coefficient && nat_eq t.symbol u.symbol

abbrev pub are_same_terms : Terms → Terms → Bool
are_same_terms [] [] = true
are_same_terms [] (u ∷ us) = false
are_same_terms (t ∷ ts) [] = false
are_same_terms (t ∷ ts) (u ∷ us) = is_same_term t u && are_same_terms ts us

-- the same terms in the same order, and the same constant
abbrev pub is_same : Fact → Fact → Bool
is_same f g = are_same_terms f.terms g.terms && int_eq f.constant g.constant

abbrev pub is_of : (dividend divisor : Fact) → Shared → Bool
is_of x y q = is_same q.dividend x && is_same q.divisor y

-- that of a dividend and a divisor
abbrev pub shared_of : (dividend divisor : Fact) → List Shared → Option Shared
shared_of x y [] = None
shared_of x y (q ∷ qs) = cond (is_of x y q) (Some q) (shared_of x y qs)
