-- The second item's symbols, one for each term of a form, and forms that are made term by term.
use Rattle.std.specs.Prelude.{ℕ, ℤ, pos, List, [], ◌∷◌, Bool, true, ◌&&◌, not, nat_lt, nat_eq}
use Rattle.linear.specs.Exact.{Terms, merge}
use Rattle.facts.specs.Symbols.{Fact}
use Rattle.walk_trees.specs.Seconds.{second}

abbrev pub seconds : Terms → List ℕ
seconds [] = []
seconds (t ∷ ts) = second t.symbol ∷ seconds ts

-- each is above the one before
abbrev pub rise_from : (last : ℕ) → List ℕ → Bool
rise_from last [] = true
rise_from last (n ∷ ns) = nat_lt last n && rise_from n ns

abbrev pub rise : List ℕ → Bool
rise [] = true
rise (n ∷ ns) = rise_from n ns

-- the form of one term, and a form with one term more
abbrev pub one_term : (symbol : ℕ) → (coefficient : ℤ) → Fact
one_term s c = record { terms = record { coefficient = c; symbol = s } ∷ []; constant = pos 0 }

abbrev pub with_one : (symbol : ℕ) → (coefficient : ℤ) → Fact → Fact
with_one s c f = record { terms = merge (record { coefficient = c; symbol = s } ∷ []) f.terms; constant = f.constant }

-- no term is of a symbol
abbrev pub is_apart : (symbol : ℕ) → Terms → Bool
is_apart s [] = true
is_apart s (t ∷ ts) = not (nat_eq s t.symbol) && is_apart s ts
