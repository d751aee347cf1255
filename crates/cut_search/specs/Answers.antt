-- What an answer says of the facts that were searched.
use Rattle.std.specs.Prelude.{ℕ, ℤ, pos, true, cond, nat_eq, ◌≡◌, List, [], ◌∷◌, map}
use Rattle.std.specs.List.{All}
use Rattle.linear.specs.Linear.{Form, IsMet, IsImpossible}
use Rattle.linear.specs.Products.{IsImpossibleWithProducts}
use Rattle.linear.specs.declared.term.Symbol.{Symbol}
use Rattle.cut_proof.specs.Derivations.{refutes_with, are_without_products}
use Rattle.cut_proof.specs.View.{lemma, line}
use Rattle.cut_search.specs.declared.answer.Answer.{Answer}
use Rattle.cut_search.specs.declared.answer.Answer.TheVariants.{Proof, Model, Undecided}

-- the value of a symbol at a point, 0 where it has none
abbrev pub value_at : List (Symbol × ℤ) → ℕ → ℤ
value_at [] n = pos 0
value_at (e ∷ es) n = cond (nat_eq e.0.number n) e.1 (value_at es n)

-- a derivation refutes the facts, so nothing meets them where products are products, and nothing at all where no line is one; a point meets
-- them all
abbrev pub IsAnswer : List (Form ℕ) → Answer → Type 0
IsAnswer facts (Proof d) = (refutes_with facts (map lemma d.lemmas.items) (map line d.lines.items) ≡ true) × (are_without_products (map lemma d.lemmas.items) (map line d.lines.items) ≡ true → IsImpossible facts) × IsImpossibleWithProducts facts
IsAnswer facts (Model p) = All (IsMet (value_at p.items)) facts
IsAnswer facts Undecided = Unit {0}
