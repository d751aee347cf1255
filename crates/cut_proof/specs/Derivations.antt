-- Derivations by cutting planes and products, and which of them end in a contradiction.
use Rattle.std.specs.Prelude.{ℕ, zero, suc, ℤ, pos, Bool, true, false, cond, ◌&&◌, nat_lt, Option, None, Some, List, [], ◌∷◌, ◌++◌}
use Rattle.std.specs.Int.{is_positive, is_negative}
use Rattle.linear.specs.Linear.{Weighted, Form}
use Rattle.linear.specs.Exact.{sum, multiple, quotient, all_divide}
use Rattle.linear.specs.Products.{and_then, within_i64, product, denial}

-- a line of a derivation: a fact, a sum of earlier lines with weights, an earlier line divided, the product of two. Facts and lines are
-- counted from 1
pub data Line : Type 0 where
  Given : (fact : ℕ) → Line
  Sum : (parts : List (ℤ × ℕ)) → Line
  Divide : (divisor : ℤ) (line : ℕ) → Line
  Product : (first second : ℕ) → Line

abbrev pub Forms : Type 0
Forms = List (Form ℕ)

-- the entry of this number, counted from 1
abbrev pub entry : Forms → ℕ → Option (Form ℕ)
entry fs zero = None
entry [] (suc n) = None
entry (f ∷ fs) (suc zero) = Some f
entry (f ∷ fs) (suc (suc n)) = entry fs (suc n)

-- a sum, and a multiple of an earlier line
abbrev pub add_part : (made : Forms) → Form ℕ → ℤ × ℕ → Option (Form ℕ)
add_part made f p = cond (is_positive p.0) (and_then (entry made p.1) (λ g. and_then (within_i64 (multiple p.0 g)) (λ h. within_i64 (sum f h)))) None

-- the parts one after the other, their lines rising
abbrev pub add_parts : (made : Forms) (before : ℕ) → Form ℕ → List (ℤ × ℕ) → Option (Form ℕ)
add_parts made before f [] = Some f
add_parts made before f (p ∷ ps) = cond (nat_lt before p.1) (and_then (add_part made f p) (λ g. add_parts made p.1 g ps)) None

abbrev pub nothing : Form ℕ
nothing = record { terms = []; constant = pos 0 }

-- a sum has a part
abbrev pub sum_line : (made : Forms) → List (ℤ × ℕ) → Option (Form ℕ)
sum_line made [] = None
sum_line made (p ∷ ps) = add_parts made 0 nothing (p ∷ ps)

abbrev pub divided_line : (made : Forms) → ℤ → ℕ → Option (Form ℕ)
divided_line made d l = cond (is_positive d) (and_then (entry made l) (λ f. cond (all_divide d f.terms) (Some (quotient d f)) None)) None

abbrev pub product_line : (made : Forms) → (first second : ℕ) → Option (Form ℕ)
product_line made l m = and_then (entry made l) (λ f. and_then (entry made m) (λ g. product f g))

-- what a line says, after the lines that are made
abbrev pub line_form : (facts made : Forms) → Line → Option (Form ℕ)
line_form facts made (Given n) = entry facts n
line_form facts made (Sum parts) = sum_line made parts
line_form facts made (Divide d l) = divided_line made d l
line_form facts made (Product l m) = product_line made l m

abbrev pub is_none : List (Weighted ℕ) → Bool
is_none [] = true
is_none (t ∷ ts) = false

-- a form with no terms, its constant negative
abbrev pub is_contradiction : Form ℕ → Bool
is_contradiction f = is_none f.terms && is_negative f.constant

abbrev pub if_made : Option (Form ℕ) → (Form ℕ → Bool) → Bool
if_made None go = false
if_made (Some f) go = go f

-- each line can be made, and the last is a contradiction; `answer` tells it of the lines that are made
abbrev pub refutes_from : (facts made : Forms) (answer : Bool) → List Line → Bool
refutes_from facts made answer [] = answer
refutes_from facts made answer (l ∷ ls) = if_made (line_form facts made l) (λ f. refutes_from facts (made ++ f ∷ []) (is_contradiction f) ls)

abbrev pub refutes_of : (facts : Forms) → List Line → Bool
refutes_of facts ls = refutes_from facts [] false ls

-- a form, and lines that refute its denial
pub record Lemma : Type 0 where
  pub form : Form ℕ
  pub lines : List Line

abbrev pub shows : (facts : Forms) → Lemma → Bool
shows facts l = if_made (within_i64 (denial l.form)) (λ d. refutes_of (facts ++ d ∷ []) l.lines)

-- lemmas, each shown with those before it, and lines that refute the facts with all of them
abbrev pub refutes_with : (facts : Forms) → List Lemma → List Line → Bool
refutes_with facts [] ls = refutes_of facts ls
refutes_with facts (l ∷ more) ls = shows facts l && refutes_with (facts ++ l.form ∷ []) more ls

-- a line is no product
abbrev pub is_linear : Line → Bool
is_linear (Given n) = true
is_linear (Sum parts) = true
is_linear (Divide d l) = true
is_linear (Product l m) = false

abbrev pub are_linear : List Line → Bool
are_linear [] = true
are_linear (l ∷ ls) = is_linear l && are_linear ls

-- no line of a lemma and none of the last ones is a product
abbrev pub are_without_products : List Lemma → List Line → Bool
are_without_products [] ls = are_linear ls
are_without_products (l ∷ more) ls = are_linear l.lines && are_without_products more ls
