-- The second item's copies: their symbols, their values and their elements.
use Rattle.std.proofs.Common.{◌≡◌, ◌≢◌, Bool, true, false, map, nat_lt, nat_eq, ℕ, ◌+◌, ◌%◌, ◌<◌, ◌≤◌, cond, List, [], ◌∷◌, arith, refl, sym, ap, subst, ◌∙◌, lt-ltb}
use Rattle.std.specs.Prelude.{ℤ, pos, ◌+ℤ◌, ◌≤ℤ◌}
use Rattle.std.specs.List.{All}
use Rattle.std.proofs.lemmas.Bool.{le-ltb}
use Rattle.std.proofs.lemmas.List.Elements.{All-cons, All-nil, All-head, All-tail}
use Rattle.linear.specs.Linear.{Weighted, terms_value, value_of, IsMet}
use Rattle.std.proofs.lemmas.Bool.Decides.{nat_tests}
use Rattle.linear.specs.Products.{factors, product_number, IsRelabelling}
use Rattle.linear.proofs.Merging.{value-merge}
use Rattle.std.proofs.lemmas.Int.{ints}
use Rattle.facts.specs.Symbols as symbols
use Rattle.facts.specs.Symbols.{First, Second, Symbol, ArgumentOf, Length, Local, Group, New, Variable, AtAnchor, Turns, number, Fact}
use Rattle.walk_trees.specs.Seconds.{shifted, second, second_terms, second_form, second_forms}

alone : (n : ℕ) → n % 16 < 15 → second n ≡ shifted n
alone n h =
    let e : nat_eq (n % 16) 15 ≡ false = grind (arith, nat_tests) in
    ap (λ b. cond b (product_number (map shifted (factors n))) (shifted n)) e

pub shared : (n : ℕ) → n % 16 < 3 → second n ≡ n
shared n h = alone n (omega (arith, h)) ∙ ap (λ b. cond b n (cond (nat_lt (n % 16) 9) (n + 6) n)) (lt-ltb (n % 16) 3 h)

pub copied : (n m : ℕ) → 3 ≤ n % 16 → n % 16 < 9 → m ≡ n + 6 → second n ≡ m
copied n m h l e = alone n (omega (arith, l)) ∙ ap (λ b. cond b n (cond (nat_lt (n % 16) 9) (n + 6) n)) (le-ltb (n % 16) 3 h) ∙ ap (λ b. cond b (n + 6) n) (lt-ltb (n % 16) 9 l) ∙ sym e

shift-alone : (n : ℕ) → n % 16 ≢ 15 → (a b : Bool) → nat_lt (n % 16) 3 ≡ a → nat_lt (n % 16) 9 ≡ b → cond a n (cond b (n + 6) n) % 16 ≢ 15
shift-alone n h true b p q = h
shift-alone n h false true p q = (let l : n % 16 < 9 = grind (arith, nat_tests) in omega (arith, l))
shift-alone n h false false p q = h

shift-small : (n : ℕ) → n < 1048560 → (a b : Bool) → nat_lt (n % 16) 3 ≡ a → nat_lt (n % 16) 9 ≡ b → cond a n (cond b (n + 6) n) < 1048560
shift-small n h true b p q = h
shift-small n h false true p q = (let l : n % 16 < 9 = grind (arith, nat_tests) in omega (arith, l, h))
shift-small n h false false p q = h

-- products of copies are copies of products
pub is_relabelling : IsRelabelling shifted
is_relabelling = record {
  alone = λ n h. shift-alone n h (nat_lt (n % 16) 3) (nat_lt (n % 16) 9) refl refl;
  small = λ n h. shift-small n h (nat_lt (n % 16) 3) (nat_lt (n % 16) 9) refl refl;
}

pub second-groups : (d : ℕ) → second (number (symbols.Groups d)) ≡ number (symbols.Groups d)
second-groups d = shared (number (symbols.Groups d)) (omega arith)

pub second-given : (n : ℕ) → second (number (ArgumentOf n)) ≡ number (ArgumentOf n)
second-given n = shared (number (ArgumentOf n)) (omega arith)

pub second-length : (b : ℕ) → second (number (Length b)) ≡ number (Length b)
second-length b = shared (number (Length b)) (omega arith)

pub second-local : (d : ℕ) → second (number (Local First d)) ≡ number (Local Second d)
second-local d = copied (number (Local First d)) (number (Local Second d)) (omega arith) (omega arith) (omega arith)

pub second-group : (d : ℕ) → second (number (Group First d)) ≡ number (Group Second d)
second-group d = copied (number (Group First d)) (number (Group Second d)) (omega arith) (omega arith) (omega arith)

pub second-new : (k : ℕ) → second (number (New First k)) ≡ number (New Second k)
second-new k = copied (number (New First k)) (number (New Second k)) (omega arith) (omega arith) (omega arith)

pub second-variable : (x : ℕ) → second (number (Variable First x)) ≡ number (Variable Second x)
second-variable x = copied (number (Variable First x)) (number (Variable Second x)) (omega arith) (omega arith) (omega arith)

pub second-at_anchor : (x : ℕ) → second (number (AtAnchor First x)) ≡ number (AtAnchor Second x)
second-at_anchor x = copied (number (AtAnchor First x)) (number (AtAnchor Second x)) (omega arith) (omega arith) (omega arith)

pub second-turns : (k : ℕ) → second (number (Turns First k)) ≡ number (Turns Second k)
second-turns k = copied (number (Turns First k)) (number (Turns Second k)) (omega arith) (omega arith) (omega arith)

-- a copy has the value that the form has where each symbol is its copy
second-terms : (v : ℕ → ℤ) (ts : List (Weighted ℕ)) → terms_value v (second_terms ts) ≡ terms_value (λ n. v (second n)) ts
second-terms v [] = refl
second-terms v (t ∷ ts) = omega (arith, ints, value-merge v (record { coefficient = t.coefficient; symbol = second t.symbol } ∷ []) (second_terms ts), second-terms v ts)

pub second-value : (v : ℕ → ℤ) (f : Fact) → value_of v (second_form f) ≡ value_of (λ n. v (second n)) f
second-value v f = ap (λ z. z +ℤ f.constant) (second-terms v f.terms)

pub second-met : (v : ℕ → ℤ) (fs : List Fact) → All (IsMet (λ n. v (second n))) fs → All (IsMet v) (second_forms fs)
second-met v [] h = All-nil (IsMet v)
second-met v (f ∷ fs) h = All-cons (IsMet v) (second_form f) (second_forms fs) (subst (λ z. pos 0 ≤ℤ z) (sym (second-value v f)) (All-head (IsMet (λ n. v (second n))) f fs h)) (second-met v fs (All-tail (IsMet (λ n. v (second n))) f fs h))
