-- What the symbols of a place are.
use Rattle.std.proofs.Common.{◌≡◌, ℕ, zero, suc, ◌<◌, ◌≤◌, ◌+◌, List, [], ◌∷◌, ◌++◌, length, map, refl, ap, ◌∙◌, arith}
use Rattle.std.specs.Prelude.{pos, slice_index_or}
use Rattle.semantics.specs.Word.{Kind}
use Rattle.semantics.specs.Launch.{Kernel}
use Rattle.facts.specs.Symbols.{First, symbol_of, Fact, once, constant, ArgumentOf, Variable, AtAnchor, Turns}
use Rattle.facts.specs.Families.{symbol_in}
use Rattle.facts.specs.declared.family.Family.{Family}
use Rattle.facts.specs.declared.family.Family.TheVariants as families
use Rattle.facts.specs.declared.side.Side.TheVariants as items
use Rattle.walk_trees.specs.Values.{Value}
use Rattle.walk_trees.specs.Terms.{no_value}
use Rattle.walk_trees.specs.Walks.{Ranked, rank_form}
use Rattle.walk_trees.specs.Statements.{argument_values, zero_value}
use Rattle.obligations.specs.Replacing.{form_on}
use Rattle.obligations.specs.Roots.{root_form, values_from}

by_family : (vs : List Value) (an : ℕ → Fact) (rs : List Ranked) (f : Family) (i : ℕ) → (f ≡ families.Variable items.First → ⊥) → (f ≡ families.AtAnchor items.First → ⊥) → (f ≡ families.Turns items.First → ⊥) → form_on vs an rs (symbol_in f i) ≡ once (symbol_in f i)
by_family vs an rs families.Groups i a b c = refl
by_family vs an rs families.Argument i a b c = refl
by_family vs an rs families.Length i a b c = refl
by_family vs an rs (families.Local w) i a b c = refl
by_family vs an rs (families.Group w) i a b c = refl
by_family vs an rs (families.New w) i a b c = refl
by_family vs an rs (families.Variable items.First) i a b c = absurd (a refl)
by_family vs an rs (families.Variable items.Second) i a b c = refl
by_family vs an rs (families.AtAnchor items.First) i a b c = absurd (b refl)
by_family vs an rs (families.AtAnchor items.Second) i a b c = refl
by_family vs an rs (families.Turns items.First) i a b c = absurd (c refl)
by_family vs an rs (families.Turns items.Second) i a b c = refl

pub variable_on : (vs : List Value) (an : ℕ → Fact) (rs : List Ranked) (n x : ℕ) → symbol_of n ≡ Variable First x → form_on vs an rs (symbol_of n) ≡ (slice_index_or vs x no_value).form
variable_on vs an rs n x e = ap (form_on vs an rs) e

pub anchor_on : (vs : List Value) (an : ℕ → Fact) (rs : List Ranked) (n x : ℕ) → symbol_of n ≡ AtAnchor First x → form_on vs an rs (symbol_of n) ≡ an x
anchor_on vs an rs n x e = ap (form_on vs an rs) e

pub rank_on : (vs : List Value) (an : ℕ → Fact) (rs : List Ranked) (n k : ℕ) → symbol_of n ≡ Turns First k → form_on vs an rs (symbol_of n) ≡ rank_form rs k
rank_on vs an rs n k e = ap (form_on vs an rs) e

pub other_on : (vs : List Value) (an : ℕ → Fact) (rs : List Ranked) (n i : ℕ) (f : Family) → symbol_of n ≡ symbol_in f i → (f ≡ families.Variable items.First → ⊥) → (f ≡ families.AtAnchor items.First → ⊥) → (f ≡ families.Turns items.First → ⊥) → form_on vs an rs (symbol_of n) ≡ once (symbol_in f i)
other_on vs an rs n i f e a b c = ap (form_on vs an rs) e ∙ by_family vs an rs f i a b c

pub ruleset on_paths = (variable_on, anchor_on, rank_on, other_on)

-- the values where a path begins
pub root_inside : (k : Kernel) (n : ℕ) (as' : List Kind) (i : ℕ) → i < length as' → (slice_index_or (values_from k n as') i no_value).form ≡ root_form k (n + i)
root_inside k n [] i h = absurd (omega (arith, h))
root_inside k n (a ∷ as') zero h = ap (root_form k) (omega arith)
root_inside k n (a ∷ as') (suc i) h = root_inside k (suc n) as' i (omega (arith, h)) ∙ ap (root_form k) (omega arith)

pub root_past : (k : Kernel) (n : ℕ) (as' : List Kind) (i : ℕ) → length as' ≤ i → (slice_index_or (values_from k n as') i no_value).form ≡ constant (pos 0)
root_past k n [] i h = refl
root_past k n (a ∷ as') zero h = absurd (omega (arith, h))
root_past k n (a ∷ as') (suc i) h = root_past k (suc n) as' i (omega (arith, h))

zero_form : (ks : List Kind) (i : ℕ) → (slice_index_or (map zero_value ks) i no_value).form ≡ constant (pos 0)
zero_form [] i = refl
zero_form (k ∷ ks) zero = refl
zero_form (k ∷ ks) (suc i) = zero_form ks i

pub argument_inside : (n : ℕ) (ks more : List Kind) (i : ℕ) → i < length ks → (slice_index_or (argument_values n ks ++ map zero_value more) i no_value).form ≡ once (ArgumentOf (n + i))
argument_inside n [] more i h = absurd (omega (arith, h))
argument_inside n (k ∷ ks) more zero h = ap (λ x. once (ArgumentOf x)) (omega arith)
argument_inside n (k ∷ ks) more (suc i) h = argument_inside (suc n) ks more i (omega (arith, h)) ∙ ap (λ x. once (ArgumentOf x)) (omega arith)

pub argument_past : (n : ℕ) (ks more : List Kind) (i : ℕ) → length ks ≤ i → (slice_index_or (argument_values n ks ++ map zero_value more) i no_value).form ≡ constant (pos 0)
argument_past n [] more i h = zero_form more i
argument_past n (k ∷ ks) more zero h = absurd (omega (arith, h))
argument_past n (k ∷ ks) more (suc i) h = argument_past (suc n) ks more i (omega (arith, h))
