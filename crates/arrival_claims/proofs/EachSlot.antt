-- Values, one by one.
use Rattle.std.proofs.Common.{◌≡◌, ℕ, zero, suc, ◌<◌, ◌≤◌, Bool, true, false, ◌&&◌, List, [], ◌∷◌, ◌+◌, length, map, drop, get_or, refl, sym, ap, ◌∙◌, arith}
use Rattle.std.proofs.lemmas.List.{length-append, length-map}
use Rattle.std.proofs.Math.ListN.{get_or-map}
use Rattle.std.proofs.Math.Seq.{drop-cons}
use Rattle.semantics.specs.Word.{Kind, Int}
use Rattle.linear.specs.Terms.{terms}
use Rattle.linear.specs.declared.term.Term.{Term}
use Rattle.words.specs.View.{kind}
use Rattle.core_code.specs.View.{kernel}
use Rattle.core_code.specs.declared.tree.Core.{Core}
use Rattle.path_steps.specs.View.{value}
use Rattle.path_steps.specs.declared.path.Value as code
use Rattle.semantics.specs.Launch.{Kernel}
use Rattle.walk_trees.specs.Values.{Value}
use Rattle.obligations.specs.Roots.{is_argument_term, kinds, kind_of, is_slot, are_slots}

pub slots_more : (k : Kernel) (n i : ℕ) (as' : List Kind) (vs : List Value) (a : Kind) (v : Value) → i < length as' → i < length vs → are_slots k n (drop i as') (drop i vs) ≡ (is_slot k n (get_or as' i a) (get_or vs i v) && are_slots k (suc n) (drop (suc i) as') (drop (suc i) vs))
slots_more k n i as' vs a v g h = λ j. are_slots k n (drop-cons as' i a g j) (drop-cons vs i v h j)

pub slots_unequal : (k : Kernel) (n : ℕ) (as' : List Kind) (vs : List Value) → (length as' ≡ length vs → ⊥) → are_slots k n as' vs ≡ false
slots_unequal k n [] [] h = absurd (h refl)
slots_unequal k n [] (v ∷ vs) h = refl
slots_unequal k n (a ∷ as') [] h = refl
slots_unequal k n (a ∷ as') (v ∷ vs) h = both (is_slot k n a v) (slots_unequal k (suc n) as' vs (λ e. h (ap suc e)))
  where
    both : (b : Bool) {c : Bool} → c ≡ false → (b && c) ≡ false
    both true e = e
    both false e = refl

pub many_terms : (x : ℕ) (ts : List Term) → 2 ≤ length ts → is_argument_term x (terms ts) ≡ false
many_terms x [] h = refl
many_terms x (t ∷ []) h = absurd (omega (arith, h))
many_terms x (t ∷ (u ∷ ts)) h = refl

pub count_kinds : (c : Core) → length (kinds (kernel c)) ≡ length c.arguments.items + length c.variables.items
count_kinds c = length-append (map kind c.arguments.items) (map kind c.variables.items) ∙ (λ i. length-map c.arguments.items kind i + length-map c.variables.items kind i)

pub next_slot : (c : Core) (vs : List code.Value) (i j : ℕ) (a : Kind) (v : code.Value) → length (kinds (kernel c)) ≡ length vs → i < length vs → j ≡ suc i → a ≡ kind_of (kernel c) i → v ≡ get_or vs i v →
    are_slots (kernel c) i (drop i (kinds (kernel c))) (drop i (map value vs)) ≡ (is_slot (kernel c) i a (value v) && are_slots (kernel c) j (drop j (kinds (kernel c))) (drop j (map value vs)))
next_slot c vs i j a v l h p d e =
    let k = kernel c in
    slots_more k i i (kinds k) (map value vs) Int (value v) (omega (arith, l, h)) (omega (arith, h, length-map vs value))
    ∙ (λ n. is_slot k i (sym d n) ((get_or-map value vs i v ∙ ap value (sym e)) n) && are_slots k (sym p n) (drop (sym p n) (kinds k)) (drop (sym p n) (map value vs)))

pub all_slots : (c : Core) (vs : List code.Value) (i : ℕ) → length (kinds (kernel c)) ≡ length vs → length vs ≤ i → are_slots (kernel c) i (drop i (kinds (kernel c))) (drop i (map value vs)) ≡ true
all_slots c vs i l h = λ n. are_slots (kernel c) i (drop_all (kinds (kernel c)) i (omega (arith, l, h)) n) (drop_all (map value vs) i (omega (arith, h, length-map vs value)) n)
  where
    drop_all : {A : Type 0} (xs : List A) (i : ℕ) → length xs ≤ i → drop i xs ≡ []
    drop_all [] zero h = refl
    drop_all [] (suc i) h = refl
    drop_all (x ∷ xs) zero h = absurd (omega (arith, h))
    drop_all (x ∷ xs) (suc i) h = drop_all xs i (omega (arith, h))
