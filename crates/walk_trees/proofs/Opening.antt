-- The values of an item's variables as it begins.
use Rattle.std.proofs.Common.{◌≡◌, ℕ, zero, suc, ◌+◌, ◌^◌, true, List, [], ◌∷◌, ◌++◌, map, length, slice_index_or, arith, refl, sym, ap, ◌∙◌, subst, lt-ltb}
use Rattle.std.specs.Prelude.{pos}
use Rattle.std.specs.List.{AllZip}
use Rattle.semantics.specs.Word.{Kind, Int, Uint, Size, Word, word, zero_word, in_kind}
use Rattle.semantics.specs.Launch.{IsArgument}
use Rattle.semantics.specs.Solo.{opening}
use Rattle.facts.specs.Symbols.{ArgumentOf, number, once}
use Rattle.facts.proofs.Worlds.{View, setup}
use Rattle.walk_trees.specs.Values.{Value}
use Rattle.walk_trees.specs.Terms.{no_value}
use Rattle.walk_trees.specs.Statements.{argument_values, zero_value, opening_values}
use Rattle.walk_trees.proofs.Ranges.{IsForm, IsValue, form_constant, form_once}
use Rattle.walk_trees.proofs.TermSound.{AreForms}

zero_in : (k : Kind) → in_kind k (pos 0) ≡ true
zero_in Int = lt-ltb 0 (2 ^ 31) (omega arith)
zero_in Uint = lt-ltb 0 (2 ^ 32) (omega arith)
zero_in Size = lt-ltb 0 (2 ^ 32) (omega arith)

module _ {E : Type 0} (c : View E) where
  abbrev IsSlot : Word → Value → Type 0
  IsSlot w v = (in_kind w.kind w.value ≡ true) × IsValue c [] w v

  zero_slot : (k : Kind) → IsSlot (word k (pos 0)) (zero_value k)
  zero_slot k = (zero_in k, record { kind = refl; form = form_constant c [] (pos 0) })

  zero_slots : (ks : List Kind) (x : ℕ) → IsSlot (slice_index_or (map (λ k. word k (pos 0)) ks) x zero_word) (slice_index_or (map zero_value ks) x no_value)
  zero_slots [] x = zero_slot Int
  zero_slots (k ∷ ks) zero = zero_slot k
  zero_slots (k ∷ ks) (suc x) = zero_slots ks x

  all_slots : (n : ℕ) (ks : List Kind) (ws : List Word) (vs : List Kind) → AllZip IsArgument ks ws → ((k : ℕ) → IsForm c [] (once (ArgumentOf (n + k))) (slice_index_or ws k zero_word).value) → (x : ℕ) → IsSlot (slice_index_or (ws ++ map (λ k. word k (pos 0)) vs) x zero_word) (slice_index_or (argument_values n ks ++ map zero_value vs) x no_value)
  all_slots n [] [] vs h f x = zero_slots vs x
  all_slots n [] (w ∷ ws) vs h f x = elim h [ ]
  all_slots n (k ∷ ks) [] vs h f x = elim h [ ]
  all_slots n (k ∷ ks) (w ∷ ws) vs h f zero =
      let e : n + 0 ≡ n = omega arith in
      (subst (λ j. in_kind j w.value ≡ true) (sym h.0.0) h.0.1, record { kind = sym h.0.0; form = subst (λ j. IsForm c [] (once (ArgumentOf j)) w.value) e (f 0) })
  all_slots n (k ∷ ks) (w ∷ ws) vs h f (suc x) =
      all_slots (suc n) ks ws vs h.1 (λ j. let e : n + suc j ≡ suc n + j = omega arith in subst (λ i. IsForm c [] (once (ArgumentOf i)) (slice_index_or ws j zero_word).value) e (f (suc j))) x

  same_lengths : (n : ℕ) (ks : List Kind) (ws : List Word) (vs : List Kind) → AllZip IsArgument ks ws → length (ws ++ map (λ k. word k (pos 0)) vs) ≡ length (argument_values n ks ++ map zero_value vs)
  same_lengths n [] [] [] h = refl
  same_lengths n [] [] (v ∷ vs) h = ap suc (same_lengths n [] [] vs h)
  same_lengths n [] (w ∷ ws) vs h = elim h [ ]
  same_lengths n (k ∷ ks) [] vs h = elim h [ ]
  same_lengths n (k ∷ ks) (w ∷ ws) vs h = ap suc (same_lengths (suc n) ks ws vs h.1)

  pub opening_forms : AreForms c [] (opening (setup c) c.item).variables (opening_values c.kernel)
  unfolding opening
  opening_forms =
      let given : (k : ℕ) → IsForm c [] (once (ArgumentOf (0 + k))) (slice_index_or c.launch.arguments k zero_word).value = λ k. form_once c [] (ArgumentOf (0 + k)) (slice_index_or c.launch.arguments k zero_word).value (λ v a. ap (λ j. v (number (ArgumentOf j))) (omega arith) ∙ a.given k) in
      let slots = all_slots 0 c.kernel.arguments c.launch.arguments c.kernel.variables c.fits.arguments given in
      record { lengths = same_lengths 0 c.kernel.arguments c.launch.arguments c.kernel.variables c.fits.arguments; right = λ x. (slots x).0; each = λ x. (slots x).1 }
