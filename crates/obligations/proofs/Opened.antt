-- What an item opens with is of its variables' kinds, and its parameters are the arguments.
use Rattle.std.proofs.Common.{◌≡◌, ℕ, suc, ◌+◌, ◌≤◌, Bool, true, false, not, ◌&&◌, ◌||◌, nat_lt, List, [], ◌∷◌, ◌++◌, map, length, arith, refl, le-ltb, eq-eqb}
use Rattle.std.proofs.lemmas.Bool.{and_from}
use Rattle.semantics.specs.Word.{Kind, Int, Uint, Size}
use Rattle.semantics.specs.Launch.{Kernel}
use Rattle.semantics.specs.Solo.{opening}
use Rattle.facts.specs.Symbols.{ArgumentOf, number, once}
use Rattle.facts.proofs.Worlds.{View, setup}
use Rattle.walk_trees.specs.Values.{value}
use Rattle.walk_trees.specs.Statements.{argument_values, zero_value, opening_values}
use Rattle.walk_trees.proofs.Opening.{opening_forms}
use Rattle.obligations.specs.Roots.{same_kind, is_kept, some_sets, is_argument, is_slot, are_slots}
use Rattle.obligations.proofs.Words.{are_words, slots-are_words}

same_kind-refl : (a : Kind) → same_kind a a ≡ true
same_kind-refl Int = refl
same_kind-refl Uint = refl
same_kind-refl Size = refl

either-true : (a b : Bool) → b ≡ true → (not a || b) ≡ true
either-true true b h = h
either-true false b h = refl

or-first : (a b : Bool) → a ≡ false → (not a || b) ≡ true
or-first true b h = cc
or-first false b h = refl

and-false : (a b : Bool) → a ≡ false → (a && b) ≡ false
and-false true b h = cc
and-false false b h = refl

is-argument : (x : ℕ) → is_argument x (once (ArgumentOf x)) ≡ true
is-argument x = and_from _ true (eq-eqb (number (ArgumentOf x)) (number (ArgumentOf x)) refl) refl

module _ (k : Kernel) where
  zero-slots : (y : ℕ) (ks : List Kind) → length k.arguments ≤ y → are_slots k y ks (map zero_value ks) ≡ true
  zero-slots y [] h = refl
  zero-slots y (a ∷ ks) h =
      and_from (is_slot k y a (zero_value a)) (are_slots k (suc y) ks (map zero_value ks))
      (and_from (same_kind a a) _ (same_kind-refl a) (or-first (is_kept k y) _ (and-false (nat_lt y (length k.arguments)) (not (some_sets y k.body)) (le-ltb y (length k.arguments) h))))
      (zero-slots (suc y) ks (omega (arith, h)))

  argument-slots : (y : ℕ) (ks vs : List Kind) → y + length ks ≡ length k.arguments → are_slots k y (ks ++ vs) (argument_values y ks ++ map zero_value vs) ≡ true
  argument-slots y [] vs h = zero-slots y vs (omega (arith, h))
  argument-slots y (a ∷ ks) vs h =
      and_from (is_slot k y a (value a (once (ArgumentOf y)))) (are_slots k (suc y) (ks ++ vs) (argument_values (suc y) ks ++ map zero_value vs))
      (and_from (same_kind a a) _ (same_kind-refl a) (either-true (is_kept k y) (is_argument y (once (ArgumentOf y))) (is-argument y)))
      (argument-slots (suc y) ks vs (omega (arith, h)))

pub opening-words : {E : Type 0} (c : View E) → are_words c.kernel c.launch (opening (setup c) c.item).variables ≡ true
opening-words c = slots-are_words c [] (opening (setup c) c.item).variables (opening_values c.kernel) (opening_forms c) (argument-slots c.kernel 0 c.kernel.arguments c.kernel.variables (omega arith))
