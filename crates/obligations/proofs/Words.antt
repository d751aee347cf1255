-- The words of an item at a place: of their variables' kinds, and of a parameter that nothing assigns its argument.
use Rattle.std.proofs.Common.{◌≡◌, ℕ, zero, suc, ◌+◌, ◌<◌, Bool, true, false, not, ◌&&◌, ◌||◌, nat_eq, List, [], ◌∷◌, length, slice_index_or, arith, refl, sym, ap, ◌∙◌, subst}
use Rattle.std.specs.Prelude.{ℤ, pos, ◌+ℤ◌, ◌*ℤ◌}
use Rattle.std.specs.Ordering.{int_eq}
use Rattle.std.proofs.lemmas.Int.{ints}
use Rattle.std.proofs.lemmas.Bool.{and_parts, and_from}
use Rattle.std.proofs.lemmas.Bool.Decides.{nat_tests, Decides-int_eq}
use Rattle.linear.specs.Linear.{Weighted, value_of}
use Rattle.semantics.specs.Word.{Kind, Int, Uint, Size, Word, zero_word, in_kind}
use Rattle.semantics.specs.Launch.{Kernel, Launch}
use Rattle.facts.specs.Symbols.{ArgumentOf, number}
use Rattle.facts.proofs.Members.{by_number}
use Rattle.facts.proofs.Worlds.{View, given_at, own, agrees_itself}
use Rattle.walk_trees.specs.Values.{Value}
use Rattle.walk_trees.specs.Terms.{no_value}
use Rattle.walk_trees.proofs.TermSound.{AreForms}
use Rattle.obligations.specs.Roots.{same_kind, is_kept, kinds, kind_of, is_argument_term, is_argument, is_slot, are_slots}

abbrev kept_fits : Bool → Word → ℤ → Bool
kept_fits true w z = int_eq w.value z
kept_fits false w z = true

abbrev word_fits : Kernel → Launch → ℕ → Kind → Word → Bool
word_fits k l x a w = (same_kind w.kind a && in_kind a w.value) && kept_fits (is_kept k x) w (given_at l x)

abbrev words_fit : Kernel → Launch → ℕ → List Kind → List Word → Bool
words_fit k l x [] [] = true
words_fit k l x [] (w ∷ ws) = false
words_fit k l x (a ∷ as') [] = false
words_fit k l x (a ∷ as') (w ∷ ws) = word_fits k l x a w && words_fit k l (suc x) as' ws

abbrev pub are_words : Kernel → Launch → List Word → Bool
are_words k l ws = words_fit k l 0 (kinds k) ws

pub record Fit (k : Kernel) (l : Launch) (x : ℕ) (a : Kind) (w : Word) : Type 0 where
  pub kind : w.kind ≡ a
  pub right : in_kind a w.value ≡ true
  pub kept : is_kept k x ≡ true → w.value ≡ given_at l x

pub same_kind-is : (a b : Kind) → same_kind a b ≡ true → a ≡ b
same_kind-is Int Int h = refl
same_kind-is Int Uint h = cc
same_kind-is Int Size h = cc
same_kind-is Uint Int h = cc
same_kind-is Uint Uint h = refl
same_kind-is Uint Size h = cc
same_kind-is Size Int h = cc
same_kind-is Size Uint h = cc
same_kind-is Size Size h = refl

same_kind-refl : (a : Kind) → same_kind a a ≡ true
same_kind-refl Int = refl
same_kind-refl Uint = refl
same_kind-refl Size = refl

int_eq-is : (x y : ℤ) → int_eq x y ≡ true → x ≡ y
int_eq-is x y h = grind (arith, Decides-int_eq)

is-int_eq : (x y : ℤ) → x ≡ y → int_eq x y ≡ true
is-int_eq x y h = grind (arith, Decides-int_eq)

nat_eq-is : (x y : ℕ) → nat_eq x y ≡ true → x ≡ y
nat_eq-is x y h = grind (arith, nat_tests)

kept-is : (b : Bool) (w : Word) (z : ℤ) → kept_fits b w z ≡ true → b ≡ true → w.value ≡ z
kept-is true w z h e = int_eq-is w.value z h
kept-is false w z h e = cc

is-kept : (b : Bool) (w : Word) (z : ℤ) → (b ≡ true → w.value ≡ z) → kept_fits b w z ≡ true
is-kept true w z h = is-int_eq w.value z (h refl)
is-kept false w z h = refl

module _ (k : Kernel) (l : Launch) where
  fit-is : (x : ℕ) (a : Kind) (w : Word) → word_fits k l x a w ≡ true → Fit k l x a w
  fit-is x a w h =
      let p = and_parts (same_kind w.kind a && in_kind a w.value) (kept_fits (is_kept k x) w (given_at l x)) h in
      let q = and_parts (same_kind w.kind a) (in_kind a w.value) p.0 in
      record { kind = same_kind-is w.kind a q.0; right = q.1; kept = kept-is (is_kept k x) w (given_at l x) p.1 }

  is-fit : (x : ℕ) (a : Kind) (w : Word) → Fit k l x a w → word_fits k l x a w ≡ true
  is-fit x a w f =
      and_from (same_kind w.kind a && in_kind a w.value) (kept_fits (is_kept k x) w (given_at l x))
      (and_from (same_kind w.kind a) (in_kind a w.value) (ap (λ b. same_kind b a) f.kind ∙ same_kind-refl a) f.right)
      (is-kept (is_kept k x) w (given_at l x) f.kept)

  pub fits-length : (y : ℕ) (ks : List Kind) (ws : List Word) → words_fit k l y ks ws ≡ true → length ws ≡ length ks
  fits-length y [] [] h = refl
  fits-length y [] (w ∷ ws) h = cc
  fits-length y (a ∷ ks) [] h = cc
  fits-length y (a ∷ ks) (w ∷ ws) h = ap suc (fits-length (suc y) ks ws (and_parts (word_fits k l y a w) (words_fit k l (suc y) ks ws) h).1)

  -- word by word; past the last of them there is no word
  fits-each : (y : ℕ) (ks : List Kind) (ws : List Word) → words_fit k l y ks ws ≡ true → (x : ℕ) → x < length ks → Fit k l (y + x) (slice_index_or ks x Int) (slice_index_or ws x zero_word)
  fits-each y [] [] h x i = absurd (omega arith)
  fits-each y [] (w ∷ ws) h x i = cc
  fits-each y (a ∷ ks) [] h x i = cc
  fits-each y (a ∷ ks) (w ∷ ws) h zero i = let e : y + 0 ≡ y = omega arith in subst (λ j. Fit k l j a w) (sym e) (fit-is y a w (and_parts (word_fits k l y a w) (words_fit k l (suc y) ks ws) h).0)
  fits-each y (a ∷ ks) (w ∷ ws) h (suc x) i =
      let e : y + suc x ≡ suc y + x = omega arith in
      subst (λ j. Fit k l j (slice_index_or ks x Int) (slice_index_or ws x zero_word)) (sym e) (fits-each (suc y) ks ws (and_parts (word_fits k l y a w) (words_fit k l (suc y) ks ws) h).1 x (omega (arith, i)))

  each-fits : (y : ℕ) (ks : List Kind) (ws : List Word) → length ws ≡ length ks → ((x : ℕ) → x < length ks → Fit k l (y + x) (slice_index_or ks x Int) (slice_index_or ws x zero_word)) → words_fit k l y ks ws ≡ true
  each-fits y [] [] h f = refl
  each-fits y [] (w ∷ ws) h f = absurd (omega (arith, h))
  each-fits y (a ∷ ks) [] h f = absurd (omega (arith, h))
  each-fits y (a ∷ ks) (w ∷ ws) h f =
      let e : y + 0 ≡ y = omega arith in
      and_from (word_fits k l y a w) (words_fit k l (suc y) ks ws) (is-fit y a w (subst (λ j. Fit k l j a w) e (f 0 (omega arith))))
      (each-fits (suc y) ks ws (omega (arith, h)) (λ x i. let g : y + suc x ≡ suc y + x = omega arith in subst (λ j. Fit k l j (slice_index_or ks x Int) (slice_index_or ws x zero_word)) g (f (suc x) (omega (arith, i)))))

  pub words-each : (ws : List Word) → are_words k l ws ≡ true → (x : ℕ) → x < length (kinds k) → Fit k l x (kind_of k x) (slice_index_or ws x zero_word)
  words-each ws h x i = let e : 0 + x ≡ x = omega arith in subst (λ j. Fit k l j (kind_of k x) (slice_index_or ws x zero_word)) e (fits-each 0 (kinds k) ws h x i)

  pub each-words : (ws : List Word) → length ws ≡ length (kinds k) → ((x : ℕ) → x < length (kinds k) → Fit k l x (kind_of k x) (slice_index_or ws x zero_word)) → are_words k l ws ≡ true
  each-words ws h f = each-fits 0 (kinds k) ws h (λ x i. let e : x ≡ 0 + x = omega arith in subst (λ j. Fit k l j (kind_of k x) (slice_index_or ws x zero_word)) e (f x i))

  slots-length : (y : ℕ) (ks : List Kind) (vs : List Value) → are_slots k y ks vs ≡ true → length vs ≡ length ks
  slots-length y [] [] h = refl
  slots-length y [] (v ∷ vs) h = cc
  slots-length y (a ∷ ks) [] h = cc
  slots-length y (a ∷ ks) (v ∷ vs) h = ap suc (slots-length (suc y) ks vs (and_parts (is_slot k y a v) (are_slots k (suc y) ks vs) h).1)

  slots-each : (y : ℕ) (ks : List Kind) (vs : List Value) → are_slots k y ks vs ≡ true → (x : ℕ) → x < length ks → is_slot k (y + x) (slice_index_or ks x Int) (slice_index_or vs x no_value) ≡ true
  slots-each y [] [] h x i = absurd (omega arith)
  slots-each y [] (v ∷ vs) h x i = cc
  slots-each y (a ∷ ks) [] h x i = cc
  slots-each y (a ∷ ks) (v ∷ vs) h zero i = let e : y + 0 ≡ y = omega arith in subst (λ j. is_slot k j a v ≡ true) (sym e) (and_parts (is_slot k y a v) (are_slots k (suc y) ks vs) h).0
  slots-each y (a ∷ ks) (v ∷ vs) h (suc x) i =
      let e : y + suc x ≡ suc y + x = omega arith in
      subst (λ j. is_slot k j (slice_index_or ks x Int) (slice_index_or vs x no_value) ≡ true) (sym e) (slots-each (suc y) ks vs (and_parts (is_slot k y a v) (are_slots k (suc y) ks vs) h).1 x (omega (arith, i)))

either-true : (a b : Bool) → (not a || b) ≡ true → a ≡ true → b ≡ true
either-true true b h e = h
either-true false b h e = cc

-- of an argument's form the value is the argument
argument-value : (v : ℕ → ℤ) (x : ℕ) (ts : List (Weighted ℕ)) (z : ℤ) → is_argument_term x ts ≡ true → z ≡ pos 0 → value_of v (record { terms = ts; constant = z }) ≡ v (number (ArgumentOf x))
argument-value v x [] z h e = cc
argument-value v x (t ∷ []) z h e =
    let p = and_parts (int_eq t.coefficient (pos 1)) (nat_eq t.symbol (number (ArgumentOf x))) h in
    let c = int_eq-is t.coefficient (pos 1) p.0 in
    let s = ap v (nat_eq-is t.symbol (number (ArgumentOf x)) p.1) in
    ap (λ (y : ℤ). (y *ℤ v t.symbol +ℤ pos 0) +ℤ z) c ∙ omega (arith, ints, e, s)
argument-value v x (t ∷ (u ∷ ts)) z h e = cc

-- the words behind forms that a place is reached with
pub slots-are_words : {E : Type 0} (c : View E) (news : List ℤ) (ws : List Word) (vs : List Value) → AreForms c news ws vs → are_slots c.kernel 0 (kinds c.kernel) vs ≡ true → are_words c.kernel c.launch ws ≡ true
slots-are_words c news ws vs f h = each-words c.kernel c.launch ws (f.lengths ∙ slots-length c.kernel c.launch 0 (kinds c.kernel) vs h) (λ x i.
    let a = kind_of c.kernel x in
    let w = slice_index_or ws x zero_word in
    let v = slice_index_or vs x no_value in
    let e : 0 + x ≡ x = omega arith in
    let s : is_slot c.kernel x a v ≡ true = subst (λ j. is_slot c.kernel j a v ≡ true) e (slots-each c.kernel c.launch 0 (kinds c.kernel) vs h x i) in
    let p = and_parts (same_kind v.kind a) (not (is_kept c.kernel x) || is_argument x v.form) s in
    let kind : w.kind ≡ a = sym (f.each x).kind ∙ same_kind-is v.kind a p.0 in
    record {
      kind = kind;
      right = subst (λ b. in_kind b w.value ≡ true) kind (f.right x);
      kept = λ t.
          let q = and_parts (is_argument_term x v.form.terms) (int_eq v.form.constant (pos 0)) (either-true (is_kept c.kernel x) (is_argument x v.form) p.1 t) in
          let m = by_number (own c news) in
          sym ((f.each x).form.means m (agrees_itself c news)) ∙ argument-value m x v.form.terms v.form.constant q.0 (int_eq-is v.form.constant (pos 0) q.1) ∙ (agrees_itself c news).given x;
    })
