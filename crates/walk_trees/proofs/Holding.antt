-- What a domain holds on an item's path is so: the element of each symbol has its number.
use Rattle.std.proofs.Common.{◌≡◌, ◌%◌, ◌/◌, ◌≢◌, ℕ, zero, suc, ◌<◌, ◌≤◌, Bool, true, false, cond, nat_eq, ◌&&◌, List, [], ◌∷◌, ◌++◌, length, slice_index_or, Option, Some, None, arith, refl, sym, ap, ◌∙◌, subst, inl, inr}
use Rattle.std.specs.Prelude.{ℤ, pos, negsuc, ◌+ℤ◌, ◌*ℤ◌, neg_ℤ, ◌≤ℤ◌, ◌⊎◌, int_le}
use Rattle.std.specs.Ordering.{int_eq}
use Rattle.std.proofs.lemmas.Int.{ints}
use Rattle.std.proofs.lemmas.Bool.{and_parts}
use Rattle.std.proofs.lemmas.Bool.Decides.{nat_tests, Decides-int_eq}
use lib.Seq.{get_or-append_seam}
use Rattle.semantics.specs.Setup.{local_id, group_id}
use Rattle.linear.specs.Linear.{Weighted, terms_value, value_of}
use Rattle.linear.specs.Exact.{Terms, without, form_without, fits_i64}
use Rattle.linear.proofs.Merging.{IsRising}
use Rattle.domain.specs.declared.Domain.{Ghosts}
use Rattle.domain.specs.Members.{is_above, is_below}
use Rattle.linear.specs.Products.{factors, value_of_factors}
use Rattle.semantics.proofs.Integers.{mul_assoc}
use Rattle.facts.specs.Symbols as symbols
use Rattle.facts.specs.Symbols.{First, Second, Symbol, ArgumentOf, Length, Local, Group, New, Variable, AtAnchor, Turns, number, of_family, symbol_of, Fact}
use Rattle.facts.specs.Elements.{Known, Elements, element, is_from_zero}
use Rattle.facts.specs.Launching.{known}
use Rattle.facts.proofs.Integers.{le_test}
use Rattle.facts.proofs.Members.{Lawful, by_number, plain_number, numbered}
use Rattle.facts.proofs.Fitting.{members}
use Rattle.facts.proofs.Worlds.{View, setup, Agrees, Means, own, agrees_itself, agrees_before, agrees_new}
use Rattle.walk_trees.proofs.Each.{Has}
use Rattle.walk_trees.specs.Held.{Narrowed, Held, no_held, with_new, with_narrowed, latest, element_held, terms_with, element_with, element_at, from_below, from_above, narrowed_by, narrow_one, narrow_terms, narrow, is_settled_at, element_of_own, element_number, elements_from, elements_of_factors}

-- a form with rising symbols is one of its terms and the form without its symbol
same_number : (a b : ℕ) → a ≡ b → nat_eq a b ≡ true
same_number a b h = grind (arith, nat_tests)

other_number : (a b : ℕ) → a < b → nat_eq a b ≡ false
other_number a b h = grind (arith, nat_tests)

is_same : (a b : ℕ) → nat_eq a b ≡ true → a ≡ b
is_same a b h = grind (arith, nat_tests)

without_beyond : (s n : ℕ) (ts : Terms) → s < n → IsRising n ts → without s ts ≡ ts
without_beyond s n [] h r = refl
without_beyond s n (t ∷ ts) h r = rw (above t.symbol s (omega (arith, r.0))) (ap (λ us. t ∷ us) (without_beyond s (suc t.symbol) ts (omega (arith, r.0)) r.2))
  where
    above : (a b : ℕ) → b < a → nat_eq a b ≡ false
    above a b l = grind (arith, nat_tests)

is_above_least : (n : ℕ) (ts : Terms) (t : Weighted ℕ) → IsRising n ts → Has t ts → n ≤ t.symbol
is_above_least n [] t r h = absurd h
is_above_least n (u ∷ ts) t r (inl e) = subst (λ (x : Weighted ℕ). n ≤ x.symbol) (sym e) r.0
is_above_least n (u ∷ ts) t r (inr h) = let l = is_above_least (suc u.symbol) ts t r.2 h in omega (arith, r.0, l)

abbrev IsPart : (ℕ → ℤ) → Terms → Weighted ℕ → Type 0
IsPart v ts t = terms_value v ts ≡ t.coefficient *ℤ v t.symbol +ℤ terms_value v (without t.symbol ts)

part_of : (v : ℕ → ℤ) (n : ℕ) (ts : Terms) (t : Weighted ℕ) → IsRising n ts → Has t ts → IsPart v ts t
part_of v n [] t r h = absurd h
part_of v n (u ∷ ts) t r (inl e) = subst (IsPart v (u ∷ ts)) (sym e) (rw (same_number u.symbol u.symbol refl, without_beyond u.symbol (suc u.symbol) ts (omega arith) r.2) refl)
part_of v n (u ∷ ts) t r (inr h) =
    let l = is_above_least (suc u.symbol) ts t r.2 h in
    rw (other_number u.symbol t.symbol (omega (arith, l))) (omega (arith, ints, part_of v (suc u.symbol) ts t r.2 h))

-- the latest element of a symbol
latest-append : {E : Type 0} (found : E) (ns : List (Narrowed E)) (m : Narrowed E) (s : ℕ) → latest found (ns ++ m ∷ []) s ≡ cond (nat_eq m.symbol s) m.element (latest found ns s)
latest-append found [] m s = refl
latest-append found (n ∷ ns) m s = latest-append (cond (nat_eq n.symbol s) n.element found) ns m s

latest-has : {E : Type 0} (g : Ghosts E) (found other : E) (ns : List (Narrowed E)) (s : ℕ) (z : ℤ) → g.has other z ≡ true → g.has (latest found ns s) z ≡ true → g.has (latest other ns s) z ≡ true
latest-has g found other [] s z h k = h
latest-has g found other (n ∷ ns) s z h k = by (nat_eq n.symbol s) (latest-has g found other ns s z h) k
  where
    by : (b : Bool) → (g.has (latest found ns s) z ≡ true → g.has (latest other ns s) z ≡ true) → g.has (latest (cond b n.element found) ns s) z ≡ true → g.has (latest (cond b n.element other) ns s) z ≡ true
    by true later k = k
    by false later k = later k

chosen-has : {E : Type 0} (g : Ghosts E) (b : Bool) (x y : E) (z : ℤ) → (b ≡ true → g.has x z ≡ true) → g.has y z ≡ true → g.has (cond b x y) z ≡ true
chosen-has g true x y z h k = h refl
chosen-has g false x y z h k = k

append-at : {A : Type 0} (xs : List A) (y d : A) (k : ℕ) → (slice_index_or (xs ++ y ∷ []) k d ≡ slice_index_or xs k d) ⊎ (k ≡ length xs)
append-at [] y d zero = inr refl
append-at [] y d (suc k) = inl refl
append-at (x ∷ xs) y d zero = inl refl
append-at (x ∷ xs) y d (suc k) = elim (append-at xs y d k) [ inl e ↦ inl e | inr e ↦ inr (ap suc e) ]

-- elements of forms have their values
module _ {E : Type 0} (g : Ghosts E) (laws : Lawful g) (at : ℕ → E) (v : ℕ → ℤ) (each : (n : ℕ) → g.has (at n) (v n) ≡ true) where
  terms_with-has : (so_far : E) (z : ℤ) (ts : Terms) → g.has so_far z ≡ true → g.has (terms_with g at so_far ts) (z +ℤ terms_value v ts) ≡ true
  terms_with-has so_far z [] h = subst (λ y. g.has so_far y ≡ true) (omega (arith, ints)) h
  terms_with-has so_far z (t ∷ ts) h =
      let x = t.coefficient *ℤ v t.symbol in
      let next = g.add_of so_far (g.mul_of (g.number_of t.coefficient) (at t.symbol)) in
      let one = laws.add so_far (g.mul_of (g.number_of t.coefficient) (at t.symbol)) z x h (laws.mul (g.number_of t.coefficient) (at t.symbol) t.coefficient (v t.symbol) (laws.number t.coefficient) (each t.symbol)) in
      subst (λ y. g.has (terms_with g at next ts) y ≡ true) (omega (arith, ints)) (terms_with-has next (z +ℤ x) ts one)

  pub element_with-has : (f : Fact) → g.has (element_with g at f) (value_of v f) ≡ true
  element_with-has f = subst (λ y. g.has (element_with g at f) y ≡ true) (omega (arith, ints)) (terms_with-has (g.number_of f.constant) f.constant f.terms (laws.number f.constant))

abbrev pub known_of : {E : Type 0} → View E → Known E
known_of c = known c.domain c.kernel.sizes c.conditions

-- numbers of symbols that agree with those of an item; the ids of a second item are its own
pub record Suits {E : Type 0} (c : View E) (news : List ℤ) (m : Symbol → ℤ) : Type 0 where
  pub agrees : Agrees c news (by_number m)
  pub local : (d : ℕ) → m (Local Second d) ≡ pos (local_id (setup c) c.item d)
  pub group : (d : ℕ) → m (Group Second d) ≡ pos (group_id (setup c) c.item d)

-- what is held is so of all numbers that agree, and so it stays as new symbols come
abbrev pub IsHeld : {E : Type 0} → View E → List ℤ → Held E → Type 0
IsHeld c news h = (m : Symbol → ℤ) → Suits c news m → (n : ℕ) → c.domain.has (element_held c.domain (known_of c) h n) (by_number m n) ≡ true

-- of the item's own numbers
abbrev pub Fits : {E : Type 0} → View E → List ℤ → Held E → Type 0
Fits c news h = (n : ℕ) → c.domain.has (element_held c.domain (known_of c) h n) (by_number (own c news) n) ≡ true

pub suits_itself : {E : Type 0} (c : View E) (news : List ℤ) → Suits c news (own c news)
suits_itself c news = record { agrees = agrees_itself c news; local = λ d. refl; group = λ d. refl }

pub fits_itself : {E : Type 0} (c : View E) (news : List ℤ) (h : Held E) → IsHeld c news h → Fits c news h
fits_itself c news h k = k (own c news) (suits_itself c news)

-- of the number of a product nothing is known by itself
of_product : {E : Type 0} (g : Ghosts E) (e : Elements E) (n : ℕ) → n % 16 ≡ 15 → element g e (symbol_of n) ≡ g.top_of
unfolding symbol_of
of_product g e n h = ap (λ f. element g e (of_family f (n / 16))) h

module _ {E : Type 0} (c : View E) where
  by_symbol : (m : Symbol → ℤ) (s : Symbol) (z : ℤ) (e : E) → by_number m (number s) ≡ z → c.domain.has e z ≡ true → c.domain.has e (m s) ≡ true
  by_symbol m s z e same h = subst (λ y. c.domain.has e y ≡ true) (sym same ∙ numbered m s) h

  abbrev at : Symbol → E
  at s = element c.domain (record { known = known_of c; first = []; second = [] }) s

  opening-has : (m : Symbol → ℤ) → Suits c [] m → (s : Symbol) → c.domain.has (at s) (m s) ≡ true
  opening-has m u s = by s
    where
      given : (s : Symbol) → c.domain.has (at s) (own c [] s) ≡ true
      given s = members c.walked c.item c.item c.root c.root c.place c.place [] [] [] [] tt tt s

      by : (s : Symbol) → c.domain.has (at s) (m s) ≡ true
      by (symbols.Groups d) = by_symbol m (symbols.Groups d) _ (at (symbols.Groups d)) (u.agrees.groups d) (given (symbols.Groups d))
      by (ArgumentOf n) = by_symbol m (ArgumentOf n) _ (at (ArgumentOf n)) (u.agrees.given n) (given (ArgumentOf n))
      by (Length b) = by_symbol m (Length b) _ (at (Length b)) (u.agrees.lengths b) (given (Length b))
      by (Local First d) = by_symbol m (Local First d) _ (at (Local First d)) (u.agrees.local d) (given (Local First d))
      by (Local Second d) = subst (λ y. c.domain.has (at (Local Second d)) y ≡ true) (sym (u.local d)) (given (Local Second d))
      by (Group First d) = by_symbol m (Group First d) _ (at (Group First d)) (u.agrees.group d) (given (Group First d))
      by (Group Second d) = subst (λ y. c.domain.has (at (Group Second d)) y ≡ true) (sym (u.group d)) (given (Group Second d))
      by (New First k) = c.lawful.top (m (New First k))
      by (New Second k) = c.lawful.top (m (New Second k))
      by (Variable w x) = c.lawful.top (m (Variable w x))
      by (AtAnchor w x) = c.lawful.top (m (AtAnchor w x))
      by (Turns w k) = c.lawful.top (m (Turns w k))

  pub held_opening : IsHeld c [] no_held
  held_opening m u n = opened m u n (nat_eq (n % 16) 15) refl
    where
      opened : (m : Symbol → ℤ) → Suits c [] m → (n : ℕ) (b : Bool) → nat_eq (n % 16) 15 ≡ b → c.domain.has (at (symbol_of n)) (by_number m n) ≡ true
      opened m u n true t =
          let l : n % 16 ≡ 15 = grind (arith, nat_tests) in
          subst (λ x. c.domain.has x (by_number m n) ≡ true) (sym (of_product c.domain (record { known = known_of c; first = []; second = [] }) n l)) (c.lawful.top (by_number m n))
      opened m u n false t =
          let l : n % 16 ≢ 15 = grind (arith, nat_tests) in
          subst (λ y. c.domain.has (at (symbol_of n)) y ≡ true) (sym (plain_number m n l)) (opening-has m u (symbol_of n))

  -- one more new symbol, whose number is a member of its element
  grown : (es : List E) (e : E) (m : Symbol → ℤ) (s : Symbol) → c.domain.has e (m (New First (length es))) ≡ true →
      (element c.domain (record { known = known_of c; first = es ++ e ∷ []; second = [] }) s ≡ element c.domain (record { known = known_of c; first = es; second = [] }) s)
      ⊎ (c.domain.has (element c.domain (record { known = known_of c; first = es ++ e ∷ []; second = [] }) s) (m s) ≡ true)
  grown es e m (symbols.Groups d) h = inl refl
  grown es e m (ArgumentOf n) h = inl refl
  grown es e m (Length b) h = inl refl
  grown es e m (Local w d) h = inl refl
  grown es e m (Group w d) h = inl refl
  grown es e m (New First k) h = elim (append-at es e c.domain.top_of k) [
    | inl p ↦ inl p
    | inr p ↦ inr (subst (λ j. c.domain.has (slice_index_or (es ++ e ∷ []) j c.domain.top_of) (m (New First j)) ≡ true) (sym p) (subst (λ x. c.domain.has x (m (New First (length es))) ≡ true) (sym (get_or-append_seam es e [] c.domain.top_of)) h))
  ]
  grown es e m (New Second k) h = inl refl
  grown es e m (Variable w x) h = inl refl
  grown es e m (AtAnchor w x) h = inl refl
  grown es e m (Turns w k) h = inl refl

  suits_before : (news : List ℤ) (z : ℤ) (m : Symbol → ℤ) → Suits c (news ++ z ∷ []) m → Suits c news m
  suits_before news z m u = record { agrees = agrees_before c news z (by_number m) u.agrees; local = u.local; group = u.group }

  abbrev found : List E → ℕ → E
  found es n = element c.domain (record { known = known_of c; first = es; second = [] }) (symbol_of n)

  abbrev IsIn : Held E → (Symbol → ℤ) → ℕ → E → Type 0
  IsIn h m n x = c.domain.has (latest x h.narrowed n) (by_number m n) ≡ true

  anew : (h : Held E) (e : E) (m : Symbol → ℤ) (n : ℕ) (b : Bool) → nat_eq (n % 16) 15 ≡ b → c.domain.has e (m (New First (length h.news))) ≡ true → IsIn h m n (found h.news n) → IsIn h m n (found (h.news ++ e ∷ []) n)
  anew h e m n true t i before =
      let l : n % 16 ≡ 15 = grind (arith, nat_tests) in
      subst (IsIn h m n) (of_product c.domain (record { known = known_of c; first = h.news; second = [] }) n l ∙ sym (of_product c.domain (record { known = known_of c; first = h.news ++ e ∷ []; second = [] }) n l)) before
  anew h e m n false t i before =
      let l : n % 16 ≢ 15 = grind (arith, nat_tests) in
      elim (grown h.news e m (symbol_of n) i) [
        | inl p ↦ subst (IsIn h m n) (sym p) before
        | inr p ↦ latest-has c.domain (found h.news n) (found (h.news ++ e ∷ []) n) h.narrowed n (by_number m n) (subst (λ y. c.domain.has (found (h.news ++ e ∷ []) n) y ≡ true) (sym (plain_number m n l)) p) before
      ]

  pub held_anew : (news : List ℤ) (h : Held E) (z : ℤ) (e : E) → length news ≡ length h.news → c.domain.has e z ≡ true → IsHeld c news h → IsHeld c (news ++ z ∷ []) (with_new e h)
  held_anew news h z e l i k m u n =
      let new : m (New First (length h.news)) ≡ z = sym (numbered m (New First (length h.news))) ∙ ap (λ j. by_number m (number (New First j))) (sym l) ∙ agrees_new c news z (by_number m) u.agrees in
      let before = k m (suits_before news z m u) n in
      anew h e m n (nat_eq (n % 16) 15) refl (subst (λ y. c.domain.has e y ≡ true) (sym new) i) before

  module _ (h : Held E) (m : Symbol → ℤ) (held : (n : ℕ) → c.domain.has (element_held c.domain (known_of c) h n) (by_number m n) ≡ true) where
    abbrev own_number : ℕ → ℤ
    own_number n = m (symbol_of n)

    abbrev of_own : ℕ → E
    of_own = element_of_own c.domain (known_of c) h

    own-has : (n : ℕ) (b : Bool) → nat_eq (n % 16) 15 ≡ b → c.domain.has (cond b c.domain.top_of (element_held c.domain (known_of c) h n)) (own_number n) ≡ true
    own-has n true e = c.lawful.top (own_number n)
    own-has n false e = (let o : n % 16 ≢ 15 = grind (arith, nat_tests) in subst (λ z. c.domain.has (element_held c.domain (known_of c) h n) z ≡ true) (plain_number m n o) (held n))

    from-has : (so_far : E) (z : ℤ) (ns : List ℕ) → c.domain.has so_far z ≡ true → c.domain.has (elements_from c.domain of_own so_far ns) (z *ℤ value_of_factors own_number ns) ≡ true
    from-has so_far z [] i = subst (λ y. c.domain.has so_far y ≡ true) (omega (arith, ints)) i
    from-has so_far z (n ∷ ns) i =
        let next = c.domain.mul_of so_far (of_own n) in
        subst (λ y. c.domain.has (elements_from c.domain of_own next ns) y ≡ true) (mul_assoc z (own_number n) (value_of_factors own_number ns)) (from-has next (z *ℤ own_number n) ns (c.lawful.mul so_far (of_own n) z (own_number n) i (own-has n (nat_eq (n % 16) 15) refl)))

    factors-has : (ns : List ℕ) → c.domain.has (elements_of_factors c.domain of_own ns) (value_of_factors own_number ns) ≡ true
    factors-has [] = c.lawful.number (pos 1)
    factors-has (n ∷ ns) = from-has (of_own n) (own_number n) ns (own-has n (nat_eq (n % 16) 15) refl)

    number-chosen : (n : ℕ) (b : Bool) → c.domain.has (cond b (latest (elements_of_factors c.domain of_own (factors n)) h.narrowed n) (element_held c.domain (known_of c) h n)) (by_number m n) ≡ true
    number-chosen n true = latest-has c.domain (found h.news n) (elements_of_factors c.domain of_own (factors n)) h.narrowed n (by_number m n) (factors-has (factors n)) (held n)
    number-chosen n false = held n

    number-has : (n : ℕ) → c.domain.has (element_number c.domain (known_of c) h n) (by_number m n) ≡ true
    number-has n = number-chosen n (nat_eq (n % 16) 15)

  -- the value of a form is a member of its element
  value-has : (news : List ℤ) (h : Held E) (m : Symbol → ℤ) → Suits c news m → IsHeld c news h → (f : Fact) → c.domain.has (element_at c.domain (known_of c) h f) (value_of (by_number m) f) ≡ true
  value-has news h m u k f = element_with-has c.domain c.lawful (element_number c.domain (known_of c) h) (by_number m) (number-has h m (k m u)) f

  pub form-has : (news : List ℤ) (h : Held E) (f : Fact) (z : ℤ) → IsHeld c news h → Means c news f z → c.domain.has (element_at c.domain (known_of c) h f) z ≡ true
  form-has news h f z k means = subst (λ y. c.domain.has (element_at c.domain (known_of c) h f) y ≡ true) (means (by_number (own c news)) (agrees_itself c news)) (value-has news h (own c news) (suits_itself c news) k f)

  -- narrowed to what a symbol's number is a member of
  pub narrowed-held : (news : List ℤ) (h : Held E) (s : ℕ) (e : E) → ((m : Symbol → ℤ) → Suits c news m → c.domain.has e (by_number m s) ≡ true) → IsHeld c news h → IsHeld c news (with_narrowed s e h)
  narrowed-held news h s e i k m u n =
      let found = element c.domain (record { known = known_of c; first = h.news; second = [] }) (symbol_of n) in
      subst (λ x. c.domain.has x (by_number m n) ≡ true) (sym (latest-append found h.narrowed (record { symbol = s; element = e }) n))
      (chosen-has c.domain (nat_eq s n) e (latest found h.narrowed n) (by_number m n) (λ q. subst (λ j. c.domain.has e (by_number m j) ≡ true) (is_same s n q) (i m u)) (k m u n))

  -- a symbol of which the form is at least 0 takes the bound that the rest leaves
  below-held : (b : Bool) (news : List ℤ) (h : Held E) (s : ℕ) (e : E) (low : ℤ) → (b ≡ true → (m : Symbol → ℤ) → Suits c news m → low ≤ℤ by_number m s) → ((m : Symbol → ℤ) → Suits c news m → c.domain.has e (by_number m s) ≡ true) → IsHeld c news h → IsHeld c news (from_below c.domain b s e low h)
  below-held true news h s e low l i k = narrowed-held news h s (c.domain.at_least_of e low) (λ m u. c.lawful.at_least e low (by_number m s) (i m u) (l refl m u)) k
  below-held false news h s e low l i k = k

  above-held : (b : Bool) (news : List ℤ) (h : Held E) (s : ℕ) (e : E) (high : ℤ) → (b ≡ true → (m : Symbol → ℤ) → Suits c news m → by_number m s ≤ℤ high) → ((m : Symbol → ℤ) → Suits c news m → c.domain.has e (by_number m s) ≡ true) → IsHeld c news h → IsHeld c news (from_above c.domain b s e high h)
  above-held true news h s e high l i k = narrowed-held news h s (c.domain.at_most_of e high) (λ m u. c.lawful.at_most e high (by_number m s) (i m u) (l refl m u)) k
  above-held false news h s e high l i k = k

  -- one term's symbol, where the rest of the form has that end
  abbrev Leaves : (news : List ℤ) (coefficient : ℤ) (s : ℕ) (o : Option ℤ) → (Symbol → ℤ) → Type 0
  Leaves news co s o m = (y : ℤ) × (is_below o y ≡ true) × (pos 0 ≤ℤ (co *ℤ by_number m s +ℤ y))

  from_one : (co x y high : ℤ) → co ≡ pos 1 → int_le y high ≡ true → pos 0 ≤ℤ (co *ℤ x +ℤ y) → neg_ℤ high ≤ℤ x
  from_one co x y high e h k =
      let l = le_test y high h in
      let one = ap (λ z. z *ℤ x) e in
      omega (arith, ints, l, one, k)

  from_minus : (co x y high : ℤ) → co ≡ negsuc 0 → int_le y high ≡ true → pos 0 ≤ℤ (co *ℤ x +ℤ y) → x ≤ℤ high
  from_minus co x y high e h k =
      let l = le_test y high h in
      let one = ap (λ z. z *ℤ x) e in
      omega (arith, ints, l, one, k)

  by-held : (news : List ℤ) (h : Held E) (co : ℤ) (s : ℕ) (e : E) (o : Option ℤ) → ((m : Symbol → ℤ) → Suits c news m → c.domain.has e (by_number m s) ≡ true) → ((m : Symbol → ℤ) → Suits c news m → Leaves news co s o m) → IsHeld c news h → IsHeld c news (narrowed_by c.domain co s e o h)
  by-held news h co s e None i l k = k
  by-held news h co s e (Some high) i l k =
      above-held (int_eq co (negsuc 0)) news (from_below c.domain (int_eq co (pos 1) && fits_i64 (neg_ℤ high)) s e (neg_ℤ high) h) s e high
      (λ q m u. let w = l m u in from_minus co (by_number m s) w.0 high ((Decides-int_eq co (negsuc 0)).0 q) w.1 w.2) i
      (below-held (int_eq co (pos 1) && fits_i64 (neg_ℤ high)) news h s e (neg_ℤ high)
      (λ q m u. let w = l m u in from_one co (by_number m s) w.0 high ((Decides-int_eq co (pos 1)).0 (and_parts (int_eq co (pos 1)) (fits_i64 (neg_ℤ high)) q).0) w.1 w.2) i k)

  one-held : (news : List ℤ) (f : Fact) (t : Weighted ℕ) (h : Held E) → IsRising 0 f.terms → Has t f.terms → ((v : ℕ → ℤ) → Agrees c news v → pos 0 ≤ℤ value_of v f) → IsHeld c news h → IsHeld c news (narrow_one c.domain (known_of c) f t h)
  one-held news f t h r here met k =
      let rest = form_without t.symbol f in
      let b = c.domain.bounds_of (element_at c.domain (known_of c) h rest) in
      by-held news h t.coefficient t.symbol (element_number c.domain (known_of c) h t.symbol) b.high (λ m u. number-has h m (k m u) t.symbol)
      (λ m u.
      let y = value_of (by_number m) rest in
      (y, (and_parts (is_above b.low y) (is_below b.high y) (c.lawful.bounds (element_at c.domain (known_of c) h rest) y (value-has news h m u k rest))).1, omega (arith, ints, met (by_number m) u.agrees, part_of (by_number m) 0 f.terms t r here))) k

  terms-held : (news : List ℤ) (f : Fact) (ts : Terms) (h : Held E) → IsRising 0 f.terms → ((t : Weighted ℕ) → Has t ts → Has t f.terms) → ((v : ℕ → ℤ) → Agrees c news v → pos 0 ≤ℤ value_of v f) → IsHeld c news h → IsHeld c news (narrow_terms c.domain (known_of c) f ts h)
  terms-held news f [] h r here met k = k
  terms-held news f (t ∷ ts) h r here met k = terms-held news f ts (narrow_one c.domain (known_of c) f t h) r (λ u i. here u (inr i)) met (one-held news f t h r (here t (inl refl)) met k)

  -- a fact of the item narrows what is held
  pub held_narrow : (news : List ℤ) (f : Fact) (h : Held E) → IsRising 0 f.terms → ((v : ℕ → ℤ) → Agrees c news v → pos 0 ≤ℤ value_of v f) → IsHeld c news h → IsHeld c news (narrow c.domain (known_of c) f h)
  held_narrow news f h r met k = terms-held news f f.terms h r (λ t i. i) met k

  at_least_zero : (o : Option ℤ) (z : ℤ) → is_from_zero o ≡ true → is_above o z ≡ true → pos 0 ≤ℤ z
  at_least_zero None z h a = cc
  at_least_zero (Some low) z h a = omega (arith, ints, le_test (pos 0) low h, le_test low z a)

  -- the domain settles that a form is at least 0
  pub held_settles : (news : List ℤ) (h : Held E) (f : Fact) (z : ℤ) → IsHeld c news h → Means c news f z → is_settled_at c.domain (known_of c) h f ≡ true → pos 0 ≤ℤ z
  held_settles news h f z k means e =
      let x = element_at c.domain (known_of c) h f in
      let b = c.domain.bounds_of x in
      at_least_zero b.low z e (and_parts (is_above b.low z) (is_below b.high z) (c.lawful.bounds x z (form-has news h f z k means))).0

-- narrowing keeps the new symbols
news-above : {E : Type 0} (g : Ghosts E) (b : Bool) (s : ℕ) (e : E) (high : ℤ) (h : Held E) → (from_above g b s e high h).news ≡ h.news
news-above g true s e high h = refl
news-above g false s e high h = refl

news-below : {E : Type 0} (g : Ghosts E) (b : Bool) (s : ℕ) (e : E) (low : ℤ) (h : Held E) → (from_below g b s e low h).news ≡ h.news
news-below g true s e low h = refl
news-below g false s e low h = refl

news-by : {E : Type 0} (g : Ghosts E) (co : ℤ) (s : ℕ) (e : E) (o : Option ℤ) (h : Held E) → (narrowed_by g co s e o h).news ≡ h.news
news-by g co s e None h = refl
news-by g co s e (Some high) h = news-above g (int_eq co (negsuc 0)) s e high _ ∙ news-below g (int_eq co (pos 1) && fits_i64 (neg_ℤ high)) s e (neg_ℤ high) h

news-terms : {E : Type 0} (g : Ghosts E) (k : Known E) (f : Fact) (ts : Terms) (h : Held E) → (narrow_terms g k f ts h).news ≡ h.news
news-terms g k f [] h = refl
news-terms g k f (t ∷ ts) h = news-terms g k f ts (narrow_one g k f t h) ∙ news-by g t.coefficient t.symbol _ _ h

pub news-narrow : {E : Type 0} (g : Ghosts E) (k : Known E) (f : Fact) (h : Held E) → (narrow g k f h).news ≡ h.news
news-narrow g k f h = news-terms g k f f.terms h
