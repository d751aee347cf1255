-- Trees without tests of which all forms are small, and whose claims of ranges are settled or have an entry.
use Rattle.std.proofs.Common.{◌≡◌, ℕ, suc, ◌+◌, ◌≤◌, Bool, true, false, List, [], ◌∷◌, ◌⊎◌, inl, inr, arith, refl, sym, ap, subst, ◌∙◌}
use Rattle.std.specs.Prelude.{◌&&◌, ◌||◌}
use Rattle.std.proofs.lemmas.Bool.{and_parts}
use Rattle.semantics.specs.Word.{Uint}
use Rattle.linear.proofs.Sizes.{size_difference}
use Rattle.facts.specs.Symbols.{Fact, minus}
use Rattle.arrivals.specs.Trees.{AtEnd}
use Rattle.walk_trees.specs.Trees.{OfRange, Goal, AtLeastZero, Either, Replaced, Divided, Tree, Leaf, Dead, Claim, Know, Touch, Fork}
use Rattle.walk_trees.specs.Values.{value}
use Rattle.walk_trees.specs.Walks.{demand, Setting, State, Onward, settles, claimed_once, ranged, kept_or_new, in_range, is_kept, low_end, high_end}
use Rattle.linear.specs.Sizes.{size}

-- forms that are small: no sum of a few of them leaves i64
abbrev pub most : ℕ
most = 35184372088832

abbrev pub IsSmall : Fact → Type 0
IsSmall f = size f ≤ most

pub less : (f g : Fact) (n : ℕ) → size f + size g ≤ n → size (minus f g) ≤ n
less f g n h = omega (arith, size_difference f g, h)

abbrev pub IsSmallGoal : Goal → Type 0
IsSmallGoal (AtLeastZero f) = IsSmall f
IsSmallGoal (Either p n) = IsSmall p × IsSmall n
IsSmallGoal (Replaced made f) = ⊥
IsSmallGoal (Divided made f) = ⊥

-- a claim of a range is settled, or has an entry where it is needed, and then a value is an `int` parameter
abbrev pub IsRight : (has_entry : ℕ → Bool) (signed : Type 0) (range : Bool) (number : ℕ) (needed settled : Bool) → Type 0
IsRight h signed false n needed settled = Unit {0}
IsRight h signed true n needed settled = (settled ≡ true) ⊎ ((needed ≡ true → h n ≡ true) × signed)

-- claims from the number after n on, marked where they are of ranges; the one path leads to the kernel's end
abbrev pub IsTame : {E : Type 0} (has_entry : ℕ → Bool) (signed : Type 0) (ranges : List Bool) (n : ℕ) → Tree E → Type 0
IsTame h signed rs n (Leaf e) = (rs ≡ []) × (e.stop ≡ AtEnd)
IsTame h signed rs n Dead = ⊥
IsTame h signed [] n (Claim o needed settled g rest) = ⊥
IsTame h signed (r ∷ rs) n (Claim o needed settled g rest) = IsSmallGoal g × IsRight h signed r (suc n) needed settled × IsTame h signed rs (suc n) rest
IsTame h signed rs n (Know f rest) = IsSmall f × IsTame h signed rs n rest
IsTame h signed rs n (Touch t i d rest) = IsSmall i × IsTame h signed rs n rest
IsTame h signed rs n (Fork first second) = ⊥

asked_low : (p q x y : Bool) → (p ≡ true) ⊎ (((p || x) && (q || y)) ≡ true → x ≡ true)
asked_low true q x y = inl refl
asked_low false q x y = inr (λ e. (and_parts x (q || y) e).0)

asked_high : (p q x y : Bool) → (q ≡ true) ⊎ (((p || x) && (q || y)) ≡ true → y ≡ true)
asked_high p true x y = inl refl
asked_high p false x y = inr (λ e. (and_parts (p || x) y e).1)

right : {p b x y : Bool} {S : Type 0} → (p ≡ true) ⊎ (b ≡ true → x ≡ true) → x ≡ y → S → (p ≡ true) ⊎ ((b ≡ true → y ≡ true) × S)
right (inl e) x s = inl e
right (inr f) x s = inr ((λ e. sym x ∙ f e), s)

module _ {E : Type 0} (s : Setting E) where
  kept : (f : Fact) (st : State E) → settles s st (low_end Uint f) ≡ true → settles s st (high_end Uint f) ≡ true → is_kept s f st ≡ true
  kept f st p q = rw (p, q) refl

  -- both ends are settled
  range-settled : (f : Fact) (st : State E) (go : Onward E) → settles s st (low_end Uint f) ≡ true → settles s st (high_end Uint f) ≡ true →
      ranged s Uint f st go ≡ Claim (demand (OfRange Uint) st) true true (AtLeastZero (low_end Uint f)) (Claim (demand (OfRange Uint) st) true true (AtLeastZero (high_end Uint f)) (go (value Uint f) (claimed_once (claimed_once st))))
  range-settled f st go p q =
      ap (λ b. in_range s b Uint f st (λ st'. kept_or_new s b f st' go)) (kept f st p q)
      ∙ (λ i. Claim (demand (OfRange Uint) st) true (p i) (AtLeastZero (low_end Uint f)) (Claim (demand (OfRange Uint) st) true (q i) (AtLeastZero (high_end Uint f)) (go (value Uint f) (claimed_once (claimed_once st)))))

  pub range-tame : (h : ℕ → Bool) (signed : Type 0) (rs : List Bool) (f : Fact) (st : State E) (go : Onward E) → settles s st (low_end Uint f) ≡ true → settles s st (high_end Uint f) ≡ true →
      IsSmall (low_end Uint f) → IsSmall (high_end Uint f) → IsTame h signed rs (suc (suc st.claims)) (go (value Uint f) (claimed_once (claimed_once st))) → IsTame h signed (true ∷ true ∷ rs) st.claims (ranged s Uint f st go)
  range-tame h signed rs f st go p q a b t = subst (IsTame h signed (true ∷ true ∷ rs) st.claims) (sym (range-settled f st go p q)) (a, inl refl, (b, inl refl, t))

  -- a value that is kept where both of its claims have an entry
  pub range-asked : (h : ℕ → Bool) (signed : Type 0) (rs : List Bool) (f : Fact) (st : State E) (go : Onward E) → ((n : ℕ) → s.has_entry n ≡ h n) → signed → IsSmall (low_end Uint f) → IsSmall (high_end Uint f) →
      ((b : Bool) → IsTame h signed rs (suc (suc st.claims)) (kept_or_new s b f (claimed_once (claimed_once st)) go)) → IsTame h signed (true ∷ true ∷ rs) st.claims (ranged s Uint f st go)
  range-asked h signed rs f st go e g a b t =
      let low = settles s st (low_end Uint f) in
      let high = settles s st (high_end Uint f) in
      let x : s.has_entry (st.claims + 1) ≡ h (suc st.claims) = e (st.claims + 1) ∙ ap h (omega arith) in
      let y : s.has_entry (st.claims + 2) ≡ h (suc (suc st.claims)) = e (st.claims + 2) ∙ ap h (omega arith) in
      (a, right (asked_low low high (s.has_entry (st.claims + 1)) (s.has_entry (st.claims + 2))) x g, (b, right (asked_high low high (s.has_entry (st.claims + 1)) (s.has_entry (st.claims + 2))) y g, t (is_kept s f st)))
