-- The number of a form and the form of a number, in a table without repeats.
use Rattle.std.proofs.Common.{◌≡◌, ℕ, zero, suc, ◌+◌, ◌-◌, ◌<◌, ◌≤◌, Bool, true, false, not, ◌&&◌, ◌||◌, List, [], ◌∷◌, ◌++◌, length, map, None, Some, refl, ap, sym, ◌∙◌, arith, inl, inr, ◌⊎◌}
use Rattle.std.specs.Prelude.{max, nat_eq, nat_le, bytes_eq, fold}
use Rattle.std.specs.List.{list_any, position_or_len, slice_get}
use Rattle.std.proofs.Math.Nat.{max-eq_left, max-eq_right}
use Rattle.std.proofs.lemmas.Bool.{cond-true, cond-false}
use Rattle.std.proofs.lemmas.Bool.Decides.{nat_tests}
use Rattle.std.proofs.lemmas.List.{append-nil, length-append}
use Rattle.std.proofs.lemmas.Slice.Eq.{bytes_eq-Decides}
use Rattle.linear.specs.Linear.{Form}
use Rattle.lines.specs.Lines.{pieces}
use Rattle.certificate_text.specs.Certificate.{Name}
use Rattle.certificate_text.specs.Text.{form_text}
use Rattle.certificate_text.specs.Forms.{form_of}
use Rattle.certificate_text.specs.Rules.{all, is_form}
use Rattle.certificate_text.specs.FormTables.{FormTable, is_same_form, has_form, with_form, number_of, form_at}
use Rattle.lines.proofs.Fronts.{both}
use Rattle.certificate_text.proofs.FormsWritten.{form_forth, moved}
use Rattle.certificate_text.proofs.PartsRead.{same}

pub told : (b : Bool) → (b ≡ true) ⊎ (b ≡ false)
told true = inl refl
told false = inr refl

pub denied : (b : Bool) → not b ≡ true → b ≡ false
denied true h = sym h
denied false h = refl

pub le_back : (n k : ℕ) → nat_le n k ≡ true → n ≤ k
le_back n k h = grind (arith, nat_tests)

pub le_forth : (n k : ℕ) → n ≤ k → nat_le n k ≡ true
le_forth n k h = grind (arith, nat_tests)

pub eq_back : (n k : ℕ) → nat_eq n k ≡ true → n ≡ k
eq_back n k h = grind (arith, nat_tests)

-- forms that are written alike are one form
pub same_form : (f g : Form Name) → is_form f ≡ true → is_form g ≡ true → is_same_form f g ≡ true → f ≡ g
same_form f g p q e =
    same f g (sym (form_forth f p) ∙ ap (λ t. form_of [] (pieces 32 t)) ((bytes_eq-Decides (form_text f) (form_text g)).0 e) ∙ form_forth g q)

pub form_itself : (f : Form Name) → is_same_form f f ≡ true
form_itself f = (bytes_eq-Decides (form_text f) (form_text f)).1 refl

pub all_at : {A : Type 0} (test : A → Bool) (xs : List A) (k : ℕ) (x : A) → all test xs ≡ true → slice_get xs k ≡ Some x → test x ≡ true
all_at test [] k x h e = absurd cc
all_at test (a ∷ xs) zero x h e = ap test (sym (same a x e)) ∙ (both (test a) (all test xs) h).0
all_at test (a ∷ xs) (suc k) x h e = all_at test xs k x (both (test a) (all test xs) h).1 e

-- what stands at a place, and what stands around it
pub around : {A : Type 0} (xs : List A) (k : ℕ) (x : A) → slice_get xs k ≡ Some x → (front rest : List A) × (xs ≡ front ++ x ∷ rest) × (length front ≡ k)
around [] k x e = absurd cc
around (a ∷ xs) zero x e = ([], xs, ap (λ y. y ∷ xs) (same a x e), refl)
around (a ∷ xs) (suc k) x e = let r = around xs k x e in (a ∷ r.0, r.1, ap (λ ys. a ∷ ys) r.2, ap suc r.3)

-- a place is in the front part, or it is the first behind it
pub reached : {A : Type 0} (front left : List A) (k : ℕ) (x : A) → slice_get (front ++ left) k ≡ Some x → k ≤ length front → ((slice_get front k ≡ Some x) × (k < length front)) ⊎ ((rest : List A) × (left ≡ x ∷ rest) × (k ≡ length front))
reached [] [] k x e l = absurd cc
reached [] (a ∷ left) zero x e l = inr (left, ap (λ y. y ∷ left) (same a x e), refl)
reached [] (a ∷ left) (suc k) x e l = absurd (omega arith)
reached (a ∷ front) left zero x e l = inl (e, omega arith)
reached (a ∷ front) left (suc k) x e l = elim (reached front left k x e (omega arith)) [
  | inl h ↦ inl (h.0, omega (arith, h.1))
  | inr h ↦ inr (h.0, h.1, ap suc h.2)
]

pub any_at : {A : Type 0} (test : A → Bool) (xs : List A) (k : ℕ) (x : A) → slice_get xs k ≡ Some x → test x ≡ true → list_any test xs ≡ true
any_at test [] k x e h = absurd cc
any_at test (a ∷ xs) zero x e h = rw (ap test (same a x e) ∙ h) refl
any_at test (a ∷ xs) (suc k) x e h = elim (told (test a)) [ inl p ↦ rw p refl | inr p ↦ rw p (any_at test xs k x e h) ]

hits : {A : Type 0} (test : A → Bool) (x : A) (xs : List A) → test x ≡ true → position_or_len test (x ∷ xs) ≡ 0
hits test x xs h = rw h refl

misses : {A : Type 0} (test : A → Bool) (x : A) (xs : List A) → test x ≡ false → position_or_len test (x ∷ xs) ≡ 1 + position_or_len test xs
misses test x xs h = rw h refl

-- where what passes stands, if it stands in the front part
pub found : {A : Type 0} (test : A → Bool) (front left : List A) → list_any test front ≡ true → (x : A) × (slice_get (front ++ left) (position_or_len test (front ++ left)) ≡ Some x) × (test x ≡ true) × (position_or_len test (front ++ left) < length front)
found test [] left h = absurd cc
found test (a ∷ front) left h = elim (told (test a)) [
  | inl p ↦ let e = hits test a (front ++ left) p in (a, ap (slice_get (a ∷ (front ++ left))) e, p, omega (arith, e))
  | inr p ↦
      let r = found test front left (rw p at h) in
      let e : position_or_len test (a ∷ (front ++ left)) ≡ suc (position_or_len test (front ++ left)) = misses test a (front ++ left) p ∙ omega arith in
      (r.0, ap (slice_get (a ∷ (front ++ left))) e ∙ r.1, r.2, omega (arith, e, r.3))
]

-- and if it does not
pub beyond : {A : Type 0} (test : A → Bool) (front : List A) (x : A) (left : List A) → list_any test front ≡ false → test x ≡ true → position_or_len test (front ++ x ∷ left) ≡ length front
beyond test [] x left h p = hits test x left p
beyond test (a ∷ front) x left h p = elim (told (test a)) [
  | inl q ↦ absurd (let e : true ≡ false = rw q at h in cc)
  | inr q ↦ misses test a (front ++ x ∷ left) q ∙ (let e = beyond test front x left (rw q at h) p in omega (arith, e))
]

pub at_seam : {A : Type 0} (front : List A) (x : A) (left : List A) → slice_get (front ++ x ∷ left) (length front) ≡ Some x
at_seam [] x left = refl
at_seam (a ∷ front) x left = at_seam front x left

-- each form is new behind those before it
abbrev pub is_fresh : (before forms : FormTable) → Bool
is_fresh before [] = true
is_fresh before (f ∷ forms) = not (has_form before f) && is_fresh (before ++ f ∷ []) forms

pub fresh_push : (before forms : FormTable) (f : Form Name) → is_fresh before forms ≡ true → has_form (before ++ forms) f ≡ false → is_fresh before (forms ++ f ∷ []) ≡ true
fresh_push before [] f h n = rw (ap (λ t. has_form t f) (sym (append-nil before)) ∙ n) refl
fresh_push before (g ∷ forms) f h n =
    let p = both (not (has_form before g)) (is_fresh (before ++ g ∷ []) forms) h in
    rw (p.0, fresh_push (before ++ g ∷ []) forms f p.1 (ap (λ t. has_form t f) (sym (moved before g forms)) ∙ n)) refl

pub fresh_at : (before front : FormTable) (f : Form Name) (rest : FormTable) → is_fresh before (front ++ f ∷ rest) ≡ true → has_form (before ++ front) f ≡ false
fresh_at before [] f rest h = ap (λ t. has_form t f) (append-nil before) ∙ denied (has_form before f) (both (not (has_form before f)) (is_fresh (before ++ f ∷ []) rest) h).0
fresh_at before (g ∷ front) f rest h =
    let p = both (not (has_form before g)) (is_fresh (before ++ g ∷ []) (front ++ f ∷ rest)) h in
    ap (λ t. has_form t f) (moved before g front) ∙ fresh_at (before ++ g ∷ []) front f rest p.1

pub known_form : (forms : FormTable) (f : Form Name) → has_form forms f ≡ true → with_form forms f ≡ forms
known_form forms f h = cond-true (has_form forms f) forms (forms ++ f ∷ []) h

pub new_form : (forms : FormTable) (f : Form Name) → has_form forms f ≡ false → with_form forms f ≡ forms ++ f ∷ []
new_form forms f h = cond-false (has_form forms f) forms (forms ++ f ∷ []) h

pub at_number : (forms : FormTable) (k : ℕ) → form_at forms (k + 1) ≡ slice_get forms k
at_number forms k =
    let t : nat_eq (k + 1) 0 ≡ false = grind (arith, nat_tests) in
    let q : k + 1 - 1 ≡ k = omega arith in
    cond-false (nat_eq (k + 1) 0) None (slice_get forms (k + 1 - 1)) t ∙ ap (slice_get forms) q

-- the form of a number stands at the place below the number
pub at_place : (forms : FormTable) (n : ℕ) (f : Form Name) → form_at forms n ≡ Some f → (k : ℕ) × (n ≡ suc k) × (slice_get forms k ≡ Some f)
at_place forms zero f e = absurd cc
at_place forms (suc k) f e = let q : k + 1 ≡ suc k = omega arith in (k, refl, sym (at_number forms k) ∙ ap (form_at forms) q ∙ e)

-- a number's form has that number
pub number_back : (forms : FormTable) (n : ℕ) (f : Form Name) → is_fresh [] forms ≡ true → form_at forms n ≡ Some f → number_of forms f ≡ n
number_back forms n f h e =
    let a = at_place forms n f e in
    let r = around forms a.0 f a.2 in
    let new : has_form r.0 f ≡ false = fresh_at [] r.0 f r.1 (ap (is_fresh []) (sym r.2) ∙ h) in
    let place : position_or_len (is_same_form f) forms ≡ length r.0 = ap (position_or_len (is_same_form f)) r.2 ∙ beyond (is_same_form f) r.0 f r.1 new (form_itself f) in
    omega (arith, place, r.3, a.1)

-- forms that were used in order, one more, and those that were not
pub record Grown (forms seen : FormTable) (f : Form Name) (n : ℕ) : Type 0 where
  pub left : FormTable
  pub table : forms ≡ with_form seen f ++ left
  pub used : length (with_form seen f) ≡ max (length seen) n

grown_known : (forms seen left : FormTable) (f : Form Name) (n : ℕ) → forms ≡ seen ++ left → has_form seen f ≡ true → n ≤ length seen → Grown forms seen f n
grown_known forms seen left f n t h l = record {
  left = left;
  table = t ∙ ap (λ s. s ++ left) (sym (known_form seen f h));
  used = ap length (known_form seen f h) ∙ sym (max-eq_left l);
}

grown_new : (forms seen left : FormTable) (f : Form Name) (n : ℕ) → forms ≡ seen ++ f ∷ left → has_form seen f ≡ false → n ≡ length seen + 1 → Grown forms seen f n
grown_new forms seen left f n t h e = record {
  left = left;
  table = t ∙ moved seen f left ∙ ap (λ s. s ++ left) (sym (new_form seen f h));
  used = ap length (new_form seen f h) ∙ length-append seen (f ∷ []) ∙ sym e ∙ sym (max-eq_right (omega (arith, e)));
}

-- a number that is at most one above the largest so far
pub grown_back : (forms seen left : FormTable) (f : Form Name) (n : ℕ) → is_fresh [] forms ≡ true → forms ≡ seen ++ left → n ≤ length seen + 1 → form_at forms n ≡ Some f → Grown forms seen f n
grown_back forms seen left f n h t l e =
    let a = at_place forms n f e in
    elim (reached seen left a.0 f (ap (λ s. slice_get s a.0) (sym t) ∙ a.2) (omega (arith, l, a.1))) [
      | inl r ↦ grown_known forms seen left f n t (any_at (is_same_form f) seen a.0 f r.0 (form_itself f)) (omega (arith, a.1, r.1))
      | inr r ↦
          let split : forms ≡ seen ++ f ∷ r.0 = t ∙ ap (λ s. seen ++ s) r.1 in
          grown_new forms seen r.0 f n split (fresh_at [] seen f r.0 (ap (is_fresh []) (sym split) ∙ h)) (omega (arith, a.1, r.2))
    ]

-- the number of the next form that is used
pub record Numbers (forms seen : FormTable) (f : Form Name) : Type 0 where
  pub next : number_of forms f ≤ length seen + 1
  pub at : form_at forms (number_of forms f) ≡ Some f
  pub used : max (length seen) (number_of forms f) ≡ length (with_form seen f)

numbers_known : (forms seen left : FormTable) (f : Form Name) → all is_form forms ≡ true → is_form f ≡ true → forms ≡ seen ++ left → has_form seen f ≡ true → Numbers forms seen f
numbers_known forms seen left f good fine t h =
    let r = found (is_same_form f) seen left h in
    let p : position_or_len (is_same_form f) forms ≡ position_or_len (is_same_form f) (seen ++ left) = ap (position_or_len (is_same_form f)) t in
    let here : slice_get forms (position_or_len (is_same_form f) forms) ≡ Some r.0 = ap (λ s. slice_get s (position_or_len (is_same_form f) s)) t ∙ r.1 in
    let one : r.0 ≡ f = sym (same_form f r.0 fine (all_at is_form forms (position_or_len (is_same_form f) forms) r.0 good here) r.2) in
    record {
      next = omega (arith, p, r.3);
      at = at_number forms (position_or_len (is_same_form f) forms) ∙ here ∙ ap Some one;
      used = max-eq_left (omega (arith, p, r.3)) ∙ ap length (sym (known_form seen f h));
    }

numbers_new : (forms seen left : FormTable) (f : Form Name) → forms ≡ seen ++ f ∷ left → has_form seen f ≡ false → Numbers forms seen f
numbers_new forms seen left f t h =
    let p : position_or_len (is_same_form f) forms ≡ length seen = ap (position_or_len (is_same_form f)) t ∙ beyond (is_same_form f) seen f left h (form_itself f) in
    record {
      next = omega (arith, p);
      at = at_number forms (position_or_len (is_same_form f) forms) ∙ ap (slice_get forms) p ∙ ap (λ s. slice_get s (length seen)) t ∙ at_seam seen f left;
      used = max-eq_right (omega (arith, p)) ∙ ap (λ k. k + 1) p ∙ sym (ap length (new_form seen f h) ∙ length-append seen (f ∷ []));
    }

pub numbers_forth : (forms seen left : FormTable) (f : Form Name) → all is_form forms ≡ true → is_form f ≡ true → forms ≡ with_form seen f ++ left → Numbers forms seen f
numbers_forth forms seen left f good fine t = elim (told (has_form seen f)) [
  | inl h ↦ numbers_known forms seen left f good fine (t ∙ ap (λ s. s ++ left) (known_form seen f h)) h
  | inr h ↦ numbers_new forms seen left f (t ∙ ap (λ s. s ++ left) (new_form seen f h) ∙ sym (moved seen f left)) h
]

-- a table that grows keeps what it has
pub grows : (seen more : FormTable) → (left : FormTable) × (fold with_form seen more ≡ seen ++ left)
grows seen [] = ([], sym (append-nil seen))
grows seen (f ∷ more) = elim (told (has_form seen f)) [
  | inl h ↦ let r = grows (with_form seen f) more in (r.0, r.1 ∙ ap (λ s. s ++ r.0) (known_form seen f h))
  | inr h ↦ let r = grows (with_form seen f) more in (f ∷ r.0, r.1 ∙ ap (λ s. s ++ r.0) (new_form seen f h) ∙ sym (moved seen f r.0))
]

pub fresh_with : (forms : FormTable) (f : Form Name) → is_fresh [] forms ≡ true → is_fresh [] (with_form forms f) ≡ true
fresh_with forms f h = elim (told (has_form forms f)) [
  | inl k ↦ ap (is_fresh []) (known_form forms f k) ∙ h
  | inr k ↦ ap (is_fresh []) (new_form forms f k) ∙ fresh_push [] forms f h k
]

pub fresh_fold : (forms more : FormTable) → is_fresh [] forms ≡ true → is_fresh [] (fold with_form forms more) ≡ true
fresh_fold forms [] h = h
fresh_fold forms (f ∷ more) h = fresh_fold (with_form forms f) more (fresh_with forms f h)

-- what a table has keeps its number while the table grows, and what it lacks gets the next one
kept : {A : Type 0} (test : A → Bool) (xs ys : List A) → list_any test xs ≡ true → position_or_len test (xs ++ ys) ≡ position_or_len test xs
kept test [] ys h = absurd cc
kept test (x ∷ xs) ys h = elim (told (test x)) [
  | inl p ↦ hits test x (xs ++ ys) p ∙ sym (hits test x xs p)
  | inr p ↦ misses test x (xs ++ ys) p ∙ ap (λ k. 1 + k) (kept test xs ys (rw p at h)) ∙ sym (misses test x xs p)
]

pub number_kept : (forms more : FormTable) (f : Form Name) → has_form forms f ≡ true → number_of (forms ++ more) f ≡ number_of forms f
number_kept forms more f h = ap (λ k. k + 1) (kept (is_same_form f) forms more h)

pub number_next : (forms more : FormTable) (f : Form Name) → has_form forms f ≡ false → number_of (forms ++ f ∷ more) f ≡ length forms + 1
number_next forms more f h = ap (λ k. k + 1) (beyond (is_same_form f) forms f more h (form_itself f))

pub has_with : (forms : FormTable) (f : Form Name) → has_form (with_form forms f) f ≡ true
has_with forms f = elim (told (has_form forms f)) [
  | inl h ↦ ap (λ t. has_form t f) (known_form forms f h) ∙ h
  | inr h ↦ ap (λ t. has_form t f) (new_form forms f h) ∙ any_at (is_same_form f) (forms ++ f ∷ []) (length forms) f (at_seam forms f []) (form_itself f)
]

-- the number that a form gets where it is used first is its number in the whole table
pub number_settled : (forms seen left : FormTable) (f : Form Name) → forms ≡ with_form seen f ++ left → number_of forms f ≡ number_of (with_form seen f) f
number_settled forms seen left f t = ap (λ s. number_of s f) t ∙ number_kept (with_form seen f) left f (has_with seen f)

-- a table has a form where it has its text
pub has_form_text : (forms : FormTable) (f : Form Name) → has_form forms f ≡ list_any (λ t. bytes_eq (form_text f) t) (map form_text forms)
has_form_text [] f = refl
has_form_text (g ∷ forms) f = ap (λ b. is_same_form f g || b) (has_form_text forms f)
