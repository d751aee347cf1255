-- Forms that are looked up by their spellings.
use Rattle.std.proofs.Common.{◌≡◌, ℕ, ◌+◌, ◌<◌, ◌≤◌, Bool, true, false, cond, List, [], ◌∷◌, ◌++◌, length, None, Some, Result, Ok, Err, is_some, is_err, refl, ap, sym, ◌∙◌, arith, inl, inr}
use Rattle.std.specs.Prelude.{String, OnOk, bytes_eq, nat_lt, nat_eq, position}
use Rattle.std.specs.BTreeMap.{BTreeMap, get_by_text, Updates}
use Rattle.std.specs.List.{list_any, position_or_len}
use Rattle.std.specs.String.{string_bytes, string_cmp}
use Rattle.std.specs.declared.alloc.Global.{Global}
use Rattle.std.proofs.lemmas.Bool.{cond_both, cond-true, cond-false}
use Rattle.std.proofs.lemmas.Bool.Decides.{nat_tests}
use Rattle.std.proofs.lemmas.List.{length-map, length-append, map_push}
use Rattle.std.proofs.lemmas.List.Folds.{position_or_len_push}
use Rattle.std.proofs.lemmas.Map.Text.{btree_map_updates_text}
use Rattle.std.proofs.lemmas.Slice.Eq.{bytes_eq-Decides}
use Rattle.linear.specs.Linear as linear
use Rattle.certificate_text.specs.Certificate as certificate
use Rattle.certificate_text.specs.Text.{form_text}
use Rattle.certificate_text.specs.FormTables.{has_form, number_of}
use Rattle.certificate_text.proofs.Tables.{told, beyond}
use Rattle.certificate.specs.declared.tree.Form.{Form}
use Rattle.certificate.specs.View as view
use Rattle.certificate.specs.Spelt.{forms_in, AreIndexed}

abbrev pub Indices : Type 0
Indices = BTreeMap (String Global) ℕ

abbrev pub Forms : Type 0
Forms = List (linear.Form certificate.Name)

abbrev pub is_spelt : List ℕ → linear.Form certificate.Name → Bool
is_spelt s f = bytes_eq s (form_text f)

hits : {A : Type 0} (test : A → Bool) (x : A) (xs : List A) → test x ≡ true → position_or_len test (x ∷ xs) ≡ 0
hits test x xs h = rw h refl

misses : {A : Type 0} (test : A → Bool) (x : A) (xs : List A) → test x ≡ false → position_or_len test (x ∷ xs) ≡ 1 + position_or_len test xs
misses test x xs h = rw h refl

place_within : {A : Type 0} (test : A → Bool) (xs : List A) → position_or_len test xs ≤ length xs
place_within test [] = omega arith
place_within test (x ∷ xs) = elim (told (test x)) [
  | inl h ↦ omega (arith, hits test x xs h)
  | inr h ↦ omega (arith, misses test x xs h, place_within test xs)
]

-- the first place that passes, if there is one, and past the last if there is none
found_at : {A : Type 0} (test : A → Bool) (xs : List A) (i : ℕ) → Some i ≡ position test xs → (position_or_len test xs ≡ i) × (i < length xs)
found_at test xs i =
    cond_both (nat_lt (position_or_len test xs) (length xs)) (Some (position_or_len test xs)) None (λ o. Some i ≡ o → (position_or_len test xs ≡ i) × (i < length xs))
    (λ h e. let q : position_or_len test xs ≡ i = cc in (q, grind (arith, nat_tests, q, h))) (λ h e. absurd cc)

found_not : {A : Type 0} (test : A → Bool) (xs : List A) → None ≡ position test xs → position_or_len test xs ≡ length xs
found_not test xs =
    cond_both (nat_lt (position_or_len test xs) (length xs)) (Some (position_or_len test xs)) None (λ o. None ≡ o → position_or_len test xs ≡ length xs) (λ h e. absurd cc)
    (λ h e. let w = place_within test xs in grind (arith, nat_tests, w, h))

lt_suc : (n k m l : ℕ) → m ≡ 1 + n → l ≡ 1 + k → nat_lt n k ≡ nat_lt m l
lt_suc n k m l p q = elim (told (nat_lt n k)) [
  | inl h ↦ h ∙ sym (grind (arith, nat_tests, h, p, q))
  | inr h ↦ h ∙ sym (grind (arith, nat_tests, h, p, q))
]

any_hit : {A : Type 0} (test : A → Bool) (x : A) (xs : List A) → test x ≡ true → list_any test (x ∷ xs) ≡ true
any_hit test x xs h = rw h refl

any_miss : {A : Type 0} (test : A → Bool) (x : A) (xs : List A) → test x ≡ false → list_any test (x ∷ xs) ≡ list_any test xs
any_miss test x xs h = rw h refl

any_place : {A : Type 0} (test : A → Bool) (xs : List A) → list_any test xs ≡ nat_lt (position_or_len test xs) (length xs)
any_place test [] = refl
any_place test (x ∷ xs) = elim (told (test x)) [
  | inl h ↦ any_hit test x xs h ∙ sym (let p = hits test x xs h in let l : length (x ∷ xs) ≡ 1 + length xs = omega arith in grind (arith, nat_tests, p, l))
  | inr h ↦ any_miss test x xs h ∙ any_place test xs ∙ lt_suc (position_or_len test xs) (length xs) (position_or_len test (x ∷ xs)) (length (x ∷ xs)) (misses test x xs h) (omega arith)
]

some_if : {A : Type 0} (b : Bool) (a : A) → is_some (cond b (Some a) None) ≡ b
some_if true a = refl
some_if false a = refl

any_found : {A : Type 0} (test : A → Bool) (xs : List A) → is_some (position test xs) ≡ list_any test xs
any_found test xs = some_if (nat_lt (position_or_len test xs) (length xs)) (position_or_len test xs) ∙ sym (any_place test xs)

fewer : {A : Type 0} (xs : List A) (x : A) → length (xs ++ x ∷ []) ≡ length xs + 1
fewer xs x = length-append xs (x ∷ [])

-- one more at the end, that passes
push_hit : {A : Type 0} (test : A → Bool) (xs : List A) (x : A) → test x ≡ true → list_any test xs ≡ false → position test (xs ++ x ∷ []) ≡ Some (length xs)
push_hit test xs x h n =
    let p : position_or_len test (xs ++ x ∷ []) ≡ length xs = beyond test xs x [] n h in
    let l = fewer xs x in
    cond-true (nat_lt (position_or_len test (xs ++ x ∷ [])) (length (xs ++ x ∷ []))) (Some (position_or_len test (xs ++ x ∷ []))) None (grind (arith, nat_tests, p, l))
    ∙ ap Some p

-- one more at the end, that does not
push_miss : {A : Type 0} (test : A → Bool) (xs : List A) (x : A) → test x ≡ false → position test (xs ++ x ∷ []) ≡ position test xs
push_miss test xs x h =
    let e = position_or_len_push test xs x in
    let l = fewer xs x in
    let w = place_within test xs in
    elim (told (nat_eq (position_or_len test xs) (length xs))) [
      | inl t ↦
          let p : position_or_len test (xs ++ x ∷ []) ≡ length xs + 1 = e ∙ cond-true (nat_eq (position_or_len test xs) (length xs)) (length xs + cond (test x) 0 1) (position_or_len test xs) t ∙ ap (λ b. length xs + cond b 0 1) h in
          cond-false (nat_lt (position_or_len test (xs ++ x ∷ [])) (length (xs ++ x ∷ []))) (Some (position_or_len test (xs ++ x ∷ []))) None (grind (arith, nat_tests, p, l))
          ∙ sym (cond-false (nat_lt (position_or_len test xs) (length xs)) (Some (position_or_len test xs)) None (grind (arith, nat_tests, t)))
      | inr t ↦
          let p : position_or_len test (xs ++ x ∷ []) ≡ position_or_len test xs = e ∙ cond-false (nat_eq (position_or_len test xs) (length xs)) (length xs + cond (test x) 0 1) (position_or_len test xs) t in
          cond-true (nat_lt (position_or_len test (xs ++ x ∷ [])) (length (xs ++ x ∷ []))) (Some (position_or_len test (xs ++ x ∷ []))) None (grind (arith, nat_tests, p, l, t, w))
          ∙ ap Some p
          ∙ sym (cond-true (nat_lt (position_or_len test xs) (length xs)) (Some (position_or_len test xs)) None (grind (arith, nat_tests, t, w)))
    ]

-- what each spelling has, once a form more stands at the end
place_step : (fs : Forms) (f : linear.Form certificate.Name) (s k : List ℕ) → has_form fs f ≡ false → k ≡ form_text f → position (is_spelt s) (fs ++ f ∷ []) ≡ cond (bytes_eq k s) (Some (length fs)) (position (is_spelt s) fs)
place_step fs f s k h e = elim (told (bytes_eq k s)) [
  | inl q ↦
      let t : s ≡ form_text f = sym ((bytes_eq-Decides k s).0 q) ∙ e in
      push_hit (is_spelt s) fs f ((bytes_eq-Decides s (form_text f)).1 t) (ap (λ u. list_any (is_spelt u) fs) t ∙ h) ∙ sym (cond-true (bytes_eq k s) (Some (length fs)) (position (is_spelt s) fs) q)
  | inr q ↦
      let other : is_spelt s f ≡ false = elim (told (is_spelt s f)) [
        | inl p ↦ absurd (let t : bytes_eq k s ≡ true = (bytes_eq-Decides k s).1 (e ∙ sym ((bytes_eq-Decides s (form_text f)).0 p)) in cc)
        | inr p ↦ p
      ] in
      push_miss (is_spelt s) fs f other ∙ sym (cond-false (bytes_eq k s) (Some (length fs)) (position (is_spelt s) fs) q)
]

-- a table with one form more
pub indexed_push : {A B : Type 0} (r : Result A B) (old new : Indices) (before after : List Form) (k : String Global) (f : Form) (n : ℕ) → is_err r ≡ false → OnOk r (Updates string_cmp old new k (Some n)) → n ≡ length before → after ≡ before ++ f ∷ [] → AreIndexed old before → string_bytes k ≡ form_text (view.form f) → has_form (forms_in before) (view.form f) ≡ false → AreIndexed new after
indexed_push (Err b) old new before after k f n t u l q i e h = absurd cc
indexed_push (Ok a) old new before after k f n t u l q i e h = λ s.
    btree_map_updates_text (string_bytes k) old new (Some n) u s
    ∙ ap (λ o. cond (bytes_eq (string_bytes k) s) (Some n) o) (i s)
    ∙ ap (λ m. cond (bytes_eq (string_bytes k) s) (Some m) (position (is_spelt s) (forms_in before))) (l ∙ sym (length-map before view.form))
    ∙ sym (ap (λ fs. position (is_spelt s) (forms_in fs)) q ∙ ap (position (is_spelt s)) (map_push view.form before f) ∙ place_step (forms_in before) (view.form f) s (string_bytes k) h e)

-- whether a table has a form
pub has_told : (indices : Indices) (forms : List Form) (f : linear.Form certificate.Name) (s k : List ℕ) (b : Bool) → AreIndexed indices forms → s ≡ k → k ≡ form_text f → b ≡ is_some (get_by_text indices s) → b ≡ has_form (forms_in forms) f
has_told indices forms f s k b h p e q = q ∙ ap is_some (h s) ∙ any_found (is_spelt s) (forms_in forms) ∙ ap (λ u. list_any (is_spelt u) (forms_in forms)) (p ∙ e)

-- the number of a form
pub number_found : (indices : Indices) (forms : List Form) (f : linear.Form certificate.Name) (s : List ℕ) (i : ℕ) → AreIndexed indices forms → s ≡ form_text f → Some i ≡ get_by_text indices s → (i + 1 ≡ number_of (forms_in forms) f) × (i < length forms)
number_found indices forms f s i h e q =
    let r = found_at (is_spelt s) (forms_in forms) i (q ∙ h s) in
    let l = length-map forms view.form in
    (ap (λ k. k + 1) (sym r.0 ∙ ap (λ u. position_or_len (is_spelt u) (forms_in forms)) e), omega (arith, r.1, l))

pub number_past : (indices : Indices) (forms : List Form) (f : linear.Form certificate.Name) (s : List ℕ) → AreIndexed indices forms → s ≡ form_text f → None ≡ get_by_text indices s → length forms + 1 ≡ number_of (forms_in forms) f
number_past indices forms f s h e q =
    ap (λ k. k + 1) (sym (length-map forms view.form) ∙ sym (found_not (is_spelt s) (forms_in forms) (q ∙ h s)) ∙ ap (λ u. position_or_len (is_spelt u) (forms_in forms)) e)
