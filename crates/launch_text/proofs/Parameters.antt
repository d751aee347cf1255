-- The kinds of a kernel's parameters.
use Rattle.std.proofs.Common.{◌≡◌, ℕ, ◌+◌, ◌<◌, List, [], ◌∷◌, ◌++◌, length, Option, None, Some, Ok, ap, sym, ◌∙◌, append_assoc, subst, inl, inr, ◌⊎◌, arith}
use Rattle.std.specs.Prelude.{bytes_eq}
use Rattle.std.specs.List.{AllZip}
use Rattle.std.proofs.lemmas.Bool.{cond_both}
use Rattle.std.proofs.lemmas.List.{append-nil}
use Rattle.semantics.specs.Word.{Kind}
use Rattle.texts.specs.Surface.{Parameter, Buffer, Value}
use Rattle.launch_text.specs.LaunchFaults.{Cursor, Step, then}
use Rattle.launch_text.specs.LaunchWords.{go_on, each}
use Rattle.launch_text.specs.LaunchSums.{value_number, buffer_number}
use Rattle.kernel_names.specs.Parameters.{value_kind, buffer_kind, onto, kinds}
use Rattle.launch_text.proofs.Back.{then_back}

pub value_below : (b : ℕ) (ps : List Parameter) (name : List ℕ) (n : ℕ) → value_number b ps name ≡ Some n → n < b + length (kinds value_kind ps)
value_below b [] name n h = absurd cc
value_below b (Buffer constant k site own ∷ ps) name n h = value_below b ps name n h
value_below b (Value k site own ∷ ps) name n h =
    cond_both (bytes_eq own name) (Some b) (value_number (b + 1) ps name) (λ o. o ≡ Some n → n < b + length (k ∷ kinds value_kind ps))
    (λ _ e. let q : b ≡ n = cc in omega arith) (λ _ e. omega (arith, value_below (b + 1) ps name n e)) h

pub buffer_below : (b : ℕ) (ps : List Parameter) (name : List ℕ) (n : ℕ) → buffer_number b ps name ≡ Some n → n < b + length (kinds buffer_kind ps)
buffer_below b [] name n h = absurd cc
buffer_below b (Value k site own ∷ ps) name n h = buffer_below b ps name n h
buffer_below b (Buffer constant k site own ∷ ps) name n h =
    cond_both (bytes_eq own name) (Some b) (buffer_number (b + 1) ps name) (λ o. o ≡ Some n → n < b + length (k ∷ kinds buffer_kind ps))
    (λ _ e. let q : b ≡ n = cc in omega arith) (λ _ e. omega (arith, buffer_below (b + 1) ps name n e)) h

-- a line that is read gives what fits its parameter's kind; of other parameters there is none
pub record Skips {A : Type 0} (line : List A → Parameter → Option (Cursor → Step (A × Cursor))) (of : Parameter → Option Kind) (done : List A) (p : Parameter) : Type 0 where
  pub no_line : line done p ≡ None
  pub no_kind : of p ≡ None

pub record Reads {A : Type 0} (line : List A → Parameter → Option (Cursor → Step (A × Cursor))) (of : Parameter → Option Kind) (P : Kind → A → Type 0) (done : List A) (p : Parameter) : Type 0 where
  pub own : Cursor → Step (A × Cursor)
  pub kind : Kind
  pub is_line : line done p ≡ Some own
  pub is_kind : of p ≡ Some kind
  pub good : (c : Cursor) (t : A × Cursor) → own c ≡ Ok t → P kind t.0

zip_push : {A B : Type 0} (P : A → B → Type 0) (xs : List A) (ys : List B) (x : A) (y : B) → AllZip P xs ys → P x y → AllZip P (xs ++ x ∷ []) (ys ++ y ∷ [])
zip_push P [] [] x y h p = (p, tt)
zip_push P [] (b ∷ ys) x y h p = absurd h
zip_push P (a ∷ xs) [] x y h p = absurd h
zip_push P (a ∷ xs) (b ∷ ys) x y h p = (h.0, zip_push P xs ys x y h.1 p)

pub each_back : {A : Type 0} (line : List A → Parameter → Option (Cursor → Step (A × Cursor))) (of : Parameter → Option Kind) (P : Kind → A → Type 0) (one : (done : List A) (p : Parameter) → Skips line of done p ⊎ Reads line of P done p) (ks : List Kind) (done : List A) (ps : List Parameter) (c : Cursor) (t : List A × Cursor) → AllZip P ks done → each line done ps c ≡ Ok t → AllZip P (ks ++ kinds of ps) t.0
unfolding each
each_back line of P one ks done [] c t h e =
    let q : (done, c) ≡ t = cc in
    subst (λ r. AllZip P (ks ++ []) r.0) q (rw append-nil h)
each_back {A} line of P one ks done (p ∷ ps) c t h e =
    elim (one done p) [
      | inl s ↦
          let f : each line done ps c ≡ Ok t = ap (λ o. go_on o done c (λ more d. each line more ps d)) (sym s.no_line) ∙ e in
          subst (λ o. AllZip P (ks ++ onto o (kinds of ps)) t.0) (sym s.no_kind) (each_back line of P one ks done ps c t h f)
      | inr r ↦
          let f : then (r.own c) (λ u. each line (done ++ u.0 ∷ []) ps u.1) ≡ Ok t = ap (λ o. go_on o done c (λ more d. each line more ps d)) (sym r.is_line) ∙ e in
          let u = then_back (r.own c) _ t f in
          subst (λ o. AllZip P (ks ++ onto o (kinds of ps)) t.0) (sym r.is_kind) (rw append_assoc at (each_back line of P one (ks ++ r.kind ∷ []) (done ++ u.0.0 ∷ []) ps u.0.1 t (zip_push P ks done r.kind u.0.0 h (r.good c u.0 u.1)) u.2))
    ]
