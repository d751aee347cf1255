-- Names and forms are read as they are written.
use Rattle.std.proofs.Common.{◌≡◌, ℕ, Bool, true, not, nat_eq, ◌&&◌, List, [], ◌∷◌, ◌++◌, None, Some, refl, ap, sym, ◌∙◌, append_assoc}
use Rattle.std.specs.Prelude.{ℤ, pos}
use Rattle.std.specs.Option.{option_map}
use Rattle.std.specs.Ordering.{int_eq}
use Rattle.std.specs.List.{flat_map}
use Rattle.std.specs.Fmt.{signed_decimal}
use Rattle.std.proofs.lemmas.Bool.{cond-true}
use Rattle.std.proofs.lemmas.List.{append-nil}
use Rattle.linear.specs.Linear.{Weighted, Form}
use Rattle.lines.specs.Lines.{pieces, first, follows}
use Rattle.certificate_text.specs.Certificate.{Name}
use Rattle.certificate_text.specs.Text.{name_text, term_text, form_text}
use Rattle.certificate_text.specs.Forms.{then, when, number, names_of, weighted, term_in, term_of, term_is_before, form, form_of}
use Rattle.certificate_text.specs.Rules.{all, rises, is_name, is_term, is_form}
use Rattle.lines.specs.Lines.{is_integer}
use Rattle.lines.proofs.Fronts.{both}
use Rattle.lines.proofs.Decimals.{integer_forth}
use Rattle.certificate_text.proofs.NamesWritten.{is_free, cut_one, cut_at, all_append, plain_free, integer_plain, name_free, names_forth}

-- `C*NAME` is cut at its first star
term_forth : (t : Weighted Name) → is_term t ≡ true → term_of (signed_decimal t.coefficient ++ (42 ∷ name_text t.symbol)) ≡ Some t
term_forth t h =
    let p = both (is_integer t.coefficient) (not (int_eq t.coefficient (pos 0)) && is_name t.symbol) h in
    let q = both (not (int_eq t.coefficient (pos 0))) (is_name t.symbol) p.1 in
    ap (λ ps. then (first ps) (λ parts. term_in parts.0 parts.1)) (cut_at 42 (signed_decimal t.coefficient) (name_text t.symbol) (plain_free 42 (signed_decimal t.coefficient) refl (integer_plain t.coefficient p.0)))
    ∙ ap (λ o. then o (λ coefficient. then (names_of (pieces 42 (name_text t.symbol))) (λ name. when (not (int_eq coefficient (pos 0))) (weighted coefficient name)))) (ap number (integer_forth t.coefficient p.0))
    ∙ ap (λ o. then o (λ name. when (not (int_eq t.coefficient (pos 0))) (weighted t.coefficient name))) (names_forth t.symbol q.1)
    ∙ cond-true (not (int_eq t.coefficient (pos 0))) (Some t) None q.0

-- a term stands apart from what follows it
term_words : (t : Weighted Name) (rest : List ℕ) → is_term t ≡ true → pieces 32 (term_text t ++ rest) ≡ (signed_decimal t.coefficient ++ (42 ∷ name_text t.symbol)) ∷ (43 ∷ []) ∷ pieces 32 rest
term_words t rest h =
    let p = both (is_integer t.coefficient) (not (int_eq t.coefficient (pos 0)) && is_name t.symbol) h in
    let q = both (not (int_eq t.coefficient (pos 0))) (is_name t.symbol) p.1 in
    let word : List ℕ = signed_decimal t.coefficient ++ (42 ∷ name_text t.symbol) in
    let e : term_text t ++ rest ≡ word ++ (32 ∷ (43 ∷ (32 ∷ rest))) = simp append_assoc in
    let free : is_free 32 word ≡ true = all_append (λ b. not (nat_eq b 32)) (signed_decimal t.coefficient) (42 ∷ name_text t.symbol) (plain_free 32 (signed_decimal t.coefficient) refl (integer_plain t.coefficient p.0)) (name_free 32 t.symbol refl refl refl q.1) in
    ap (pieces 32) e ∙ cut_at 32 word (43 ∷ (32 ∷ rest)) free

-- what stands before the end of a row that rises is followed
pub rises_follow : {A : Type 0} (before : A → A → Bool) (xs : List A) (x : A) (ys : List A) → rises before (xs ++ x ∷ ys) ≡ true → follows before xs x ≡ true
rises_follow before [] x ys h = refl
rises_follow before (a ∷ []) x ys h = (both (before a x) (rises before (x ∷ ys)) h).0
rises_follow before (a ∷ b ∷ xs) x ys h = rises_follow before (b ∷ xs) x ys (both (before a b) (rises before (b ∷ (xs ++ x ∷ ys))) h).1

pub moved : {A : Type 0} (xs : List A) (x : A) (ys : List A) → xs ++ x ∷ ys ≡ (xs ++ x ∷ []) ++ ys
moved xs x ys = sym (append_assoc xs (x ∷ []) ys)

next_term : (ts : List (Weighted Name)) (ws : List (List ℕ)) (word : List ℕ) (others : List (List ℕ)) (t : Weighted Name) → ws ≡ word ∷ (43 ∷ []) ∷ others → term_of word ≡ Some t → follows term_is_before ts t ≡ true → form_of ts ws ≡ form_of (ts ++ t ∷ []) others
unfolding form_of
next_term ts ws word others t e p q = rw (e, p, q) refl

last_word : (ts : List (Weighted Name)) (ws : List (List ℕ)) (c : ℤ) → is_integer c ≡ true → ws ≡ signed_decimal c ∷ [] → form_of ts ws ≡ Some (form ts c)
unfolding form_of
last_word ts ws c h e = ap (form_of ts) e ∙ ap (λ o. option_map (form ts) (number o)) (integer_forth c h)

form_forth_from : (done ts : List (Weighted Name)) (c : ℤ) → all is_term ts ≡ true → rises term_is_before (done ++ ts) ≡ true → is_integer c ≡ true → form_of done (pieces 32 (flat_map term_text ts ++ signed_decimal c)) ≡ Some (form (done ++ ts) c)
form_forth_from done [] c good up h =
    last_word done (pieces 32 (signed_decimal c)) c h (cut_one 32 (signed_decimal c) (plain_free 32 (signed_decimal c) refl (integer_plain c h))) ∙ ap (λ ts. Some (form ts c)) (sym (append-nil done))
form_forth_from done (t ∷ ts) c good up h =
    let p = both (is_term t) (all is_term ts) good in
    let rest : List ℕ = flat_map term_text ts ++ signed_decimal c in
    next_term done (pieces 32 (flat_map term_text (t ∷ ts) ++ signed_decimal c)) (signed_decimal t.coefficient ++ (42 ∷ name_text t.symbol)) (pieces 32 rest) t (ap (pieces 32) (append_assoc (term_text t) (flat_map term_text ts) (signed_decimal c)) ∙ term_words t rest p.0) (term_forth t p.0) (rises_follow term_is_before done t ts up)
    ∙ form_forth_from (done ++ t ∷ []) ts c p.1 (ap (rises term_is_before) (sym (moved done t ts)) ∙ up) h
    ∙ ap (λ us. Some (form us c)) (sym (moved done t ts))

pub form_forth : (f : Form Name) → is_form f ≡ true → form_of [] (pieces 32 (form_text f)) ≡ Some f
form_forth f h =
    let p = both (all is_term f.terms) (rises term_is_before f.terms && is_integer f.constant) h in
    let q = both (rises term_is_before f.terms) (is_integer f.constant) p.1 in
    form_forth_from [] f.terms f.constant p.0 q.0 q.1
