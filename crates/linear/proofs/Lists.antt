-- The code's terms one by one, and their ranges.
use Rattle.std.proofs.Common.{◌≡◌, ℕ, zero, suc, ◌+◌, ◌<◌, Bool, true, false, ◌&&◌, List, [], ◌∷◌, ◌++◌, length, drop, get_or, add-one, drop-cons, append_assoc, arith, refl, ap, sym, subst, ◌∙◌, SFits, w64, ◌⊎◌, inl, inr, ◌≤◌}
use Rattle.std.specs.Prelude.{ℤ, pos, negsuc, ◌+ℤ◌, ◌*ℤ◌}
use Rattle.std.proofs.lemmas.Bool.Decides.{nat_tests}
use Rattle.std.proofs.lemmas.List.{drop_all}
use Rattle.std.proofs.Math.Seq.{drop-nil}
use Rattle.linear.specs.declared.term.Term.{Term}
use Rattle.linear.specs.Exact.{Terms, fits_i64, fits_terms, put, merge, multiples}
use Rattle.linear.specs.Terms.{term, terms, are_rising}
use Rattle.linear.proofs.Merging.{IsRising, rising_true, rising_from, rising-multiples, merge_under, merge_put_above, merge_put_same}

-- what an index past the end would give
abbrev pub no_term : Term
no_term = record { symbol = record { number = 0 }; coefficient = pos 0 }

pub terms-append : (a b : List Term) → terms (a ++ b) ≡ terms a ++ terms b
terms-append [] b = refl
terms-append (t ∷ a) b = ap (λ ts. term t ∷ ts) (terms-append a b)

pub terms-drop : (a : List Term) (i : ℕ) (d : Term) → i < length a → terms (drop i a) ≡ term (get_or a i d) ∷ terms (drop (i + 1) a)
terms-drop a i d h = rw (drop-cons a i d, add-one) refl

and_again : (a b c : Bool) → (a && (b && c)) ≡ ((a && b) && c)
and_again true b c = refl
and_again false b c = refl

pub fits-append : (a b : Terms) → fits_terms (a ++ b) ≡ (fits_terms a && fits_terms b)
fits-append [] b = refl
fits-append (t ∷ a) b = ap (λ c. fits_i64 t.coefficient && c) (fits-append a b) ∙ and_again (fits_i64 t.coefficient) (fits_terms a) (fits_terms b)

pub fits_signed : (z : ℤ) → SFits w64 z → fits_i64 z ≡ true
fits_signed (pos n) h = grind (arith, nat_tests)
fits_signed (negsuc n) h = grind (arith, nat_tests)

pub fits_by_test : (z : ℤ) → fits_i64 z ≡ true → SFits w64 z
fits_by_test (pos n) h = search arith
fits_by_test (negsuc n) h = search arith

unfit-front : (a b : Bool) → b ≡ false → (a && b) ≡ false
unfit-front true b h = h
unfit-front false b h = refl

unfit-put : (z : ℤ) (s : ℕ) (ts : Terms) → fits_i64 z ≡ false → fits_terms (put z s ts) ≡ false
unfit-put (pos zero) s ts h = absurd cc
unfit-put (pos (suc n)) s ts h = ap (λ b. b && fits_terms ts) h
unfit-put (negsuc n) s ts h = ap (λ b. b && fits_terms ts) h

-- a coefficient that is no i64 stays in the result
unfit : (out rest all : Terms) (z : ℤ) (s : ℕ) → out ++ put z s rest ≡ all → fits_i64 z ≡ false → fits_terms all ≡ false
unfit out rest all z s e h = ap fits_terms (sym e) ∙ fits-append out (put z s rest) ∙ unfit-front _ _ (unfit-put z s rest h)

-- one more term
pub kept : (out out' : List Term) (t : Term) → out' ≡ out ++ t ∷ [] → (rest : Terms) → terms out' ++ rest ≡ terms out ++ term t ∷ rest
kept out out' t e rest = ap (λ ts. terms ts ++ rest) e ∙ ap (λ ts. ts ++ rest) (terms-append out (t ∷ [])) ∙ append_assoc (terms out) (term t ∷ []) rest

both : (a b c : Bool) → c ≡ (a && b) → a ≡ true → b ≡ true → c ≡ true
both true true c e p q = e
both false b c e p q = absurd cc
both true false c e p q = absurd cc

fits_both : (out more all : List Term) → all ≡ out ++ more → fits_terms (terms out) ≡ true → fits_terms (terms more) ≡ true → fits_terms (terms all) ≡ true
fits_both out more all e p q = both _ _ _ (ap (λ ts. fits_terms (terms ts)) e ∙ ap fits_terms (terms-append out more) ∙ fits-append (terms out) (terms more)) p q

pub kept_fits : (out out' : List Term) (t : Term) → out' ≡ out ++ t ∷ [] → SFits w64 t.coefficient → fits_terms (terms out) ≡ true → fits_terms (terms out') ≡ true
kept_fits out out' t e r h = fits_both out (t ∷ []) out' e h (ap (λ b. b && true) (fits_signed t.coefficient r))

later : (a b : Bool) → (a && b) ≡ true → b ≡ true
later true b h = h
later false b h = absurd cc

pub fits_drop : (i : ℕ) (a : List Term) → fits_terms (terms a) ≡ true → fits_terms (terms (drop i a)) ≡ true
fits_drop zero a h = h
fits_drop (suc i) [] h = refl
fits_drop (suc i) (t ∷ a) h = fits_drop i a (later _ _ h)

-- what is left of a list is added at the end
pub fits_rest : (out end a : List Term) (i : ℕ) → end ≡ out ++ drop i a → fits_terms (terms out) ≡ true → fits_terms (terms a) ≡ true → fits_terms (terms end) ≡ true
fits_rest out end a i e p q = fits_both out (drop i a) end e p (fits_drop i a q)

pub merge-none : (a : Terms) → merge a [] ≡ a
merge-none [] = refl
merge-none (x ∷ a) = ap (λ ts. x ∷ ts) (merge-none a)

terms-past : (b : List Term) (j : ℕ) → length b ≤ j → terms (drop j b) ≡ []
terms-past b j h = ap terms (drop_all j b h)

pub merged_rest : (k : ℤ) (out end a b : List Term) (i j : ℕ) (all : Terms) → end ≡ out ++ drop i a → length b ≤ j → terms out ++ merge (terms (drop i a)) (multiples k (terms (drop j b))) ≡ all → terms end ≡ all
merged_rest k out end a b i j all e h same =
    ap terms e ∙ terms-append out (drop i a) ∙ ap (λ ts. terms out ++ ts) (sym (merge-none (terms (drop i a)))) ∙ ap (λ ts. terms out ++ merge (terms (drop i a)) (multiples k ts)) (sym (terms-past b j h)) ∙ same

-- one turn of the merging
pub taken : (F : Terms → Terms) (out out' rest rest' all : Terms) → ((more : Terms) → out' ++ more ≡ out ++ F more) → rest ≡ F rest' → out ++ rest ≡ all → out' ++ rest' ≡ all
taken F out out' rest rest' all k e same = k rest' ∙ ap (λ ts. out ++ ts) (sym e) ∙ same

unfit_at : (out rest more all : Terms) (z : ℤ) (s : ℕ) → rest ≡ put z s more → out ++ rest ≡ all → fits_i64 z ≡ false → fits_terms all ≡ false
unfit_at out rest more all z s e same h = unfit out more all z s (ap (λ ts. out ++ ts) (sym e) ∙ same) h

rising_drop : (i : ℕ) (a : List Term) → IsRising 0 (terms a) → IsRising 0 (terms (drop i a))
rising_drop zero a r = r
rising_drop (suc i) [] r = tt
rising_drop (suc i) (t ∷ a) r = rising_drop i a (rising_from (suc t.symbol.number) 0 (terms a) (omega arith) r.2)

rising_at : (a : List Term) (i : ℕ) → i < length a → are_rising a ≡ true → IsRising 0 (term (get_or a i no_term) ∷ terms (drop (i + 1) a))
rising_at a i h r = subst (IsRising 0) (terms-drop a i no_term h) (rising_drop i a (rising_true 0 (terms a) r))

pub merge_left : (k : ℤ) (a b : List Term) (i j : ℕ) → are_rising b ≡ true → i < length a → j < length b → (get_or a i no_term).symbol.number < (get_or b j no_term).symbol.number
    → merge (terms (drop i a)) (multiples k (terms (drop j b))) ≡ term (get_or a i no_term) ∷ merge (terms (drop (i + 1) a)) (multiples k (terms (drop j b)))
merge_left k a b i j r p q h =
    let y = term (get_or b j no_term) in
    let t = rising_at b j q r in
    let u : IsRising y.symbol (multiples k (terms (drop j b))) = subst (λ ts. IsRising y.symbol (multiples k ts)) (sym (terms-drop b j no_term q)) (rising-multiples y.symbol k (y ∷ terms (drop (j + 1) b)) (omega arith, t.1, t.2)) in
    ap (λ ts. merge ts (multiples k (terms (drop j b)))) (terms-drop a i no_term p) ∙ merge_under (term (get_or a i no_term)) (terms (drop (i + 1) a)) (multiples k (terms (drop j b))) y.symbol h u

pub merge_both : (k : ℤ) (a b : List Term) (i j : ℕ) → are_rising a ≡ true → are_rising b ≡ true → i < length a → j < length b → (get_or a i no_term).symbol.number ≡ (get_or b j no_term).symbol.number
    → merge (terms (drop i a)) (multiples k (terms (drop j b))) ≡ put ((get_or a i no_term).coefficient +ℤ k *ℤ (get_or b j no_term).coefficient) (get_or a i no_term).symbol.number (merge (terms (drop (i + 1) a)) (multiples k (terms (drop (j + 1) b))))
merge_both k a b i j ra rb p q h =
    let x = term (get_or a i no_term) in
    let y = term (get_or b j no_term) in
    let s = rising_at a i p ra in
    let t = rising_at b j q rb in
    ap (λ ts. merge ts (multiples k (terms (drop j b)))) (terms-drop a i no_term p) ∙ ap (λ ts. merge (x ∷ terms (drop (i + 1) a)) (multiples k ts)) (terms-drop b j no_term q)
    ∙ merge_put_same x (terms (drop (i + 1) a)) (k *ℤ y.coefficient) y.symbol (multiples k (terms (drop (j + 1) b))) h s.1 (rising-multiples (suc y.symbol) k (terms (drop (j + 1) b)) t.2)

above : (a : List Term) (i s : ℕ) (z : ℤ) (b : Terms) → (length a ≤ i) ⊎ (s < (get_or a i no_term).symbol.number) → merge (terms (drop i a)) (put z s b) ≡ put z s (merge (terms (drop i a)) b)
above [] i s z b h = ap (λ ts. merge (terms ts) (put z s b)) (drop-nil i) ∙ ap (λ ts. put z s (merge (terms ts) b)) (sym (drop-nil i))
above (t ∷ a) zero s z b h = elim h [ inl e ↦ absurd (omega arith) | inr e ↦ merge_put_above (term t) (terms a) z s b e ]
above (t ∷ a) (suc i) s z b h = above a i s z b (elim h as (λ _. (length a ≤ i) ⊎ (s < (get_or a i no_term).symbol.number)) [ inl e ↦ inl (omega arith) | inr e ↦ inr e ])

pub merge_right : (k : ℤ) (a b : List Term) (i j : ℕ) → j < length b → (length a ≤ i) ⊎ ((get_or b j no_term).symbol.number < (get_or a i no_term).symbol.number)
    → merge (terms (drop i a)) (multiples k (terms (drop j b))) ≡ put (k *ℤ (get_or b j no_term).coefficient) (get_or b j no_term).symbol.number (merge (terms (drop i a)) (multiples k (terms (drop (j + 1) b))))
merge_right k a b i j q h = ap (λ ts. merge (terms (drop i a)) (multiples k ts)) (terms-drop b j no_term q) ∙ above a i _ _ _ h

pub unfit_both : (k : ℤ) (a b : List Term) (i j : ℕ) → are_rising a ≡ true → are_rising b ≡ true → i < length a → j < length b → (get_or a i no_term).symbol.number ≡ (get_or b j no_term).symbol.number
    → (out all : Terms) → out ++ merge (terms (drop i a)) (multiples k (terms (drop j b))) ≡ all → fits_i64 ((get_or a i no_term).coefficient +ℤ k *ℤ (get_or b j no_term).coefficient) ≡ false → fits_terms all ≡ false
unfit_both k a b i j ra rb p q h out all = unfit_at out _ (merge (terms (drop (i + 1) a)) (multiples k (terms (drop (j + 1) b)))) all ((get_or a i no_term).coefficient +ℤ k *ℤ (get_or b j no_term).coefficient) (get_or a i no_term).symbol.number (merge_both k a b i j ra rb p q h)

pub unfit_right : (k : ℤ) (a b : List Term) (i j : ℕ) → j < length b → (length a ≤ i) ⊎ ((get_or b j no_term).symbol.number < (get_or a i no_term).symbol.number)
    → (out all : Terms) → out ++ merge (terms (drop i a)) (multiples k (terms (drop j b))) ≡ all → fits_i64 (k *ℤ (get_or b j no_term).coefficient) ≡ false → fits_terms all ≡ false
unfit_right k a b i j q h out all = unfit_at out _ (merge (terms (drop i a)) (multiples k (terms (drop (j + 1) b)))) all (k *ℤ (get_or b j no_term).coefficient) (get_or b j no_term).symbol.number (merge_right k a b i j q h)
