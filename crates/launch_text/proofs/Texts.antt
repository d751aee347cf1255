-- Texts of words and of buffers, one after another.
use Rattle.std.proofs.Common.{◌≡◌, ℕ, ◌+◌, ◌<◌, ◌≤◌, List, ◌++◌, length, drop, get_or, map, ap, sym, ◌∙◌, append_assoc}
use Rattle.std.specs.List.{flat_map}
use Rattle.std.proofs.lemmas.List.{drop_more, drop_all, append-nil}

pub onto : (out a new b whole rest : List ℕ) → new ≡ out ++ a → out ++ b ≡ whole → b ≡ a ++ rest → new ++ rest ≡ whole
onto out a new b whole rest p q r = ap (λ t. t ++ rest) p ∙ append_assoc out a rest ∙ ap (λ t. out ++ t) (sym r) ∙ q

pub one_word : {A B : Type 0} (text : B → List ℕ) (view : A → B) (xs : List A) (i : ℕ) (x : A) (out new whole : List ℕ) → i < length xs → x ≡ get_or xs i x → new ≡ out ++ text (view x) → out ++ flat_map text (map view (drop i xs)) ≡ whole → new ++ flat_map text (map view (drop (i + 1) xs)) ≡ whole
one_word text view xs i x out new whole h e p q =
    onto out (text (view x)) new (flat_map text (map view (drop i xs))) whole (flat_map text (map view (drop (i + 1) xs))) p q
    (ap (λ ys. flat_map text (map view ys)) (drop_more xs i x h) ∙ ap (λ y. text (view y) ++ flat_map text (map view (drop (i + 1) xs))) (sym e))

pub no_word : {A B : Type 0} (text : B → List ℕ) (view : A → B) (xs : List A) (i : ℕ) (out whole : List ℕ) → length xs ≤ i → out ++ flat_map text (map view (drop i xs)) ≡ whole → out ≡ whole
no_word text view xs i out whole h q = sym (append-nil out) ∙ ap (λ ys. out ++ flat_map text (map view ys)) (sym (drop_all i xs h)) ∙ q
