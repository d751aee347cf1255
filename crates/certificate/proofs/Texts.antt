-- Texts of elements, one after another.
use Rattle.std.proofs.Common.{◌≡◌, ℕ, ◌+◌, ◌<◌, ◌≤◌, List, [], ◌∷◌, ◌++◌, length, drop, get_or, map, ap, refl, sym, ◌∙◌, append_assoc}
use Rattle.std.specs.List.{flat_map}
use Rattle.std.proofs.lemmas.List.{drop_more, drop_all, append-nil}
use Rattle.lines.specs.Lines.{text_of_lines}

pub lines-append : (a b : List (List ℕ)) → text_of_lines (a ++ b) ≡ text_of_lines a ++ text_of_lines b
lines-append [] b = refl
lines-append (x ∷ a) b = ap (λ t. (x ++ 10 ∷ []) ++ t) (lines-append a b) ∙ sym (append_assoc (x ++ 10 ∷ []) (text_of_lines a) (text_of_lines b))

onto : (out a new b whole rest : List ℕ) → new ≡ out ++ a → out ++ b ≡ whole → b ≡ a ++ rest → new ++ rest ≡ whole
onto out a new b whole rest p q r = ap (λ t. t ++ rest) p ∙ append_assoc out a rest ∙ ap (λ t. out ++ t) (sym r) ∙ q

-- with the text of the element at an index
pub one_more : {A B : Type 0} (text : B → List ℕ) (view : A → B) (xs : List A) (i : ℕ) (x : A) (out new whole : List ℕ) → i < length xs → x ≡ get_or xs i x → new ≡ out ++ text (view x) → out ++ flat_map text (map view (drop i xs)) ≡ whole → new ++ flat_map text (map view (drop (i + 1) xs)) ≡ whole
one_more text view xs i x out new whole h e p q =
    onto out (text (view x)) new (flat_map text (map view (drop i xs))) whole (flat_map text (map view (drop (i + 1) xs))) p q
    (ap (λ ys. flat_map text (map view ys)) (drop_more xs i x h) ∙ ap (λ y. text (view y) ++ flat_map text (map view (drop (i + 1) xs))) (sym e))

pub no_more : {A B : Type 0} (text : B → List ℕ) (view : A → B) (xs : List A) (i : ℕ) (out whole : List ℕ) → length xs ≤ i → out ++ flat_map text (map view (drop i xs)) ≡ whole → out ≡ whole
no_more text view xs i out whole h q = sym (append-nil out) ∙ ap (λ ys. out ++ flat_map text (map view ys)) (sym (drop_all i xs h)) ∙ q

-- with its line
pub one_line : {A B : Type 0} (line : B → List ℕ) (view : A → B) (xs : List A) (i : ℕ) (x : A) (out new whole : List ℕ) → i < length xs → x ≡ get_or xs i x → new ≡ out ++ (line (view x) ++ 10 ∷ []) → out ++ text_of_lines (map line (map view (drop i xs))) ≡ whole → new ++ text_of_lines (map line (map view (drop (i + 1) xs))) ≡ whole
one_line line view xs i x out new whole h e p q =
    onto out (line (view x) ++ 10 ∷ []) new (text_of_lines (map line (map view (drop i xs)))) whole (text_of_lines (map line (map view (drop (i + 1) xs)))) p q
    (ap (λ ys. text_of_lines (map line (map view ys))) (drop_more xs i x h) ∙ ap (λ y. (line (view y) ++ 10 ∷ []) ++ text_of_lines (map line (map view (drop (i + 1) xs)))) (sym e))

pub no_line : {A B : Type 0} (line : B → List ℕ) (view : A → B) (xs : List A) (i : ℕ) (out whole : List ℕ) → length xs ≤ i → out ++ text_of_lines (map line (map view (drop i xs))) ≡ whole → out ≡ whole
no_line line view xs i out whole h q = sym (append-nil out) ∙ ap (λ ys. out ++ text_of_lines (map line (map view ys))) (sym (drop_all i xs h)) ∙ q

-- with its lines
pub one_block : {A B : Type 0} (lines : B → List (List ℕ)) (view : A → B) (xs : List A) (i : ℕ) (x : A) (out new whole : List ℕ) → i < length xs → x ≡ get_or xs i x → new ≡ out ++ text_of_lines (lines (view x)) → out ++ text_of_lines (flat_map lines (map view (drop i xs))) ≡ whole → new ++ text_of_lines (flat_map lines (map view (drop (i + 1) xs))) ≡ whole
one_block lines view xs i x out new whole h e p q =
    onto out (text_of_lines (lines (view x))) new (text_of_lines (flat_map lines (map view (drop i xs)))) whole (text_of_lines (flat_map lines (map view (drop (i + 1) xs)))) p q
    (ap (λ ys. text_of_lines (flat_map lines (map view ys))) (drop_more xs i x h)
    ∙ ap (λ y. text_of_lines (lines (view y) ++ flat_map lines (map view (drop (i + 1) xs)))) (sym e)
    ∙ lines-append (lines (view x)) (flat_map lines (map view (drop (i + 1) xs))))

pub no_block : {A B : Type 0} (lines : B → List (List ℕ)) (view : A → B) (xs : List A) (i : ℕ) (out whole : List ℕ) → length xs ≤ i → out ++ text_of_lines (flat_map lines (map view (drop i xs))) ≡ whole → out ≡ whole
no_block lines view xs i out whole h q = sym (append-nil out) ∙ ap (λ ys. out ++ text_of_lines (flat_map lines (map view ys))) (sym (drop_all i xs h)) ∙ q

-- a line, and three rows of lines
pub four : (out line : List ℕ) (a b c : List (List ℕ)) → (((out ++ (line ++ 10 ∷ [])) ++ text_of_lines a) ++ text_of_lines b) ++ text_of_lines c ≡ out ++ text_of_lines (line ∷ (a ++ (b ++ c)))
four out line a b c =
    simp append_assoc (ap (λ t. out ++ (line ++ (10 ∷ t))) (sym (lines-append a (b ++ c) ∙ ap (λ t. text_of_lines a ++ t) (lines-append b c))))

-- a line, and four rows of lines
pub five : (out line : List ℕ) (a b c d : List (List ℕ)) → ((((out ++ (line ++ 10 ∷ [])) ++ text_of_lines a) ++ text_of_lines b) ++ text_of_lines c) ++ text_of_lines d ≡ out ++ text_of_lines (line ∷ (a ++ (b ++ (c ++ d))))
five out line a b c d =
    append_assoc (((out ++ (line ++ 10 ∷ [])) ++ text_of_lines a) ++ text_of_lines b) (text_of_lines c) (text_of_lines d)
    ∙ ap (λ t. (((out ++ (line ++ 10 ∷ [])) ++ text_of_lines a) ++ text_of_lines b) ++ t) (sym (lines-append c d)) ∙ four out line a b (c ++ d)

-- the first line, three rows of lines, and the last line
pub whole : (first last : List ℕ) (a b c : List (List ℕ)) → (((first ++ text_of_lines a) ++ text_of_lines b) ++ text_of_lines c) ++ (last ++ 10 ∷ []) ≡ first ++ text_of_lines ((a ++ (b ++ c)) ++ last ∷ [])
whole first last a b c =
    simp append_assoc (ap (λ t. first ++ t) (sym (lines-append a (b ++ (c ++ last ∷ [])) ∙ ap (λ t. text_of_lines a ++ t) (lines-append b (c ++ last ∷ []) ∙ ap (λ t. text_of_lines b ++ t) (lines-append c (last ∷ []) ∙ ap (λ t. text_of_lines c ++ t) (append-nil (last ++ 10 ∷ [])))))))
