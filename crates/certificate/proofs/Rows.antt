-- Tests of all elements, and of each one and the next.
use Rattle.std.proofs.Common.{◌≡◌, ℕ, ◌+◌, ◌<◌, ◌≤◌, Bool, true, false, List, [], ◌∷◌, length, drop, get_or, map, arith, refl, ap, sym, ◌∙◌, length-drop}
use Rattle.std.proofs.lemmas.List.{drop_more, drop_all, length-map}
use Rattle.certificate_text.specs.Rules.{all, rises}

at : {A B : Type 0} (view : A → B) (xs : List A) (i : ℕ) (x : A) → i < length xs → x ≡ get_or xs i x → map view (drop i xs) ≡ view x ∷ map view (drop (i + 1) xs)
at view xs i x h e = ap (map view) (drop_more xs i x h) ∙ ap (λ y. view y ∷ map view (drop (i + 1) xs)) (sym e)

all_cons : {B : Type 0} (test : B → Bool) (b : B) (bs : List B) → test b ≡ true → all test (b ∷ bs) ≡ all test bs
all_cons test b bs h = rw h refl

all_fails : {B : Type 0} (test : B → Bool) (b : B) (bs : List B) → test b ≡ false → all test (b ∷ bs) ≡ false
all_fails test b bs h = rw h refl

pub all_more : {A B : Type 0} (test : B → Bool) (view : A → B) (xs : List A) (i : ℕ) (x : A) (whole : Bool) → i < length xs → x ≡ get_or xs i x → true ≡ test (view x) → all test (map view (drop i xs)) ≡ whole → all test (map view (drop (i + 1) xs)) ≡ whole
all_more test view xs i x whole h e t w = sym (all_cons test (view x) (map view (drop (i + 1) xs)) (sym t)) ∙ ap (all test) (sym (at view xs i x h e)) ∙ w

pub all_stops : {A B : Type 0} (test : B → Bool) (view : A → B) (xs : List A) (i : ℕ) (x : A) (whole : Bool) → i < length xs → x ≡ get_or xs i x → false ≡ test (view x) → all test (map view (drop i xs)) ≡ whole → false ≡ whole
all_stops test view xs i x whole h e t w = sym (all_fails test (view x) (map view (drop (i + 1) xs)) (sym t)) ∙ ap (all test) (sym (at view xs i x h e)) ∙ w

pub all_over : {A B : Type 0} (test : B → Bool) (view : A → B) (xs : List A) (i : ℕ) (whole : Bool) → length xs ≤ i → all test (map view (drop i xs)) ≡ whole → true ≡ whole
all_over test view xs i whole h w = ap (λ ys. all test (map view ys)) (sym (drop_all i xs h)) ∙ w

pub ruleset all_rows = (all_more, all_stops, all_over)

two : {A B : Type 0} (view : A → B) (xs : List A) (i : ℕ) (x y : A) → i + 1 < length xs → x ≡ get_or xs i x → y ≡ get_or xs (i + 1) y → map view (drop i xs) ≡ view x ∷ view y ∷ map view (drop (i + 1 + 1) xs)
two view xs i x y h p q = at view xs i x (omega arith) p ∙ ap (λ bs. view x ∷ bs) (at view xs (i + 1) y h q)

rises_cons : {B : Type 0} (before : B → B → Bool) (a b : B) (bs : List B) → before a b ≡ true → rises before (a ∷ b ∷ bs) ≡ rises before (b ∷ bs)
rises_cons before a b bs h = rw h refl

rises_fails : {B : Type 0} (before : B → B → Bool) (a b : B) (bs : List B) → before a b ≡ false → rises before (a ∷ b ∷ bs) ≡ false
rises_fails before a b bs h = rw h refl

pub rises_more : {A B : Type 0} (before : B → B → Bool) (view : A → B) (xs : List A) (i : ℕ) (x y : A) (whole : Bool) → i + 1 < length xs → x ≡ get_or xs i x → y ≡ get_or xs (i + 1) y → true ≡ before (view x) (view y) → rises before (map view (drop i xs)) ≡ whole → rises before (map view (drop (i + 1) xs)) ≡ whole
rises_more before view xs i x y whole h p q t w =
    ap (rises before) (at view xs (i + 1) y h q) ∙ sym (rises_cons before (view x) (view y) (map view (drop (i + 1 + 1) xs)) (sym t)) ∙ ap (rises before) (sym (two view xs i x y h p q)) ∙ w

pub rises_stops : {A B : Type 0} (before : B → B → Bool) (view : A → B) (xs : List A) (i : ℕ) (x y : A) (whole : Bool) → i + 1 < length xs → x ≡ get_or xs i x → y ≡ get_or xs (i + 1) y → false ≡ before (view x) (view y) → rises before (map view (drop i xs)) ≡ whole → false ≡ whole
rises_stops before view xs i x y whole h p q t w =
    sym (rises_fails before (view x) (view y) (map view (drop (i + 1 + 1) xs)) (sym t)) ∙ ap (rises before) (sym (two view xs i x y h p q)) ∙ w

few : {B : Type 0} (before : B → B → Bool) (bs : List B) → length bs ≤ 1 → rises before bs ≡ true
few before [] h = refl
few before (a ∷ []) h = refl
few before (a ∷ b ∷ bs) h = absurd (omega arith)

pub rises_over : {A B : Type 0} (before : B → B → Bool) (view : A → B) (xs : List A) (i : ℕ) (whole : Bool) → length xs ≤ i + 1 → rises before (map view (drop i xs)) ≡ whole → true ≡ whole
rises_over {A = A} before view xs i whole h w = sym (few before (map view (drop i xs)) (simp (length-map, length-drop) (omega arith))) ∙ w

pub ruleset rising_rows = (rises_more, rises_stops, rises_over)
