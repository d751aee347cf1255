-- Lines of parameters, one after another.
use Rattle.std.proofs.Common.{◌≡◌, ℕ, ◌+◌, ◌<◌, ◌≤◌, List, [], ◌∷◌, ◌++◌, length, drop, get_or, map, Option, None, Some, Ok, refl, ap, sym, ◌∙◌}
use Rattle.std.proofs.lemmas.List.{drop_more, drop_all}
use Rattle.texts.specs.Surface as surface
use Rattle.launch_text.specs.LaunchFaults.{Cursor, Step, then}
use Rattle.launch_text.specs.LaunchWords.{go_on, each}

each_row : {A : Type 0} (line : List A → surface.Parameter → Option (Cursor → Step (A × Cursor))) (done : List A) (p : surface.Parameter) (ps : List surface.Parameter) (c : Cursor) → each line done (p ∷ ps) c ≡ go_on (line done p) done c (λ more d. each line more ps d)
unfolding each
each_row line done p ps c = refl

row : {A B : Type 0} (view : A → B) (xs : List A) (i : ℕ) (x : A) → i < length xs → x ≡ get_or xs i x → map view (drop i xs) ≡ view x ∷ map view (drop (i + 1) xs)
row view xs i x h e = ap (map view) (drop_more xs i x h) ∙ ap (λ y. view y ∷ map view (drop (i + 1) xs)) (sym e)

pub each_over : {A B : Type 0} (line : List A → surface.Parameter → Option (Cursor → Step (A × Cursor))) (done : List A) (view : B → surface.Parameter) (xs : List B) (i : ℕ) (c : Cursor) → length xs ≤ i → each line done (map view (drop i xs)) c ≡ Ok (done, c)
unfolding each
each_over line done view xs i c h = ap (λ ys. each line done (map view ys) c) (drop_all i xs h)

pub each_skips : {A B : Type 0} (line : List A → surface.Parameter → Option (Cursor → Step (A × Cursor))) (done : List A) (view : B → surface.Parameter) (xs : List B) (i : ℕ) (x : B) (c : Cursor) → i < length xs → x ≡ get_or xs i x → line done (view x) ≡ None → each line done (map view (drop i xs)) c ≡ each line done (map view (drop (i + 1) xs)) c
each_skips line done view xs i x c h e n =
    ap (λ ps. each line done ps c) (row view xs i x h e) ∙ each_row line done (view x) (map view (drop (i + 1) xs)) c
    ∙ ap (λ o. go_on o done c (λ more d. each line more (map view (drop (i + 1) xs)) d)) n

pub each_due : {A B : Type 0} (line : List A → surface.Parameter → Option (Cursor → Step (A × Cursor))) (done : List A) (view : B → surface.Parameter) (xs : List B) (i : ℕ) (x : B) (c : Cursor) (own : Cursor → Step (A × Cursor)) → i < length xs → x ≡ get_or xs i x → line done (view x) ≡ Some own → each line done (map view (drop i xs)) c ≡ then (own c) (λ t. each line (done ++ t.0 ∷ []) (map view (drop (i + 1) xs)) t.1)
each_due line done view xs i x c own h e s =
    ap (λ ps. each line done ps c) (row view xs i x h e) ∙ each_row line done (view x) (map view (drop (i + 1) xs)) c
    ∙ ap (λ o. go_on o done c (λ more d. each line more (map view (drop (i + 1) xs)) d)) s
