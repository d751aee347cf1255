-- What a test makes of each, one by one.
use Rattle.std.proofs.Common.{◌≡◌, ℕ, ◌+◌, ◌<◌, ◌≤◌, List, [], ◌∷◌, ◌++◌, length, drop, get_or, map, Option, None, Some, refl, ap, sym, ◌∙◌}
use Rattle.std.proofs.lemmas.List.{drop_more, drop_all, append_assoc, append-nil, map-append}
use Rattle.certificate_notes.specs.Behind.{after}
use Rattle.certificate_notes.specs.Noted.{put_first, each}

pub at : {A B : Type 0} (view : A → B) (xs : List A) (i : ℕ) (x : A) → i < length xs → x ≡ get_or xs i x → map view (drop i xs) ≡ view x ∷ map view (drop (i + 1) xs)
at view xs i x h e = ap (map view) (drop_more xs i x h) ∙ ap (λ y. view y ∷ map view (drop (i + 1) xs)) (sym e)

pub after-one : {B : Type 0} (bs : List B) (b : B) (r : Option (List B)) → after (bs ++ b ∷ []) r ≡ after bs (put_first (Some b) r)
after-one bs b None = refl
after-one bs b (Some cs) = ap Some (append_assoc bs (b ∷ []) cs)

pub after-none : {B : Type 0} (bs : List B) → after bs (Some []) ≡ Some bs
after-none bs = ap Some (append-nil bs)

pub after-nothing : {B : Type 0} (r : Option (List B)) → after [] r ≡ r
after-nothing None = refl
after-nothing (Some cs) = refl

pub plain_more : {A A' B : Type 0} (f : A' → Option B) (view : A → A') (xs : List A) (i : ℕ) (x : A) (out : List B) (b : B) (whole : Option (List B)) → i < length xs → x ≡ get_or xs i x → Some b ≡ f (view x) → after out (each f (map view (drop i xs))) ≡ whole → after (out ++ b ∷ []) (each f (map view (drop (i + 1) xs))) ≡ whole
plain_more f view xs i x out b whole h e t w =
    after-one out b (each f (map view (drop (i + 1) xs)))
    ∙ ap (λ o. after out (put_first o (each f (map view (drop (i + 1) xs))))) t
    ∙ ap (λ ys. after out (each f ys)) (sym (at view xs i x h e)) ∙ w

pub plain_stops : {A A' B : Type 0} (f : A' → Option B) (view : A → A') (xs : List A) (i : ℕ) (x : A) (out : List B) (whole : Option (List B)) → i < length xs → x ≡ get_or xs i x → None ≡ f (view x) → after out (each f (map view (drop i xs))) ≡ whole → None ≡ whole
plain_stops f view xs i x out whole h e t w =
    ap (λ o. after out (put_first o (each f (map view (drop (i + 1) xs))))) t
    ∙ ap (λ ys. after out (each f ys)) (sym (at view xs i x h e)) ∙ w

pub plain_over : {A A' B : Type 0} (f : A' → Option B) (view : A → A') (xs : List A) (i : ℕ) (out : List B) (whole : Option (List B)) → length xs ≤ i → after out (each f (map view (drop i xs))) ≡ whole → Some out ≡ whole
plain_over f view xs i out whole h w = sym (after-none out) ∙ ap (λ ys. after out (each f (map view ys))) (sym (drop_all i xs h)) ∙ w

pub each_more : {A A' B B' : Type 0} (f : A' → Option B') (view : A → A') (seen : B → B') (xs : List A) (i : ℕ) (x : A) (out : List B) (b : B) (whole : Option (List B')) → i < length xs → x ≡ get_or xs i x → Some (seen b) ≡ f (view x) → after (map seen out) (each f (map view (drop i xs))) ≡ whole → after (map seen (out ++ b ∷ [])) (each f (map view (drop (i + 1) xs))) ≡ whole
each_more f view seen xs i x out b whole h e t w =
    ap (λ o. after o (each f (map view (drop (i + 1) xs)))) (map-append seen out (b ∷ []))
    ∙ plain_more f view xs i x (map seen out) (seen b) whole h e t w

pub each_after : {B B' : Type 0} (seen : B → B') (out : List B) (b : B) (r : Option (List B')) → after (map seen (out ++ b ∷ [])) r ≡ after (map seen out) (put_first (Some (seen b)) r)
each_after seen out b r = ap (λ o. after o r) (map-append seen out (b ∷ [])) ∙ after-one (map seen out) (seen b) r

pub ruleset each_rows = (each_more, plain_more, plain_stops, plain_over)
