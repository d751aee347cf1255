-- Lists that are made of lists, one by one.
use Rattle.std.proofs.Common.{◌≡◌, ℕ, ◌+◌, ◌<◌, ◌≤◌, List, [], ◌∷◌, ◌++◌, length, map, drop, get_or, append_assoc, append-nil, ap, sym, ◌∙◌}
use Rattle.std.proofs.lemmas.List.{map-append, drop_more, drop_all}

-- a list made one by one of another list
pub one_made : {A B C : Type 0} (f : B → C) (g : A → B) (xs : List A) (i : ℕ) (x : A) (ys ys' : List C) (y : C) (all : List C) → i < length xs → x ≡ get_or xs i x → ys' ≡ ys ++ y ∷ [] → y ≡ f (g x) → ys ++ map f (map g (drop i xs)) ≡ all → ys' ++ map f (map g (drop (i + 1) xs)) ≡ all
one_made f g xs i x ys ys' y all h e p q w =
    let rest = map f (map g (drop (i + 1) xs)) in
    ap (λ l. l ++ rest) p ∙ append_assoc ys (y ∷ []) rest ∙ ap (λ z. ys ++ z ∷ rest) (q ∙ ap (λ z. f (g z)) e) ∙ ap (λ l. ys ++ map f (map g l)) (sym (drop_more xs i x h)) ∙ w

pub one_seen : {A B C D : Type 0} (v : D → C) (f : B → C) (g : A → B) (xs : List A) (i : ℕ) (x : A) (ys ys' : List D) (y : D) (all : List C) → i < length xs → x ≡ get_or xs i x → ys' ≡ ys ++ y ∷ [] → v y ≡ f (g x) → map v ys ++ map f (map g (drop i xs)) ≡ all → map v ys' ++ map f (map g (drop (i + 1) xs)) ≡ all
one_seen v f g xs i x ys ys' y all h e p q w = one_made f g xs i x (map v ys) (map v ys') (v y) all h e (ap (map v) p ∙ map-append v ys (y ∷ [])) q w

pub all_made : {A B C : Type 0} (f : B → C) (g : A → B) (xs : List A) (i : ℕ) (ys all : List C) → length xs ≤ i → ys ++ map f (map g (drop i xs)) ≡ all → ys ≡ all
all_made f g xs i ys all h w = sym (append-nil ys) ∙ ap (λ l. ys ++ map f (map g l)) (sym (drop_all i xs h)) ∙ w

pub ruleset made = (one_made, one_seen, all_made)
