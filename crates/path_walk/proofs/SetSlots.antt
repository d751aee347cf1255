-- Variables set.
use Rattle.std.proofs.Common.{◌≡◌, ◌≤◌, ℕ, List, length, map, slice_set, sym, subst}
use Rattle.std.proofs.lemmas.List.{map-set, set_past, length-map}

pub set_seen : {A B : Type 0} (f : A → B) (xs : List A) (i : ℕ) (x : A) → map f (slice_set xs i x) ≡ slice_set (map f xs) i (f x)
set_seen f xs i x = map-set f xs i x

pub set_beyond : {A B : Type 0} (f : A → B) (xs : List A) (i : ℕ) (x : A) → length xs ≤ i → map f xs ≡ slice_set (map f xs) i (f x)
set_beyond f xs i x h = sym (set_past (map f xs) i (f x) (subst (λ n. n ≤ i) (sym (length-map xs f)) h))
