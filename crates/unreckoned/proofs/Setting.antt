-- A mark past the last one is none, and views have the lengths of what they show.
use Rattle.std.proofs.Common.{◌≡◌, ◌≤◌, ℕ, List, length, map, slice_set, sym}
use Rattle.std.proofs.lemmas.List.{set_past, length-map}

pub set_beyond : {A : Type 0} (xs : List A) (i : ℕ) (x : A) → length xs ≤ i → xs ≡ slice_set xs i x
set_beyond xs i x h = sym (set_past xs i x h)

pub seen_length : {A B : Type 0} (f : A → B) (xs : List A) → length (map f xs) ≡ length xs
seen_length f xs = length-map xs f
