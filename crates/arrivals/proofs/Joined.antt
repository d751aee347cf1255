-- What a list has that is two lists joined.
use Rattle.std.proofs.Common.{List, [], ◌∷◌, ◌++◌, inl, inr}
use Rattle.arrivals.specs.Points.{Has}
use Rattle.std.specs.Prelude.{◌⊎◌}

pub has_left : {A : Type 0} (x : A) (xs ys : List A) → Has x xs → Has x (xs ++ ys)
has_left x [] ys h = absurd h
has_left x (y ∷ xs) ys (inl e) = inl e
has_left x (y ∷ xs) ys (inr k) = inr (has_left x xs ys k)

pub has_right : {A : Type 0} (x : A) (xs ys : List A) → Has x ys → Has x (xs ++ ys)
has_right x [] ys h = h
has_right x (y ∷ xs) ys h = inr (has_right x xs ys h)

pub has_either : {A : Type 0} (x : A) (xs ys : List A) → Has x (xs ++ ys) → Has x xs ⊎ Has x ys
has_either x [] ys h = inr h
has_either x (y ∷ xs) ys (inl e) = inl (inl e)
has_either x (y ∷ xs) ys (inr h) = by (has_either x xs ys h)
  where
    by : Has x xs ⊎ Has x ys → Has x (y ∷ xs) ⊎ Has x ys
    by (inl k) = inl (inr k)
    by (inr k) = inr k
