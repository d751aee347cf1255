-- Lists in which nothing stands twice.
use Rattle.std.proofs.Common.{ℕ, List, [], ◌∷◌, ◌++◌, refl, subst, inl, inr}
use Rattle.std.specs.Prelude.{◌⊎◌}
use Rattle.arrivals.specs.Points.{Has}
use Rattle.arrivals.proofs.Joined.{has_left, has_right, has_either}
use Rattle.sound_cores.specs.Told.{NoneTwice}

abbrev pub Apart : List ℕ → List ℕ → Type 0
Apart xs ys = (k : ℕ) → Has k xs → Has k ys → ⊥

pub once-left : (xs ys : List ℕ) → NoneTwice (xs ++ ys) → NoneTwice xs
once-left [] ys h = tt
once-left (x ∷ xs) ys h = (λ k. h.0 (has_left x xs ys k), once-left xs ys h.1)

pub once-right : (xs ys : List ℕ) → NoneTwice (xs ++ ys) → NoneTwice ys
once-right [] ys h = h
once-right (x ∷ xs) ys h = once-right xs ys h.1

pub once-apart : (xs ys : List ℕ) → NoneTwice (xs ++ ys) → Apart xs ys
once-apart [] ys h k a b = absurd a
once-apart (x ∷ xs) ys h k (inl e) b = h.0 (has_right x xs ys (subst (λ k. Has k ys) e b))
once-apart (x ∷ xs) ys h k (inr a) b = once-apart xs ys h.1 k a b

pub once-join : (xs ys : List ℕ) → NoneTwice xs → NoneTwice ys → Apart xs ys → NoneTwice (xs ++ ys)
once-join [] ys h k a = k
once-join (x ∷ xs) ys h k a = (λ m. by (has_either x xs ys m), once-join xs ys h.1 k (λ n p q. a n (inr p) q))
  where
    by : Has x xs ⊎ Has x ys → ⊥
    by (inl p) = h.0 p
    by (inr q) = a x (inl refl) q

-- what holds of all of two lists
pub both-have : (P : ℕ → Type 0) (xs ys : List ℕ) → ((k : ℕ) → Has k xs → P k) → ((k : ℕ) → Has k ys → P k) → (k : ℕ) → Has k (xs ++ ys) → P k
both-have P xs ys f g k h = by (has_either k xs ys h)
  where
    by : Has k xs ⊎ Has k ys → P k
    by (inl p) = f k p
    by (inr q) = g k q
