-- A word, so many times.
use Rattle.std.proofs.Common.{◌≡◌, ℕ, zero, suc, ◌∷◌, map, refl, ap}
use Rattle.std.specs.Prelude.{replicate}

pub map-filled : {A B : Type 0} (view : A → B) (n : ℕ) (a : A) → map view (replicate n a) ≡ replicate n (view a)
map-filled view zero a = refl
map-filled view (suc n) a = ap (λ xs. view a ∷ xs) (map-filled view n a)

pub ruleset filled = (map-filled)
