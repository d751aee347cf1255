-- A number only grows by its further digits.
use Rattle.std.proofs.Common.{ℕ, ◌+◌, ◌-◌, ◌*◌, ◌<◌, ◌≤◌, List, [], ◌∷◌, length, drop, get_or, arith}
use Rattle.std.specs.Prelude.{fold}
use Rattle.std.proofs.lemmas.List.{drop_more}

grows : (digits : List ℕ) (n : ℕ) → n ≤ fold (λ n b. n * 10 + (b - 48)) n digits
grows [] n = omega arith
grows (b ∷ digits) n = omega (arith, grows digits (n * 10 + (b - 48)))

pub grows_at : (digits : List ℕ) (i n : ℕ) → i < length digits → n * 10 + (get_or digits i 0 - 48) ≤ fold (λ n b. n * 10 + (b - 48)) n (drop i digits)
grows_at digits i n h = rw (drop_more digits i 0) (grows (drop (i + 1) digits) (n * 10 + (get_or digits i 0 - 48)))
