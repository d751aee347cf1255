-- The limits of bounds that are listed have their turns.
use Rattle.std.proofs.Common.{◌≡◌, ℕ, ◌<◌, Bool, true, false, nat_eq, cond, List, [], ◌∷◌, arith, refl}
use Rattle.std.specs.Prelude.{ℤ, pos, negsuc, ◌^◌}
use Rattle.std.proofs.lemmas.Bool.Decides.{nat_tests}
use Rattle.std.proofs.lemmas.Int.{ints}
use Rattle.linear.specs.Exact.{fits_i64}
use Rattle.loop_bounds.specs.Falling as falling
use Rattle.loop_bounds.specs.Turns.{above, turns, turns_of}
use Rattle.loop_bounds.specs.declared.bound.Bound.{Bound}
use Rattle.loop_bounds.specs.declared.bound.Bound.TheVariants as bounds
use Rattle.loop_bounds.specs.declared.bound.LoopBound.{LoopBound}
use Rattle.rankings.specs.Limits.{IsLimit, turns_within, limit_of, limits, AreFitting}

limit-turns : (b : Bound) → turns_within (limit_of b) ≡ turns b
limit-turns (bounds.Down form step m) = refl
limit-turns (bounds.Halving form m) = refl
limit-turns (bounds.Doubling form least m) = refl

pub limits-turns : (bs : List LoopBound) (n : ℕ) → turns_within (limits bs n) ≡ turns_of bs n
limits-turns [] n = refl
limits-turns (b ∷ bs) n = by (nat_eq b.number n) (limits-turns bs n)
  where
    by : (x : Bool) → turns_within (limits bs n) ≡ turns_of bs n → turns_within (cond x (limit_of b.bound) (limits bs n)) ≡ cond x (turns b.bound) (turns_of bs n)
    by true h = limit-turns b.bound
    by false h = h

above_small : (m : ℤ) → fits_i64 m ≡ true → above m < 2 ^ 64
above_small (pos n) h = grind (arith, nat_tests)
above_small (negsuc n) h = omega arith

is_limit : (b : Bound) → fits_i64 (falling.most b) ≡ true → IsLimit (limit_of b)
is_limit (bounds.Down form step m) h = step.falls
is_limit (bounds.Halving form m) h = above_small m h
is_limit (bounds.Doubling form least m) h = (omega (arith, ints, least.grows), above_small m h)

-- whose numbers are of 64 bits
pub limits-are : (bs : List LoopBound) → AreFitting bs → (n : ℕ) → IsLimit (limits bs n)
limits-are [] h n = omega arith
limits-are (b ∷ bs) h n = by (nat_eq b.number n) (limits-are bs h.1 n)
  where
    by : (x : Bool) → IsLimit (limits bs n) → IsLimit (cond x (limit_of b.bound) (limits bs n))
    by true g = is_limit b.bound h.0
    by false g = g
