-- How a loop ends, in numbers alone: what ranks it is noted elsewhere.
use Rattle.std.specs.Prelude.{ℕ, ℤ, pos, ◌+ℤ◌, ◌≤ℤ◌, ◌<◌, ◌^◌, ◌/◌, nat_eq, cond, true, ◌≡◌, List, [], ◌∷◌}
use Rattle.std.specs.Int.{div_ceil}
use Rattle.loop_bounds.specs.declared.bound.Bound.{Bound}
use Rattle.loop_bounds.specs.declared.bound.Bound.TheVariants as bounds
use Rattle.loop_bounds.specs.declared.bound.LoopBound.{LoopBound}
use Rattle.linear.specs.Exact.{fits_i64}
use Rattle.loop_bounds.specs.Falling as falling
use Rattle.loop_bounds.specs.Turns.{above, digits}

-- each turn makes the rank less by a step at least, or at most half, from at most this down to above 0; or at least double, from at least
-- the least up to at most this
pub data Limit : Type 0 where
  Down : (step : ℕ) (most : ℤ) → Limit
  Halve : (most : ℤ) → Limit
  Double : (least most : ℤ) → Limit

-- a step is 1 at least, and so is what is doubled; numbers that are halved or doubled are of 64 bits
abbrev pub IsLimit : Limit → Type 0
IsLimit (Down step m) = 0 < step
IsLimit (Halve m) = above m < 2 ^ 64
IsLimit (Double least m) = (pos 1 ≤ℤ least) × (above m < 2 ^ 64)

-- the rank where the loop opens
abbrev pub Opens : Limit → ℤ → Type 0
Opens (Down step m) x = x ≤ℤ m
Opens (Halve m) x = x ≤ℤ m
Opens (Double least m) x = least ≤ℤ x

-- behind a true test
abbrev pub Holds : Limit → ℤ → Type 0
Holds (Down step m) x = pos 1 ≤ℤ x
Holds (Halve m) x = pos 1 ≤ℤ x
Holds (Double least m) x = x ≤ℤ m

-- behind a turn, by what it was at the test before
abbrev pub Falls : Limit → (before after : ℤ) → Type 0
Falls (Down step m) x y = (y +ℤ pos step) ≤ℤ x
Falls (Halve m) x y = (y +ℤ y) ≤ℤ x
Falls (Double least m) x y = (x +ℤ x) ≤ℤ y

-- how often the test is true at most
abbrev pub turns_within : Limit → ℕ
turns_within (Down step m) = div_ceil (above m) step
turns_within (Halve m) = digits (above m)
turns_within (Double least m) = digits (above m / above least)

-- those of bounds with forms: of a loop the first that is listed under its number, and no turn where there is none
abbrev pub limit_of : Bound → Limit
limit_of (bounds.Down form step m) = Down step.size m
limit_of (bounds.Halving form m) = Halve m
limit_of (bounds.Doubling form least m) = Double least.number m

abbrev pub limits : List LoopBound → (number : ℕ) → Limit
limits [] n = Down 1 (pos 0)
limits (b ∷ bs) n = cond (nat_eq b.number n) (limit_of b.bound) (limits bs n)

-- no number of theirs leaves 64 bits
abbrev pub AreFitting : List LoopBound → Type 0
AreFitting [] = Unit {0}
AreFitting (b ∷ bs) = (fits_i64 (falling.most b.bound) ≡ true) × AreFitting bs
