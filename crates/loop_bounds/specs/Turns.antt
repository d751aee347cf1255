-- How often the test of a loop is true at most.
use Rattle.std.specs.Prelude.{ℕ, ℤ, pos, negsuc, ◌-◌, ◌/◌, nat_eq, cond, List, [], ◌∷◌}
use Rattle.std.specs.Int.{div_ceil, leading_zeros, w64}
use Rattle.loop_bounds.specs.declared.bound.Bound.{Bound}
use Rattle.loop_bounds.specs.declared.bound.Bound.TheVariants as bounds
use Rattle.loop_bounds.specs.declared.bound.LoopBound.{LoopBound}

-- a number, 0 where it is below 0
abbrev pub above : ℤ → ℕ
above (pos n) = n
above (negsuc n) = 0

-- how many binary digits a number of 64 bits has
abbrev pub digits : ℕ → ℕ
digits n = 64 - leading_zeros w64 n

-- a form that is at most `most` is above 0 no more often than this, where each turn makes it less by `step`, or at most half; and one
-- that is at least `least` is at most `most` no more often, where each turn makes it at least double
abbrev pub turns : Bound → ℕ
turns (bounds.Down form step most) = div_ceil (above most) step.size
turns (bounds.Halving form most) = digits (above most)
turns (bounds.Doubling form least most) = digits (above most / above least.number)

-- those of a loop, by its number: of the first that is listed under it, 0 where there is none
abbrev pub turns_of : List LoopBound → (number : ℕ) → ℕ
turns_of [] n = 0
turns_of (b ∷ bs) n = cond (nat_eq b.number n) (turns b.bound) (turns_of bs n)
