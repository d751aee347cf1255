-- What a difference stands for.
use Rattle.std.specs.Prelude.{ℕ, ℤ, pos, negsuc, ◌-ℤ◌}
use Rattle.launch.specs.declared.sums.Difference.{Difference}

abbrev pub difference : Difference → ℤ
difference d = pos d.plus -ℤ pos d.minus

-- the larger of 0 and a number
abbrev pub above_zero : ℤ → ℕ
above_zero (pos n) = n
above_zero (negsuc n) = 0
