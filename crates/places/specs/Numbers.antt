-- The number of a refusal.
use Rattle.std.specs.Prelude.{ℕ}
use Rattle.places.specs.declared.error.PlaceError.{PlaceError}
use Rattle.places.specs.declared.error.PlaceError.TheVariants.{Missed, Memory}

-- 90 is want of memory, everywhere
abbrev pub error_number : PlaceError → ℕ
error_number (Missed n) = 55
error_number Memory = 90
