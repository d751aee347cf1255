-- The number of a refusal.
use Rattle.std.specs.Prelude.{ℕ}
use Rattle.facts.specs.declared.error.WalkError.{WalkError}
use Rattle.facts.specs.declared.error.WalkError.TheVariants as walks

-- 90 is want of memory, everywhere
abbrev pub error_number : WalkError → ℕ
error_number walks.TooMany = 53
error_number walks.TooLarge = 54
error_number walks.Memory = 90
