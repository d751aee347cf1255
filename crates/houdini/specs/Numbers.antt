-- The number of a refusal.
use Rattle.std.specs.Prelude.{ℕ}
use Rattle.houdini.specs.declared.error.SettleError.{SettleError}
use Rattle.houdini.specs.declared.error.SettleError.TheVariants as errors

abbrev pub error_number : SettleError → ℕ
error_number errors.Workers = 70
error_number errors.Memory = 90
