-- The number of a refusal, and the line that it points to.
use Rattle.std.specs.Prelude.{ℕ, Option, Some, None}
use Rattle.executor.specs.declared.error.RunError.{RunError}
use Rattle.executor.specs.declared.error.RunError.TheVariants as errors

abbrev pub error_number : RunError → ℕ
error_number (errors.Condition e) = 40
error_number errors.Workers = 70
error_number errors.Unreckoned = 71
error_number errors.Memory = 90

-- that of the condition which is not met
abbrev pub error_line : RunError → Option ℕ
error_line (errors.Condition e) = Some e.line
error_line errors.Workers = None
error_line errors.Unreckoned = None
error_line errors.Memory = None
