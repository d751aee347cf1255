-- Why there is no form.
use Rattle.std.specs.Prelude.{ℕ}
use Rattle.linear.specs.declared.form.LinearError.{LinearError}
use Rattle.linear.specs.declared.form.LinearError.TheVariants.{TooLarge, Memory}

-- the number that each is printed under
abbrev pub error_number : LinearError → ℕ
error_number TooLarge = 54
error_number Memory = 90
