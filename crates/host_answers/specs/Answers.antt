-- What a host is promised of a kernel and its conditions, by numbers alone.
use Rattle.std.specs.Prelude.{◌≡◌, ℕ, List, true, Option, Some, None, Ok}
use Rattle.types.specs.Scope.{Devices}
use Rattle.kernel_reading.specs.Kernels.{Kernel, read}
use Rattle.launch_text.specs.ConditionsReading.{Lined, conditions_of, meant}
use Rattle.cert_check.specs.Refusing.{RefusesBy}
use Rattle.cert_check.specs.Numbers as checks
use Rattle.cert_check.specs.declared.error.CheckError.{CheckError}
use Rattle.entry_check.specs.declared.error.Pointer.{Pointer}
use Rattle.entry_check.specs.declared.error.Pointer.TheVariants.{At, Number}
use Rattle.telling.specs.Telling.{AreSafeTexts}
use Rattle.host_answers.specs.Options.{source_for}
use Rattle.host_answers.specs.declared.answer.Answer.{Answer}

-- these are read of the bytes
pub record AreRead (d : Devices) (kernel conditions : List ℕ) (k : Kernel) (c : Lined) : Type 0 where
  pub of_kernel : read (source_for d kernel conditions) ≡ Ok k
  pub of_conditions : conditions_of true k.names.parameters conditions ≡ Ok c

-- a kernel and conditions are read, they are what the bytes say, and the headline holds
abbrev pub AreSafe : Devices → (kernel conditions : List ℕ) → Type 0
AreSafe d kernel conditions =
    (k : Kernel) × (c : Lined) × AreRead d kernel conditions k c × AreSafeTexts true (source_for d kernel conditions) conditions k (meant c)

-- the place and the column are those of the point, 0 where it has none
abbrev pub IsPlace : Option Pointer → Answer → Type 0
IsPlace None a = (a.place ≡ 0) × (a.column ≡ 0)
IsPlace (Some (At line column)) a = (a.place ≡ line) × (a.column ≡ column)
IsPlace (Some (Number n)) a = (a.place ≡ n) × (a.column ≡ 0)

-- the answer is the error's
pub record IsAnswerOf (e : CheckError) (a : Answer) : Type 0 where
  pub number : a.number ≡ checks.error_number e
  pub place : IsPlace (checks.error_place e) a

-- the answer is that of an error which is true of the texts
abbrev pub IsTrueRefusal : Devices → (kernel conditions certificate : List ℕ) → Answer → Type 0
IsTrueRefusal d kernel conditions certificate a =
    (e : CheckError) × RefusesBy true e (source_for d kernel conditions) conditions certificate × IsAnswerOf e a
