-- What a host is promised of a run.
use Rattle.std.specs.Prelude.{◌≡◌, ◌⊎◌, ℕ, List, true, false, Option, Ok, Err, None}
use Rattle.semantics.specs.Machines.{is_reckoned}
use Rattle.types.specs.Scope.{Devices}
use Rattle.kernel_reading.specs.Kernels.{Kernel}
use Rattle.launch.specs.View.{conditions as conditions_seen, launch as launch_seen}
use Rattle.launch.specs.declared.conditions.Conditions.{Conditions}
use Rattle.launch.specs.declared.launches.Launch.{Launch}
use Rattle.launch_text.specs.LaunchReading.{launch_of}
use Rattle.launch_text.specs.View as reading
use Rattle.launch_text.specs.Answers as launches
use Rattle.launch_text.specs.declared.error.LaunchTextError.{LaunchTextError}
use Rattle.cert_check.specs.Numbers.{at_line}
use Rattle.entry_check.specs.declared.error.Pointer.{Pointer}
use Rattle.executor.specs.Numbers as runs
use Rattle.executor.specs.Results.{Answers}
use Rattle.executor.specs.declared.error.RunError.{RunError}
use Rattle.telling.specs.Telling.{AreSafeTexts, IsResultText}
use Rattle.host_answers.specs.Options.{source_for}
use Rattle.host_answers.specs.Answers.{IsPlace, IsTrueRefusal}
use Rattle.host_answers.specs.Putting.{IsPut}
use Rattle.host_answers.specs.declared.answer.Answer.{Answer}

-- a kernel and conditions are what the bytes say, and the headline holds
abbrev pub AreSafeAs : Devices → (kernel conditions : List ℕ) → Kernel → Conditions → Type 0
AreSafeAs d kernel conditions k c = AreSafeTexts true (source_for d kernel conditions) conditions k (conditions_seen c)

-- the buffers' text of a run is put into the room
abbrev pub IsResultPut : Devices → (kernel conditions launch old new : List ℕ) → (whole : ℕ) → Type 0
IsResultPut d kernel conditions launch old new whole = (written : List ℕ) × IsResultText true (source_for d kernel conditions) conditions launch written × IsPut written old new whole

-- nothing is put there
pub record IsLeft (old new : List ℕ) (whole : ℕ) : Type 0 where
  pub none : whole ≡ 0
  pub bytes : new ≡ old

-- the answer has this number and this place
pub record IsNumbered (n : ℕ) (at : Option Pointer) (a : Answer) : Type 0 where
  pub number : a.number ≡ n
  pub place : IsPlace at a

-- an operation that is not reckoned stands in the kernel
abbrev pub IsUnreckoned : Devices → (kernel conditions : List ℕ) → Answer → Type 0
IsUnreckoned d kernel conditions a = (k : Kernel) × (c : Conditions) × AreSafeAs d kernel conditions k c × (is_reckoned k.core ≡ false) × IsNumbered 71 None a

-- the launch's text is refused
abbrev pub IsUnread : Devices → (kernel conditions launch : List ℕ) → Answer → Type 0
IsUnread d kernel conditions launch a =
    (e : LaunchTextError) × (k : Kernel) × (c : Conditions) × AreSafeAs d kernel conditions k c × launches.Refuses e (launch_of k.names.parameters launch)
    × IsNumbered (launches.error_number e) (at_line (launches.error_place e)) a

-- the launch is read, and is not run: the first condition that it does not meet
abbrev pub IsUnrun : Devices → (kernel conditions launch : List ℕ) → Answer → Type 0
IsUnrun d kernel conditions launch a =
    (e : RunError) × (k : Kernel) × (c : Conditions) × (l : Launch) × AreSafeAs d kernel conditions k c × (launch_of k.names.parameters launch ≡ Ok (reading.launch l)) × Answers k.core c (launch_seen l) 1 (Err e)
    × IsNumbered (runs.error_number e) (at_line (runs.error_line e)) a

-- one of these, or want of memory
abbrev pub IsTrueUnrun : Devices → (kernel conditions certificate launch : List ℕ) → Answer → Type 0
IsTrueUnrun d kernel conditions certificate launch a =
    IsTrueRefusal d kernel conditions certificate a ⊎ (IsUnreckoned d kernel conditions a ⊎ (IsUnread d kernel conditions launch a ⊎ (IsUnrun d kernel conditions launch a ⊎ (a.number ≡ 90))))
