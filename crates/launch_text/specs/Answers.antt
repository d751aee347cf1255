-- What the code's answers stand for.
use Rattle.std.specs.Prelude.{◌≡◌, ℕ, List, Option, None, Some, Result, Ok, Err}
use denote.Ref.{Bor}
use Rattle.launch_text.specs.LaunchFaults as texts
use Rattle.launch_text.specs.declared.error.LaunchFault.{LaunchFault}
use Rattle.launch_text.specs.declared.error.LaunchFault.TheVariants as faults
use Rattle.launch_text.specs.declared.error.LaunchTextError.{LaunchTextError}
use Rattle.launch_text.specs.declared.error.LaunchTextError.TheVariants as errors
use Rattle.launch_text.specs.declared.cursor.Cursor.{Cursor}

abbrev pub fault : LaunchFault → texts.LaunchFault
fault faults.Expected = texts.Expected
fault faults.UnknownName = texts.UnknownName
fault faults.MissingLine = texts.MissingLine
fault faults.EmptyRange = texts.EmptyRange
fault faults.LimitPassed = texts.LimitPassed

-- the number that an error is printed under, and its line, where it has one
abbrev pub error_number : LaunchTextError → ℕ
error_number (errors.Refused f line) = texts.launch_fault_number (fault f)
error_number errors.Memory = 90

abbrev pub error_place : LaunchTextError → Option ℕ
error_place (errors.Refused f line) = Some line
error_place errors.Memory = None

-- an error is the definition's, unless memory was refused
abbrev pub Refuses : {A : Type 0} → LaunchTextError → texts.Step A → Type 0
Refuses (errors.Refused f line) answer = answer ≡ Err (fault f, line)
Refuses errors.Memory answer = Unit {0}

abbrev pub Gives : {A B : Type 0} → (A → B) → Result A LaunchTextError → texts.Step B → Type 0
Gives seen (Ok a) answer = answer ≡ Ok (seen a)
Gives seen (Err e) answer = Refuses e answer

abbrev pub cursor : Cursor → texts.Cursor
cursor c = texts.cursor c.line c.rest.now

-- what was read, and what is left
abbrev pub read : {A B : Type 0} → (A → B) → A × Cursor → B × texts.Cursor
read seen t = (seen t.0, cursor t.1)

abbrev pub same : {A : Type 0} → A → A
same a = a

-- what a slice holds
abbrev pub bytes : Bor (List ℕ) → List ℕ
bytes b = b.now
