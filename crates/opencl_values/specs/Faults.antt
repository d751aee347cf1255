-- Why an expression or a statement of OpenCL C has no meaning, and where (ours).
use Rattle.std.specs.Prelude.{ℕ, Bool, true, false, Option, Some, None, Result, Ok, Err}
use Rattle.semantics.specs.Core.{Site}

-- what is left out: a vector; a pointer that is no array with its indexes; a store inside an expression; a call of a function that is not
-- read; a `switch`; a `continue` in a `do`; a private array; a list in braces; an atomic function; an image; an integer of 64 bits;
-- `half`; `double`; a shift of a size by a term; a size that each device has its own of; what stands in the file beside the kernel; a
-- `__local` variable that is no array; a `__constant` one in a block
pub data Construct : Type 0 where
  Vector Pointer Effect Function Choice Repetition PrivateArray InitialList Atomic Image Long Half Double SizeShift DeviceSize Outside LocalScalar ConstantVariable : Construct

-- `LocalLength`: nothing says how long the array of a `__local` pointer is
pub data Fault : Type 0 where
  UnknownName NameTwice WrongType WriteToConst BarrierFlags JumpOutside TooMany Unset LocalLength : Fault
  LeftOut : (construct : Construct) → Fault

-- the number that each is printed under
abbrev pub fault_number : Fault → ℕ
fault_number UnknownName = 20
fault_number NameTwice = 21
fault_number WrongType = 22
fault_number WriteToConst = 23
fault_number BarrierFlags = 26
fault_number JumpOutside = 28
fault_number TooMany = 12
fault_number Unset = 29
fault_number LocalLength = 35
fault_number (LeftOut construct) = 15

-- a meaning, or the first fault with its place
abbrev pub Checked : Type 0 → Type 0
Checked A = Result A (Fault × Site)

abbrev pub refused : {A : Type 0} → Fault → Site → Checked A
refused fault site = Err (fault, site)

-- goes on from a value
abbrev pub then : {A B : Type 0} → Checked A → (A → Checked B) → Checked B
then (Ok a) go = go a
then (Err e) go = Err e

abbrev pub when : {A : Type 0} → (holds : Bool) → Fault → Site → A → Checked A
when true fault site a = Ok a
when false fault site a = Err (fault, site)

abbrev pub found : {A : Type 0} → Option A → Fault → Site → Checked A
found (Some a) fault site = Ok a
found None fault site = Err (fault, site)
