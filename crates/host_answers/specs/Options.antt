-- The options of a call, and how texts are read by them.
use Rattle.std.specs.Prelude.{ℕ, List, Bool, true, false, not, nat_eq, bit_and}
use Rattle.types.specs.Scope.{Devices, Bits32, Any}
use Rattle.kernel_reading.specs.Kernels.{Source, OpenCl, text_under}

abbrev pub has : (options option : ℕ) → Bool
has options option = not (nat_eq (bit_and options option) 0)

abbrev pub devices_if : (are_narrow : Bool) → Devices
devices_if true = Bits32
devices_if false = Any

-- option 1: for devices with 32 address bits alone
abbrev pub devices_by : (options : ℕ) → Devices
devices_by options = devices_if (has options 1)

-- option 2: the host answers for what buffers hold
abbrev pub is_held : (options : ℕ) → Bool
is_held options = has options 2

-- OpenCL C, with the head of the conditions
abbrev pub source_for : Devices → (kernel conditions : List ℕ) → Source
source_for d kernel conditions = text_under (record { language = OpenCl; devices = d }) conditions kernel
