-- Why a file has no such kernel (ours).
use Rattle.std.specs.Prelude.{ℕ, Result}
use Rattle.semantics.specs.Core.{Site}
use Rattle.opencl_parser.specs.Faults as reader
use Rattle.opencl_parser.specs.Faults.{ParseFault}

-- the text is at fault; the kernel that is asked for is not there, or there twice; none is asked for, and there are several
pub data FileFault : Type 0 where
  Text : (fault : ParseFault) → FileFault
  NoKernel KernelTwice SeveralKernels : FileFault

-- the number that each is printed under
abbrev pub fault_number : FileFault → ℕ
fault_number (Text fault) = reader.fault_number fault
fault_number NoKernel = 35
fault_number KernelTwice = 35
fault_number SeveralKernels = 35

-- a value, or the first fault and its place
abbrev pub Answer : Type 0 → Type 0
Answer A = Result A (FileFault × Site)
