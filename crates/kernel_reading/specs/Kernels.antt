-- What the bytes of a kernel's text say, by the way in which it is read: its core and its map of names, or the first fault with its place.
-- Where OpenCL C is read, a text of the plain language is read as such, so it means what it means there; any other is read by the rules of
-- OpenCL C, and its faults are theirs. The head of the conditions is read first. The plain language knows none: where it says something,
-- OpenCL C alone is read.
use Rattle.std.specs.Prelude.{ℕ, List, [], length, Bool, true, false, cond, ◌&&◌, nat_eq, is_none, Result, Ok, Err, codes}
use Rattle.std.specs.List.{starts_with}
use Rattle.semantics.specs.Launch as launch
use Rattle.semantics.specs.Core.{Site}
use Rattle.types.specs.Scope.{Devices, Bits32}
use Rattle.launch_text.specs.LaunchFaults.{LaunchFault, Step}
use Rattle.launch_text.specs.HeadReading.{Head, no_head}
use Rattle.launch_text.specs.ConditionsReading.{head_of}
use Rattle.kernel_names.specs.NameMap.{NameMap}
use Rattle.reading.specs.Kernels as plain
use Rattle.opencl_reading.specs.Kernels as opencl

pub data Language : Type 0 where
  Plain OpenCl : Language

-- the language that a kernel's text is in, and the devices that it is read for
pub record Reading : Type 0 where
  pub language : Language
  pub devices : Devices

-- with the text of the conditions that are asked with it
pub record Source : Type 0 where
  pub reading : Reading
  pub conditions : List ℕ
  pub bytes : List ℕ

abbrev pub text_under : Reading → (conditions : List ℕ) → List ℕ → Source
text_under r conditions bytes = record { reading = r; conditions = conditions; bytes = bytes }

-- where nothing is said beside it
abbrev pub text_for : Reading → List ℕ → Source
text_for r bytes = text_under r [] bytes

-- a text of another version has no head, and its faults are told where it is read
abbrev pub head_in : (conditions : List ℕ) → Step Head
head_in conditions = cond (starts_with nat_eq conditions (codes "conditions 3\n")) (head_of conditions) (Ok no_head)

-- the plain language, for devices with 32 address bits
abbrev pub narrow : Reading
narrow = record { language = Plain; devices = Bits32 }

pub record Kernel : Type 0 where
  pub core : launch.Kernel
  pub names : NameMap

-- `OfHead`: the head has a fault; `Headed`: it says something of a text of the plain language
pub data Fault : Type 0 where
  OfHead : (fault : LaunchFault) → Fault
  OfPlain : (fault : plain.Fault) → Fault
  OfOpenCl : (fault : opencl.Fault) → Fault
  Headed : Fault

abbrev pub Read : Type 0
Read = Result Kernel (Fault × Site)

-- a kernel of a plain text, without its tree
abbrev pub without_tree : plain.Kernel → Kernel
without_tree k = record { core = k.core; names = k.names }

abbrev pub of_plain : plain.Read → Read
of_plain (Ok k) = Ok (without_tree k)
of_plain (Err (fault, site)) = Err (OfPlain fault, site)

abbrev pub of_written : opencl.Written → Kernel
of_written w = record { core = w.core; names = w.names }

abbrev pub of_opencl : opencl.Read → Read
of_opencl (Ok w) = Ok (of_written w)
of_opencl (Err (fault, site)) = Err (OfOpenCl fault, site)

-- what is no plain text is OpenCL C
abbrev pub or_opencl : plain.Read → opencl.Read → Read
or_opencl (Ok k) r = Ok (without_tree k)
or_opencl (Err e) r = of_opencl r

abbrev pub as_plain : Source → plain.Source
as_plain s = plain.text_for s.reading.devices s.bytes

abbrev pub as_opencl : Head → Source → opencl.Read
as_opencl h s = opencl.read s.reading.devices h s.bytes

-- a head says nothing
abbrev pub is_silent : Head → Bool
is_silent h = is_none h.kernel && (nat_eq (length h.defines) 0 && (is_none h.sizes && nat_eq (length h.locals) 0))

-- where a text begins
abbrev pub at_first : Site
at_first = record { line = 1; column = 1 }

abbrev pub in_plain : (is_silent : Bool) → Source → Read
in_plain true s = of_plain (plain.read (as_plain s))
in_plain false s = Err (Headed, at_first)

abbrev pub in_opencl : (is_silent : Bool) → Head → Source → Read
in_opencl true h s = or_opencl (plain.read (as_plain s)) (as_opencl h s)
in_opencl false h s = of_opencl (as_opencl h s)

abbrev pub read_as : Language → Head → Source → Read
read_as Plain h s = in_plain (is_silent h) s
read_as OpenCl h s = in_opencl (is_silent h) h s

abbrev pub read_with : Head → Source → Read
read_with h s = read_as s.reading.language h s

-- a head's fault stands in a line of the conditions
abbrev pub read_under : Step Head → Source → Read
read_under (Ok h) s = read_with h s
read_under (Err (fault, line)) s = Err (OfHead fault, record { line = line; column = 1 })

unfoldable pub read : Source → Read
read s = read_under (head_in s.conditions) s
