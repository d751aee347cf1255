-- What the parameters of a kernel's text ask of a host's arguments: those of a plain text are numbers of four bytes, and buffers of these.
use Rattle.std.specs.Prelude.{ℕ, List, [], Bool, true, false, Option, Some, None, Result, Ok, Err}
use Rattle.launch_text.specs.HeadReading.{Head}
use Rattle.launch_text.specs.LaunchFaults.{Step}
use Rattle.reading.specs.Kernels as plain
use Rattle.kernel_reading.specs.Kernels.{Source, Language, Plain, OpenCl, head_in, is_silent, as_plain}
use Rattle.host_shapes.specs.Meant.{Meant}
use Rattle.host_shapes.specs.Types.{with_plain}
use Rattle.host_shapes.specs.Texts.{of_opencl}

abbrev pub in_language : Language → Head → Source → Option (List Meant)
in_language Plain h s = None
in_language OpenCl h s = of_opencl h s.bytes

abbrev pub or_opencl : plain.Read → Head → Source → Option (List Meant)
or_opencl (Ok k) h s = with_plain [] k.names.parameters
or_opencl (Err e) h s = in_language s.reading.language h s

abbrev pub by_head : (is_silent : Bool) → Head → Source → Option (List Meant)
by_head true h s = or_opencl (plain.read (as_plain s)) h s
by_head false h s = in_language s.reading.language h s

abbrev pub with_head : Head → Source → Option (List Meant)
with_head h s = by_head (is_silent h) h s

abbrev pub under : {F : Type 0} → Result Head F → Source → Option (List Meant)
under (Ok h) s = with_head h s
under (Err e) s = None

unfoldable pub shapes_of : Source → Option (List Meant)
shapes_of s = under (head_in s.conditions) s
