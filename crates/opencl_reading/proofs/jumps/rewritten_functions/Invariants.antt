use Rattle.std.proofs.Common.{◌≡◌, map}
use Rattle.opencl_core.specs.View.{function}
use Rattle.opencl_reading.specs.Jumps.{rewritten_function}
use Rattle.opencl_reading.proofs.jumps.rewritten_functions.Given as goal

abbrev pub invariant-loop-one : goal.invariant-loop-one
invariant-loop-one l = map function l.written.items ≡ map rewritten_function (map function l.yielded)
