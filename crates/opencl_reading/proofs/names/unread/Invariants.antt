use Rattle.std.proofs.Common.{◌≡◌, ◌++◌, drop, map}
use Rattle.std.specs.Prelude.{string_bytes}
use Rattle.opencl_values.specs.View.{bindings}
use Rattle.opencl_reading.specs.FileNames.{unread}
use Rattle.opencl_reading.proofs.names.unread.Given as goal

abbrev pub invariant-loop-name : goal.invariant-loop-name
invariant-loop-name l = bindings l.found.items ++ map unread (map string_bytes (drop l.name-index l.names)) ≡ map unread (map string_bytes l.names)
