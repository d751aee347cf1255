use Rattle.std.proofs.Common.{◌≡◌, None, drop}
use Rattle.opencl_macros.specs.Macros.{look}
use Rattle.opencl_macros.specs.Seen.{table, maybe_macro}
use Rattle.opencl_macros.proofs.macros.look.Given as goal

abbrev pub invariant-loop-entry : goal.invariant-loop-entry
invariant-loop-entry l = look l.name (table (drop l.entry-index l.entries)) (maybe_macro l.found) ≡ look l.name (table l.entries) None
