use Rattle.std.proofs.Common.{◌≡◌, drop, map}
use Rattle.opencl_core.specs.Heads.{count_of}
use Rattle.opencl_core.specs.View.{local_count}
use Rattle.opencl_core.proofs.heads.count_of.Given as goal

abbrev pub invariant-loop-entry : goal.invariant-loop-entry
invariant-loop-entry l = count_of (map local_count (drop l.entry-index l.counts)) l.name ≡ count_of (map local_count l.counts) l.name
