use Rattle.std.proofs.Common.{◌≡◌, drop}
use Rattle.opencl_files.specs.Fronts as reads
use Rattle.opencl_files.specs.View.{chunks, gathered}
use Rattle.opencl_files.proofs.fronts.gather.Given as goal

abbrev pub invariant-loop-chunk : goal.invariant-loop-chunk
invariant-loop-chunk l = reads.gathered reads.nothing_yet (chunks l.chunks) ≡ reads.gathered (gathered l.so) (chunks (drop l.chunk-index l.chunks))
