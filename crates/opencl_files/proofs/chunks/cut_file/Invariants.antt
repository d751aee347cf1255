use Rattle.std.proofs.Common.{◌≡◌, ◌≤◌, [], drop}
use Rattle.std.specs.List.{slice_range}
use Rattle.opencl_parser.specs.View.{lexemes}
use Rattle.opencl_files.specs.Chunks as cuts
use Rattle.opencl_files.specs.View.{brackets, chunks}
use Rattle.opencl_files.proofs.chunks.cut_file.Given as goal

abbrev pub invariant-loop-at : goal.invariant-loop-at
invariant-loop-at l = record {
  same : cuts.cut [] [] [] (lexemes l.tokens) ≡ cuts.cut (chunks l.done.items) (brackets l.stack.items) (lexemes (slice_range l.tokens l.from l.at)) (lexemes (drop l.at l.tokens));
  before : l.from ≤ l.at;
}
