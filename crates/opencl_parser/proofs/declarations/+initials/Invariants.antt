use Rattle.std.proofs.Common.{◌≡◌, ◌+◌, ◌-◌, ◌*◌}
use Rattle.opencl_tree.specs.View.{initials}
use Rattle.opencl_parser.specs.Reader.{run}
use Rattle.opencl_parser.specs.View.{lexemes, all_known}
use Rattle.opencl_parser.specs.Declarations as reads
use Rattle.opencl_parser.proofs.declarations.+initials.Given as goal

abbrev pub decreases-initial_value : goal.decreases-initial_value
decreases-initial_value l = l.depth * 2

abbrev pub decreases-values : goal.decreases-values
decreases-values l = l.depth * 2 + 1

abbrev pub invariant-values-loop-count : goal.invariant-values-loop-count
invariant-values-loop-count l =
    run (reads.values (reads.initial_value (all_known l.types) l.depth)) (lexemes l.fn.tokens)
    ≡ run (reads.more_values (reads.initial_value (all_known l.types) l.depth) (65536 - l._count) (initials l.list.items)) (lexemes l.rest)
