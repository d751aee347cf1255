use Rattle.std.proofs.Common.{◌≡◌, ◌+◌, ◌-◌, ◌*◌}
use Rattle.opencl_tree.specs.View.{expressions}
use Rattle.opencl_parser.specs.Reader.{run}
use Rattle.opencl_parser.specs.View.{lexemes, all_known}
use Rattle.opencl_parser.specs.Expressions as reads
use Rattle.opencl_parser.proofs.expressions.+expressions.Given as goal

abbrev pub decreases-level : goal.decreases-level
decreases-level l = l.depth * 10000

abbrev pub decreases-ranked : goal.decreases-ranked
decreases-ranked l = l.depth * 10000 + l.rank * 200 + 1010

abbrev pub decreases-row : goal.decreases-row
decreases-row l = l.depth * 10000 + l.below * 200 + 1200

abbrev pub decreases-chain : goal.decreases-chain
decreases-chain l = l.depth * 10000 + l.series.below * 200 + l.series.left * 2 + 1030

abbrev pub decreases-onward : goal.decreases-onward
decreases-onward l = l.depth * 10000 + l.series.below * 200 + l.series.left * 2 + 1031

abbrev pub decreases-assignment : goal.decreases-assignment
decreases-assignment l = l.depth * 10000 + 5

abbrev pub decreases-choice : goal.decreases-choice
decreases-choice l = l.depth * 10000 + 5

abbrev pub decreases-operand : goal.decreases-operand
decreases-operand l = l.depth * 10000 + 1005

abbrev pub decreases-opened : goal.decreases-opened
decreases-opened l = l.depth * 10000 + 900

abbrev pub decreases-parenthesized : goal.decreases-parenthesized
decreases-parenthesized l = l.depth * 10000 + 800

abbrev pub decreases-converted : goal.decreases-converted
decreases-converted l = l.depth * 10000 + 700

abbrev pub decreases-vector : goal.decreases-vector
decreases-vector l = l.depth * 10000 + 600

abbrev pub decreases-grouped : goal.decreases-grouped
decreases-grouped l = l.depth * 10000 + 600

abbrev pub decreases-named : goal.decreases-named
decreases-named l = l.depth * 10000 + 800

abbrev pub decreases-called : goal.decreases-called
decreases-called l = l.depth * 10000 + 700

abbrev pub decreases-sized : goal.decreases-sized
decreases-sized l = l.depth * 10000 + 800

abbrev pub decreases-sized_in_parentheses : goal.decreases-sized_in_parentheses
decreases-sized_in_parentheses l = l.depth * 10000 + 700

abbrev pub decreases-suffixes : goal.decreases-suffixes
decreases-suffixes l = l.depth * 10000 + l.left * 4 + 10

abbrev pub decreases-further : goal.decreases-further
decreases-further l = l.depth * 10000 + l.left * 4 + 13

abbrev pub decreases-index : goal.decreases-index
decreases-index l = l.depth * 10000 + l.left * 4 + 12

abbrev pub decreases-select : goal.decreases-select
decreases-select l = l.depth * 10000 + l.left * 4 + 12

abbrev pub decreases-arguments : goal.decreases-arguments
decreases-arguments l = l.depth * 10000 + 500

abbrev pub decreases-parts : goal.decreases-parts
decreases-parts l = l.depth * 10000 + 400

abbrev pub invariant-parts-loop-count : goal.invariant-parts-loop-count
invariant-parts-loop-count l =
    run (reads.parts (reads.level (all_known l.types) l.depth 12)) (lexemes l.fn.tokens)
    ≡ run (reads.more_arguments (reads.level (all_known l.types) l.depth 12) (256 - l._count) (expressions l.list.items)) (lexemes l.rest)
