use Rattle.std.proofs.Common.{◌≡◌, ◌+◌, ◌-◌, ◌*◌}
use Rattle.syntax.specs.View.{expressions}
use Rattle.parser.specs.Reader.{run}
use Rattle.parser.specs.View.{lexemes}
use Rattle.parser.specs.Expressions as reads
use Rattle.parser.proofs.Lists.{in_front}
use Rattle.parser.proofs.expressions.+expressions.Given as goal

abbrev pub decreases-after_name : goal.decreases-after_name
decreases-after_name l = (l.room + l.depth) * 1000 + 990

abbrev pub decreases-arguments : goal.decreases-arguments
decreases-arguments l = (l.room + l.depth) * 1000 + 970

abbrev pub decreases-chain : goal.decreases-chain
decreases-chain l = (l.room + l.depth + 1) * 1000 + l.series.below * 80 + l.series.left + 50

abbrev pub decreases-expression : goal.decreases-expression
decreases-expression l = (l.room + l.depth) * 1000 + 950

abbrev pub decreases-in_parentheses : goal.decreases-in_parentheses
decreases-in_parentheses l = (l.room + l.depth) * 1000 + 990

abbrev pub decreases-inner_operand : goal.decreases-inner_operand
decreases-inner_operand l = (l.room + l.depth) * 1000 + 950

abbrev pub decreases-joined : goal.decreases-joined
decreases-joined l = (l.room + l.depth + 1) * 1000 + l.below * 80 + 89

abbrev pub decreases-operand : goal.decreases-operand
decreases-operand l = (l.room + l.depth + 1) * 1000

abbrev pub decreases-ranked : goal.decreases-ranked
decreases-ranked l = (l.room + l.depth + 1) * 1000 + l.rank * 80 + 10

abbrev pub decreases-whole : goal.decreases-whole
decreases-whole l = (l.room + l.depth + 1) * 1000 + 900

abbrev pub invariant-arguments-loop-count : goal.invariant-arguments-loop-count
invariant-arguments-loop-count l =
    run (reads.arguments (reads.expression_reader l.room l.depth)) (lexemes l.fn.tokens)
    ≡ in_front (expressions l.list.items) (run (reads.more_arguments (reads.expression_reader l.room l.depth) (65536 - l._count)) (lexemes l.rest))
