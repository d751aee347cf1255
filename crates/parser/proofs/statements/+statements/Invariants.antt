use Rattle.std.proofs.Common.{◌≡◌, ◌+◌, ◌-◌, ◌*◌}
use Rattle.syntax.specs.View.{statements}
use Rattle.parser.specs.Reader.{run}
use Rattle.parser.specs.View.{lexemes}
use Rattle.parser.specs.Statements.{items, item_reader}
use Rattle.parser.proofs.Lists.{before}
use Rattle.parser.proofs.statements.+statements.Given as goal

abbrev pub decreases-statement : goal.decreases-statement
decreases-statement l = l.depth * 20 + 5

abbrev pub decreases-below : goal.decreases-below
decreases-below l = (l.depth + 1) * 20

abbrev pub decreases-choice : goal.decreases-choice
decreases-choice l = l.depth * 20 + 18

abbrev pub decreases-counting : goal.decreases-counting
decreases-counting l = l.depth * 20 + 18

abbrev pub decreases-otherwise : goal.decreases-otherwise
decreases-otherwise l = l.depth * 20 + 15

abbrev pub decreases-body : goal.decreases-body
decreases-body l = l.depth * 20 + 10

abbrev pub decreases-block : goal.decreases-block
decreases-block l = l.depth * 20 + 9

abbrev pub decreases-item : goal.decreases-item
decreases-item l = l.depth * 20 + 8

abbrev pub invariant-block-loop-count : goal.invariant-block-loop-count
invariant-block-loop-count l =
    run (items (λ n. item_reader l.depth l.room n) 513 l.fn.number) (lexemes l.fn.tokens)
    ≡ before (statements l.list.items) (run (items (λ n. item_reader l.depth l.room n) (513 - l._count) l.next) (lexemes l.rest))
