use Rattle.std.proofs.Common.{◌≡◌, ◌+◌, ◌-◌, ◌*◌}
use Rattle.opencl_tree.specs.View.{statements}
use Rattle.opencl_parser.specs.Reader.{run}
use Rattle.opencl_parser.specs.View.{lexemes, all_known}
use Rattle.opencl_parser.specs.Statements.{items, item_reader, block_reader}
use Rattle.opencl_parser.proofs.statements.+statements.Given as goal

abbrev pub decreases-statement : goal.decreases-statement
decreases-statement l = l.depth * 40 + 5

abbrev pub decreases-below : goal.decreases-below
decreases-below l = l.depth * 40 + 35

abbrev pub decreases-braces : goal.decreases-braces
decreases-braces l = l.depth * 40 + 30

abbrev pub decreases-choice : goal.decreases-choice
decreases-choice l = l.depth * 40 + 30

abbrev pub decreases-repeated : goal.decreases-repeated
decreases-repeated l = l.depth * 40 + 30

abbrev pub decreases-selected : goal.decreases-selected
decreases-selected l = l.depth * 40 + 30

abbrev pub decreases-done : goal.decreases-done
decreases-done l = l.depth * 40 + 30

abbrev pub decreases-counting : goal.decreases-counting
decreases-counting l = l.depth * 40 + 30

abbrev pub decreases-otherwise : goal.decreases-otherwise
decreases-otherwise l = l.depth * 40 + 25

abbrev pub decreases-body : goal.decreases-body
decreases-body l = l.depth * 40 + 20

abbrev pub decreases-block : goal.decreases-block
decreases-block l = l.depth * 40 + 15

abbrev pub decreases-item : goal.decreases-item
decreases-item l = l.depth * 40 + 12

abbrev pub decreases-labelled_item : goal.decreases-labelled_item
decreases-labelled_item l = l.depth * 40 + 11

abbrev pub decreases-other_item : goal.decreases-other_item
decreases-other_item l = l.depth * 40 + 10

abbrev pub invariant-block-loop-count : goal.invariant-block-loop-count
invariant-block-loop-count l =
    run (block_reader (all_known l.types) l.depth l.number) (lexemes l.fn.tokens)
    ≡ run (items (λ ks n. item_reader ks l.depth n) (4097 - l._count) (all_known l.own.items) l.next (statements l.list.items)) (lexemes l.rest)
