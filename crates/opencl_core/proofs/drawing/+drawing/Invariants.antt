use Rattle.std.proofs.Common.{◌≡◌, ◌+◌, ◌*◌, drop}
use Rattle.std.specs.Prelude.{max}
use Rattle.opencl_tree.specs.declared.tree.Expr.{size-Expr}
use Rattle.opencl_tree.specs.View.{expressions}
use Rattle.opencl_core.specs.Drawing.{draw_all}
use Rattle.opencl_core.specs.View.{room}
use Rattle.opencl_core.proofs.drawing.+drawing.Given as goal

abbrev pub decreases-draw : goal.decreases-draw
decreases-draw l = size-Expr l.of.now * 8

abbrev pub decreases-right_part : goal.decreases-right_part
decreases-right_part l = size-Expr l.right.now * 8 + 1

abbrev pub decreases-draw_right : goal.decreases-draw_right
decreases-draw_right l = size-Expr l.right.now * 8 + 2

abbrev pub decreases-draw_logical : goal.decreases-draw_logical
decreases-draw_logical l = size-Expr l.right.now * 8 + 3

abbrev pub decreases-logical_drawn : goal.decreases-logical_drawn
decreases-logical_drawn l = size-Expr l.right.now * 8 + 4

abbrev pub decreases-draw_infix : goal.decreases-draw_infix
decreases-draw_infix l = max (size-Expr l.left.now) (size-Expr l.right.now) * 8 + 5

abbrev pub decreases-draw_arm : goal.decreases-draw_arm
decreases-draw_arm l = size-Expr l.of.now * 8 + 1

abbrev pub decreases-both_arms : goal.decreases-both_arms
decreases-both_arms l = max (size-Expr l.taken.now) (size-Expr l.skipped.now) * 8 + 2

abbrev pub decreases-draw_choice : goal.decreases-draw_choice
decreases-draw_choice l = max (size-Expr l.taken.now) (size-Expr l.skipped.now) * 8 + 3

abbrev pub decreases-choice_drawn : goal.decreases-choice_drawn
decreases-choice_drawn l = max (size-Expr l.taken.now) (size-Expr l.skipped.now) * 8 + 4

abbrev pub decreases-draw_all : goal.decreases-draw_all
decreases-draw_all l = goal.size-draw_all l * 8 + 1

abbrev pub decreases-draw_listed : goal.decreases-draw_listed
decreases-draw_listed l = goal.size-draw_listed l * 8 + 2

abbrev pub invariant-draw_all-loop-one : goal.invariant-draw_all-loop-one
invariant-draw_all-loop-one l =
    draw_all (expressions (drop l.one-index l.of)) (room l.room) ≡ draw_all (expressions l.of) (room l.initial.room)
