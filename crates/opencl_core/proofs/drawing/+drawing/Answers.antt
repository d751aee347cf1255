use Rattle.std.proofs.Common.{ap, ◌∙◌, rules, arith}
use Rattle.std.proofs.lemmas.Grind.{common_steps}
use Rattle.opencl_tree.specs.View.{expression}
use Rattle.opencl_tree.proofs.Rows.{seen_call, seen_vector}
use Rattle.opencl_core.specs.Drawing.{draw}
use Rattle.opencl_core.proofs.drawing.+drawing.Goals as goal

pub draw-returns-in_err-draw_listed-in-Call : goal.draw-returns-in_err-draw_listed-in-Call
unfolding draw
draw-returns-in_err-draw_listed-in-Call t c =
    rw (ap expression c.in-Call.is ∙ seen_call c.in-Call.site c.in-Call.name c.in-Call.arguments) (first_of (search rules, grind (arith, common_steps)))

pub draw-returns-in_ok-draw_listed-in-Call : goal.draw-returns-in_ok-draw_listed-in-Call
unfolding draw
draw-returns-in_ok-draw_listed-in-Call t c =
    rw (ap expression c.in-Call.is ∙ seen_call c.in-Call.site c.in-Call.name c.in-Call.arguments) (first_of (search rules, grind (arith, common_steps)))

pub draw-returns-in-Vector : goal.draw-returns-in-Vector
unfolding draw
draw-returns-in-Vector t c =
    rw (ap expression c.in-Vector.is ∙ seen_vector c.in-Vector.site c.in-Vector.to c.in-Vector.parts) (first_of (search rules, grind (arith, common_steps)))
