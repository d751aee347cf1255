use Rattle.std.proofs.Common.{ap, ◌∙◌, rules, arith}
use Rattle.std.proofs.lemmas.Grind.{common_steps}
use Rattle.opencl_tree.specs.View.{expression}
use Rattle.opencl_tree.proofs.Rows.{seen_call, seen_vector}
use Rattle.opencl_effects.proofs.effects.+touching.Goals as goal

pub touches_memory-returns-else-call_touches : goal.touches_memory-returns-else-call_touches
touches_memory-returns-else-call_touches t c = rw (ap expression c.in-Call.is ∙ seen_call c.in-Call.site c.in-Call.name c.in-Call.arguments) (first_of (search rules, grind (arith, common_steps)))

pub touches_memory-returns-in-Vector : goal.touches_memory-returns-in-Vector
touches_memory-returns-in-Vector t c = rw (ap expression c.in-Vector.is ∙ seen_vector c.in-Vector.site c.in-Vector.to c.in-Vector.parts) (first_of (search rules, grind (arith, common_steps)))
