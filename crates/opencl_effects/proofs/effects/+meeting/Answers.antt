use Rattle.std.proofs.Common.{ap, ◌∙◌, rules, arith}
use Rattle.std.proofs.lemmas.Grind.{common_steps}
use Rattle.opencl_tree.specs.View.{expression}
use Rattle.opencl_tree.proofs.Rows.{seen_call, seen_vector}
use Rattle.opencl_effects.proofs.effects.+meeting.Goals as goal

pub stores_meet-returns-in-Call : goal.stores_meet-returns-in-Call
stores_meet-returns-in-Call t c = rw (ap expression c.in-Call.is ∙ seen_call c.in-Call.site c.in-Call.name c.in-Call.arguments) (first_of (search rules, grind (arith, common_steps)))

pub stores_meet-returns-in-Vector : goal.stores_meet-returns-in-Vector
stores_meet-returns-in-Vector t c = rw (ap expression c.in-Vector.is ∙ seen_vector c.in-Vector.site c.in-Vector.to c.in-Vector.parts) (first_of (search rules, grind (arith, common_steps)))

pub target_meets-returns-in-Call : goal.target_meets-returns-in-Call
target_meets-returns-in-Call t c = rw (ap expression c.in-Call.is ∙ seen_call c.in-Call.site c.in-Call.name c.in-Call.arguments) (first_of (search rules, grind (arith, common_steps)))

pub target_meets-returns-in-Vector : goal.target_meets-returns-in-Vector
target_meets-returns-in-Vector t c = rw (ap expression c.in-Vector.is ∙ seen_vector c.in-Vector.site c.in-Vector.to c.in-Vector.parts) (first_of (search rules, grind (arith, common_steps)))
