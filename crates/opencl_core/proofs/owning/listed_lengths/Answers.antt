use Rattle.std.proofs.Common.{ap, ◌∙◌, rules, arith}
use Rattle.std.proofs.lemmas.Grind.{common_steps}
use Rattle.opencl_tree.specs.View.{initial}
use Rattle.opencl_tree.proofs.Rows.{seen_listed}
use Rattle.opencl_core.proofs.owning.listed_lengths.Goals as goal

pub returns-in-Listed : goal.returns-in-Listed
returns-in-Listed c =
    rw (ap initial c.in-Listed.is ∙ seen_listed c.in-Listed.site c.in-Listed.values) (first_of (search rules, grind (arith, common_steps)))
