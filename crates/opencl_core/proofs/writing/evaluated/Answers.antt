use Rattle.std.proofs.Common.{ap, ◌∙◌, rules, arith}
use Rattle.std.proofs.lemmas.Grind.{common_steps}
use Rattle.opencl_tree.specs.View.{expression}
use Rattle.opencl_tree.proofs.Rows.{seen_call}
use Rattle.opencl_core.specs.View.{room}
use Rattle.opencl_core.proofs.Calls.{evaluated-is}
use Rattle.opencl_core.proofs.writing.evaluated.Goals as goal

pub returns-in-Call : goal.returns-in-Call
returns-in-Call c =
    let e = ap expression c.in-Call.is ∙ seen_call c.in-Call.site c.in-Call.name c.in-Call.arguments in
    rw (evaluated-is (room c.args.room.now) e) (first_of (search rules, grind (arith, common_steps)))
