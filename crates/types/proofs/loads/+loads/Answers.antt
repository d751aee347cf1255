use Rattle.std.proofs.Common.{ap, ◌∙◌}
use Rattle.syntax.proofs.Rows.{seen_call}
use Rattle.syntax.specs.View.{expression}
use Rattle.types.proofs.loads.+loads.Goals as goal

pub first_load-returns-in-Call : goal.first_load-returns-in-Call
first_load-returns-in-Call t c =
    let e = ap expression c.in-Call.is ∙ seen_call c.in-Call.site c.in-Call.name c.in-Call.arguments in
    rw e (rw c.as_slice.ensures.value at c.first_load_in.ensures)
