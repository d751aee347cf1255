use Rattle.std.proofs.Common.{ap, sym, ◌∙◌}
use Rattle.semantics.specs.Item.{update_of}
use Rattle.core_code.specs.View.{statement, statements}
use Rattle.core_code.proofs.Rows.{seen_loop}
use Rattle.core_code.proofs.tree.Statement.update.Goals as goal

pub returns-in-Loop : goal.returns-in-Loop
returns-in-Loop c =
    let e = ap statement c.in-Loop.is ∙ seen_loop c.in-Loop.number c.in-Loop.test c.in-Loop.body c.in-Loop.update in
    ap statements c.as_slice.ensures.value ∙ sym (ap update_of e)
