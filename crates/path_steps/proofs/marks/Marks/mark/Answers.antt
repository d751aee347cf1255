use Rattle.std.proofs.Common.{sym}
use Rattle.path_steps.proofs.Marking.{marked_push}
use Rattle.path_steps.proofs.marks.Marks.mark.Goals as goal

pub returns-else-is_err : goal.returns-else-is_err
returns-else-is_err g c = λ ns a p. marked_push c.insert.result c.args.self.now.from c.args.self.now.latest c.insert.new.self ns c.args.narrowed.now c.args.last (sym c.if-is_err.ensures.value) c.insert.ensures.updates p a
