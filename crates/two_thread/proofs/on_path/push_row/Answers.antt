use Rattle.two_thread.proofs.Rows.{row_step}
use Rattle.two_thread.proofs.on_path.push_row.Goals as goal

pub loop-item-preserved : goal.loop-item-preserved
loop-item-preserved c = row_step c.args.path c.loop-item.item c.args.count c.loop-item.found.items c.push.new.self.items _ c.loop-item-test.true c.in_ok-push.ensures.items c.loop-item.invariant
