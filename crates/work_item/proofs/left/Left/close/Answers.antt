use Rattle.work_item.proofs.Stacks.{popped}
use Rattle.work_item.proofs.left.Left.close.Goals as goal

pub returns-clause-closed : goal.returns-clause-closed
returns-clause-closed c = popped c.pop-self.result c.args.self.now.around.items c.pop-self.new.self.items _ _ c.pop-self.ensures.items c.args.self.now.around.ok.0 c.pop-self.ensures.cases
