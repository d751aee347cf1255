use Rattle.std.proofs.Common.{◌-◌}
use Rattle.group_workers.proofs.collector.Collected.run_left.Given as goal

abbrev pub decreases-loop-self : goal.decreases-loop-self
decreases-loop-self g l = l.count - l.self.next
