use Rattle.std.proofs.Common.{◌-◌}
use Rattle.group_workers.proofs.collector.Collected.take.Given as goal

abbrev pub decreases-loop-self : goal.decreases-loop-self
decreases-loop-self g l = l.window.end - l.self.next
