use Rattle.std.proofs.Common.{◌-◌}
use Rattle.group_workers.proofs.running.run_all.Given as goal

abbrev pub decreases-loop-all : goal.decreases-loop-all
decreases-loop-all g l = l.count - l.all.next
