use Rattle.std.proofs.Common.{◌+◌, ◌*◌}
use Rattle.group_workers.proofs.running.+workers.Given as goal

abbrev pub decreases-join+arg2 : goal.decreases-join+arg2
decreases-join+arg2 g l = 2 * l.seats.len + 1

abbrev pub decreases-run_workers : goal.decreases-run_workers
decreases-run_workers g l = 2 * l.seats.len
