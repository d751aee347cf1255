use Rattle.group_workers.proofs.Moves.{admits}
use Rattle.group_workers.proofs.deque.Thief.of.Goals as goal

pub pass-requires : goal.pass-requires
pass-requires g c = admits g.D.Shares.workers
