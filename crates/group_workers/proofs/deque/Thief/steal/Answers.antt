use Rattle.group_workers.proofs.Moves.{takes}
use Rattle.group_workers.proofs.deque.Thief.steal.Goals as goal

pub steal_as-requires-clause-takes : goal.steal_as-requires-clause-takes
steal_as-requires-clause-takes g c = takes g.D.Shares.workers _ _
