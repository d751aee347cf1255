use Rattle.group_workers.proofs.Moves.{takes}
use Rattle.group_workers.proofs.deque.Deque.take.Goals as goal

pub pop_as-requires-clause-fifo : goal.pop_as-requires-clause-fifo
pop_as-requires-clause-fifo g c = λ _. takes g.D.Shares.workers _ _
