use Rattle.std.proofs.Common.{◌≡◌, ◌-◌, ◌%◌}
use Rattle.crossbeam_deque.specs.Handles.{worker_flavor, worker_view}
use Rattle.group_workers.proofs.Moves.{MayPush}
use Rattle.group_workers.proofs.deque.Deque.dealt.Given as goal

abbrev pub invariant-loop-stretch : goal.invariant-loop-stretch
invariant-loop-stretch g l = record {
  flavor : worker_flavor l.worker ≡ 0;
  share : l.stretch % l.workers ≡ l.share % l.workers;
  may : MayPush l.workers (worker_view l.worker) l.stretch;
}

abbrev pub decreases-loop-stretch : goal.decreases-loop-stretch
decreases-loop-stretch g l = l.count - l.stretch
