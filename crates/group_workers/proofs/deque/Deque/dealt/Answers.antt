use Rattle.std.proofs.Common.{◌≡◌, ◌∙◌, ◌+◌, ◌%◌, [], ap, refl, subst, arith}
use Rattle.std.proofs.Math.Nat.{add-mod_right}
use Rattle.crossbeam_deque.specs.Handles.{worker_port, worker_view}
use Rattle.group_workers.specs.declared.Hand.{Hand}
use Rattle.group_workers.specs.Dealing.{IsOfShare}
use Rattle.group_workers.proofs.Moves.{MayPush, begins, pushes, goes_on, filled}
use Rattle.group_workers.proofs.deque.Deque.dealt.Goals as goal
use Rattle.group_workers.proofs.deque.Deque.dealt.Goals.{else-loop-stretch-test, then-loop-stretch-test+in_default}

pub fifo_as-requires : goal.fifo_as-requires
fifo_as-requires g c = begins g.D.Shares.workers

pub push_as-pushed-requires-clause-pushes : goal.push_as-pushed-requires-clause-pushes
push_as-pushed-requires-clause-pushes g c =
    let w = c.loop-stretch.worker in
    pushes g.D.Shares.workers (worker_port w) (worker_view w) c.loop-stretch.stretch (omega (arith, c.requires.0, c.requires.1))
    (subst (λ n. MayPush n (worker_view w) c.loop-stretch.stretch) c.requires.0 c.loop-stretch.invariant.may)

pub loop-stretch-preserved : goal.loop-stretch-preserved
loop-stretch-preserved g c = record {
  flavor = c.push_as-pushed.ensures.same.1 ∙ c.loop-stretch.invariant.flavor;
  share = ap (λ n. n % c.args.workers) c.in-Some.ensures.1 ∙ (add-mod_right c.loop-stretch.stretch c.args.workers ∙ c.loop-stretch.invariant.share);
  may = goes_on g.D.Shares.workers c.args.workers c.loop-stretch.stretch c.in-Some.next (worker_view c.loop-stretch.worker) (worker_view c.push_as-pushed.new.self) _ _ _ c.push_as-pushed.result
      c.requires.0 c.in-Some.ensures.1 c.loop-stretch.invariant.may c.push_as-pushed.ensures.rule;
}

-- whether the last push was refused or not
pub returns : goal.returns
returns g c =
    let at_end = worker_view {V = Hand} c.loop-stretch-test.worker in
    let before = worker_view c.loop-stretch.worker in
    let x = c.loop-stretch.stretch in
    let share = c.loop-stretch.invariant.share in
    let done : (at_end.taken ≡ []) × IsOfShare c.args.workers c.args.share at_end = elim c.loop-stretch-test.branch [
      | else-loop-stretch-test w ↦ filled c.args.workers c.args.share x before at_end (ap (λ v. worker_view {V = Hand} v) w.worker-is) share c.loop-stretch.invariant.may
      | then-loop-stretch-test+in_default w ↦
          let after = worker_view w.push_as-pushed.new.self in
          let went = goes_on g.D.Shares.workers c.args.workers x (x + c.args.workers) before after _ _ _ w.push_as-pushed.result c.requires.0 refl c.loop-stretch.invariant.may
          w.push_as-pushed.ensures.rule in
          filled c.args.workers c.args.share (x + c.args.workers) after at_end (ap (λ v. worker_view {V = Hand} v) w.worker-is) (add-mod_right x c.args.workers ∙ share) went
    ] in record { none = done.0; share = done.1 }
