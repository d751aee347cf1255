use Rattle.std.proofs.Common.{◌++◌, ◌∙◌, cond, nat_eq, ap, List, arith}
use Rattle.std.specs.Prelude.{ℤ}
use Rattle.semantics.specs.Memory.{Cell}
use Rattle.semantics.specs.Rounds.{log_of}
use Rattle.lane_groups.specs.Owns.{own_in}
use Rattle.lane_groups.specs.Strips.{strip_at}
use Rattle.lane_groups.proofs.Spilled.{spilled_more, spilled_all}
use Rattle.lane_groups.proofs.round.spill.Goals as goal

pub loop-lane-preserved : goal.loop-lane-preserved
loop-lane-preserved c =
    let n = c.loop-lane.lane in
    let xs = own_in c.loop-lane.own.items in (
      spilled_more (own_in c.args.own.now.items) (strip_at c.args.strip.now) n xs (own_in c.add_some.new.own.items)
          (λ k. c.in_ok-add_some.ensures.own k ∙ ap (λ (ys : List (Cell × ℤ)). log_of (cond (nat_eq k n) (xs n ++ ys) (xs k))) c.store.ensures) c.loop-lane.invariant.0,
      c.in_ok-add_some.ensures.count ∙ c.loop-lane.invariant.1,
    )

pub returns-clause-own : goal.returns-clause-own
returns-clause-own c = λ k.
    spilled_all (own_in c.args.own.now.items) (strip_at c.args.strip.now) c.loop-lane.lane (own_in c.loop-lane.own.items) (λ j l. c.requires j (omega (arith, l, c.loop-lane-test.false, c.len-lane-end.ensures))) c.loop-lane.invariant.0 k
