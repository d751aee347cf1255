use Rattle.std.proofs.Common.{◌-◌, ◌+◌, ◌∙◌, sym, ap, rules, arith}
use Rattle.opencl_tokens.specs.Seen.{site}
use Rattle.opencl_macros.specs.Macros.{on}
use Rattle.opencl_macros.specs.Machine.{machine, expanded}
use Rattle.opencl_macros.specs.Seen.{active, feed, table}
use Rattle.opencl_macros.specs.SeenMachine.{machine as machine_seen}
use Rattle.opencl_macros.proofs.Handing.{handed}
use Rattle.opencl_macros.proofs.Steps.{expanded-none, expanded-is, machine-none, turns}
use Rattle.opencl_macros.proofs.machine.+expansion.Goals as goal

pub expanded-returns-then-depth-eq0 : goal.expanded-returns-then-depth-eq0
expanded-returns-then-depth-eq0 t c =
    expanded-none c.args.depth (table c.args.entries.now) (site c.args.site) c.args.left (active c.args.active.now) (feed c.args.tokens.now)
    c.if-depth-eq0.true

pub expanded-returns : goal.expanded-returns
expanded-returns t c =
    rw (expanded-is c.args.depth (c.args.depth - 1) (table c.args.entries.now) (site c.args.site) c.args.left (active c.args.active.now)
    (feed c.args.tokens.now) (omega (arith, c.if-depth-eq0.false))) (search rules)

pub expanded-returns-in_err-run : goal.expanded-returns-in_err-run
expanded-returns-in_err-run t c =
    rw (expanded-is c.args.depth (c.args.depth - 1) (table c.args.entries.now) (site c.args.site) c.args.left (active c.args.active.now)
    (feed c.args.tokens.now) (omega (arith, c.if-depth-eq0.false))) (search rules)

pub run-returns-in-None : goal.run-returns-in-None
run-returns-in-None t c =
    sym c.loop-turn.invariant
    ∙ turns (4194304 - c.loop-turn._turn) (4194304 - (c.loop-turn._turn + 1)) (expanded c.args.depth (table c.args.entries.now))
    (site c.args.site) (table c.args.entries.now) (machine_seen c.loop-turn.m) _ (omega (arith, c.loop-turn-test.true)) c.in-None.ensures

pub run-loop-turn-preserved : goal.run-loop-turn-preserved
run-loop-turn-preserved t c =
    let inner = expanded c.args.depth (table c.args.entries.now) in
    let left = 4194304 - (c.loop-turn._turn + 1) in
    sym (turns (4194304 - c.loop-turn._turn) left inner (site c.args.site) (table c.args.entries.now) (machine_seen c.loop-turn.m) _
    (omega (arith, c.loop-turn-test.true)) c.in-Some.ensures
    ∙ ap (λ r. on r (machine left inner (site c.args.site) (table c.args.entries.now))) c.in_ok-advance-in-Some.ensures)
    ∙ c.loop-turn.invariant

pub run-returns-in_err-advance-in-Some : goal.run-returns-in_err-advance-in-Some
run-returns-in_err-advance-in-Some t c =
    let inner = expanded c.args.depth (table c.args.entries.now) in
    let left = 4194304 - (c.loop-turn._turn + 1) in
    let failed = handed _ _ (machine left inner (site c.args.site) (table c.args.entries.now)) c.in_err-advance-in-Some.ensures in
    rw (sym c.loop-turn.invariant
    ∙ turns (4194304 - c.loop-turn._turn) left inner (site c.args.site) (table c.args.entries.now) (machine_seen c.loop-turn.m) _
    (omega (arith, c.loop-turn-test.true)) c.in-Some.ensures) (search rules)

pub run-returns : goal.run-returns
run-returns t c =
    sym c.loop-turn.invariant
    ∙ machine-none (4194304 - c.loop-turn._turn) (expanded c.args.depth (table c.args.entries.now)) (site c.args.site)
    (table c.args.entries.now) (machine_seen c.loop-turn.m) (omega (arith, c.loop-turn-test.false))
