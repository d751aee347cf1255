use Rattle.std.proofs.Common.{◌+◌, map, arith}
use Rattle.core_code.specs.View.{kernel}
use Rattle.facts.proofs.Unmade.{passed}
use Rattle.path_steps.specs.View.{setting}
use Rattle.obligations.specs.View.{seen}
use Rattle.places.specs.View.{place}
use Rattle.walk.specs.Planting.{all_by}
use Rattle.walk.specs.Walks.{IsAnyStuck}
use Rattle.walk.proofs.EveryPlace.{next_place, any_stuck}
use Rattle.walk.proofs.every.walk_all.Goals as goal

pub returns-in_err-walked-clause-stuck : goal.returns-in_err-walked-clause-stuck
returns-in_err-walked-clause-stuck g c =
    let s = setting g.D.Domain c.args.setting.now in
    let k = kernel c.args.core.now in
    let n = seen c.args.notes.now c.args.setting.now.entries.items in
    let all = c.args.places.now in
    let l = c.loop-place in
    let z = c.in_err-walked.field-0.0 in
    passed c.from_residual.result z (IsAnyStuck (all_by g.D.Domain s k n 0 (map place all))) c.from_residual.ensures.1
    (any_stuck g.D.Domain s k n all l.place-index l.claims l.all.items c.place-item.result l.invariant c.loop-place-test.true c.place-item.is z c.in_err-walked.ensures.stuck)

pub loop-place-preserved : goal.loop-place-preserved
loop-place-preserved g c =
    let s = setting g.D.Domain c.args.setting.now in
    let k = kernel c.args.core.now in
    let n = seen c.args.notes.now c.args.setting.now.entries.items in
    let l = c.loop-place in
    next_place g.D.Domain s k n c.args.places.now l.place-index l.claims l.all.items c.place-item.result l.invariant c.loop-place-test.true c.place-item.is c.in_ok-walked.field-0.walked c.push.new.self.items (l.place-index + 1) c.in_ok-walked.field-0.after c.in_ok-walked.ensures.walked c.in_ok-walked.ensures.after c.in_ok-push.ensures.items (omega arith)
