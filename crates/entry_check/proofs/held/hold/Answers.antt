use Rattle.std.proofs.Common.{ap, ◌∙◌, arith}
use Rattle.obligations.specs.Owning.{all_own_accesses, all_own_ends}
use Rattle.two_thread.specs.Paths.{all_accesses, all_ends}
use Rattle.two_thread.proofs.OwnRows.{accesses-push, ends-push}
use Rattle.walk.proofs.AtHand.{gave}
use Rattle.entry_check.proofs.Holding.{gives_alike, holds_more}
use Rattle.entry_check.proofs.held.hold.Goals as goal

pub loop-room-preserved : goal.loop-room-preserved
loop-room-preserved g c =
    let t = c.args.terrain.now in
    let i = c.loop-room.invariant in
    let k = c.in_ok-ahead.ensures in
    let v = gave g.D.Domain t c.in_ok-ahead.ahead c.next.new.self c.in_ok-path.field-0 c.in-Some.path c.in-Some.is (c.in_ok-path.ensures.next (k.stopped ∙ i.starts)) in
    let w = gives_alike g.D.Domain t c.loop-room.next c.in_ok-ahead.ahead c.next.new.self c.in-Some.path k.claims k.accesses k.ends k.count v.0 in
    let e = c.in_ok-push.ensures.items in
    record {
      stands = c.in_ok-path.ensures.stands;
      starts = v.1;
      accesses = ap (λ l. all_own_accesses (all_accesses l)) e ∙ accesses-push c.loop-room.paths.items c.in-Some.path i.accesses w.own_accesses;
      ends = ap (λ l. all_own_ends (all_ends l)) e ∙ ends-push c.loop-room.paths.items c.in-Some.path i.ends w.own_ends;
      holds = holds_more g.D.Domain t c.args.next.now c.loop-room.next c.next.new.self c.args.from.items c.loop-room.paths.items c.push.new.self.items c.in-Some.path i.holds w e;
    }

pub loop-room-smaller : goal.loop-room-smaller
loop-room-smaller g c =
    let k = c.in_ok-ahead.ensures in
    let v = gave g.D.Domain c.args.terrain.now c.in_ok-ahead.ahead c.next.new.self c.in_ok-path.field-0 c.in-Some.path c.in-Some.is (c.in_ok-path.ensures.next (k.stopped ∙ c.loop-room.invariant.starts)) in
    omega (arith, v.0.count, k.count)
