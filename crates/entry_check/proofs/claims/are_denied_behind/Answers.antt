use Rattle.std.proofs.Common.{arith}
use Rattle.two_thread.specs.Paths.{claims_seen}
use Rattle.two_thread.specs.Fitting.{claims_fit}
use Rattle.walk.specs.Cursors.{left_claims}
use Rattle.walk.proofs.AtHand.{gave}
use Rattle.entry_check.proofs.Holding.{denied_more}
use Rattle.entry_check.proofs.claims.are_denied_behind.Goals as goal

pub loop-path-smaller : goal.loop-path-smaller
loop-path-smaller g c =
    let v = gave g.D.Domain c.args.terrain.now c.loop-path.next c.next.new.self c.in_ok-path.field-0 c.in-Some.path c.in-Some.is (c.in_ok-path.ensures.next c.loop-path.invariant.starts) in
    omega (arith, v.0.count)

pub loop-path-preserved : goal.loop-path-preserved
loop-path-preserved g c =
    let t = c.args.terrain.now in
    let v = gave g.D.Domain t c.loop-path.next c.next.new.self c.in_ok-path.field-0 c.in-Some.path c.in-Some.is (c.in_ok-path.ensures.next c.loop-path.invariant.starts) in
    record {
      stands = c.in_ok-path.ensures.stands;
      starts = v.1;
      all = denied_more c.loop-path.all c.in_ok-one.one (left_claims g.D.Domain t c.loop-path.next) (claims_seen c.in-Some.path) (left_claims g.D.Domain t c.next.new.self) (claims_fit (left_claims g.D.Domain t c.args.next.now)) v.0.claims c.in_ok-one.ensures.exact c.loop-path.invariant.all;
    }
