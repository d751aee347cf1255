use Rattle.std.proofs.Common.{rules, arith, ◌≡◌, ap, ◌∙◌}
use Rattle.std.specs.Prelude.{None}
use Rattle.walk.proofs.AtHand.{gave, gave_none}
use Rattle.entry_check.specs.Rows.{all_alone, left_rows, rows_seen}
use Rattle.entry_check.proofs.Holding.{alone_is}
use Rattle.entry_check.proofs.Pairing.{alone_more, alone_over, gives_rows, over_rows}
use Rattle.entry_check.proofs.pairs.are_alone_behind.Goals as goal

pub alone-requires-clause-accesses : goal.alone-requires-clause-accesses
alone-requires-clause-accesses g c = (gave g.D.Domain c.args.terrain.now c.loop-path.next c.next.new.self c.in_ok-path.field-0 c.in-Some.path c.in-Some.is (c.in_ok-path.ensures.next c.loop-path.invariant.starts)).0.own_accesses

pub alone-requires-clause-ends : goal.alone-requires-clause-ends
alone-requires-clause-ends g c = (gave g.D.Domain c.args.terrain.now c.loop-path.next c.next.new.self c.in_ok-path.field-0 c.in-Some.path c.in-Some.is (c.in_ok-path.ensures.next c.loop-path.invariant.starts)).0.own_ends

pub loop-path-smaller : goal.loop-path-smaller
loop-path-smaller g c = let v = gave g.D.Domain c.args.terrain.now c.loop-path.next c.next.new.self c.in_ok-path.field-0 c.in-Some.path c.in-Some.is (c.in_ok-path.ensures.next c.loop-path.invariant.starts) in omega (arith, v.0.count)

pub loop-path-preserved : goal.loop-path-preserved
loop-path-preserved g c =
    let t = c.args.terrain.now in
    let k = c.args.kind in
    let v = gave g.D.Domain c.args.terrain.now c.loop-path.next c.next.new.self c.in_ok-path.field-0 c.in-Some.path c.in-Some.is (c.in_ok-path.ensures.next c.loop-path.invariant.starts) in
    let left = left_rows g.D.Domain t k c.loop-path.next in
    let behind = left_rows g.D.Domain t k c.next.new.self in
    record {
      stands = c.in_ok-path.ensures.stands;
      starts = v.1;
      all = alone_more t k c.loop-path.all c.in_ok-one.one left (rows_seen k c.in-Some.path) behind (all_alone t k (left_rows g.D.Domain t k c.args.next.now)) (gives_rows g.D.Domain t k c.loop-path.next c.next.new.self c.in-Some.path v.0) (c.in_ok-one.ensures.exact ∙ ap (all_alone t k) (alone_is (rows_seen k) c.in_ok-met.met.paths.items c.in-Some.path c.in_ok-met.ensures.paths)) c.loop-path.invariant.all;
    }

pub returns-clause-exact : goal.returns-clause-exact
returns-clause-exact g c =
    let t = c.args.terrain.now in
    let k = c.args.kind in
    let none : c.in_ok-path.field-0 ≡ None = search rules in
    let over = over_rows g.D.Domain t k c.loop-path.next (gave_none g.D.Domain t c.loop-path.next c.next.new.self c.in_ok-path.field-0 none (c.in_ok-path.ensures.next c.loop-path.invariant.starts)).0 in
    alone_over t k c.loop-path.all (left_rows g.D.Domain t k c.loop-path.next) (all_alone t k (left_rows g.D.Domain t k c.args.next.now)) over c.loop-path.invariant.all
