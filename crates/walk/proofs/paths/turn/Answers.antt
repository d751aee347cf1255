use Rattle.std.proofs.Common.{rules, ◌≡◌, ◌<◌, ◌∙◌, ◌+◌, map, length, refl, sym, ap, subst}
use Rattle.facts.proofs.Unmade.{passed}
use Rattle.path_steps.specs.View.{choice}
use Rattle.walk.specs.View.{maybe_choices}
use Rattle.walk.proofs.Onward.{next_from, one_more, fewer_left, many_end}
use Rattle.places.specs.View.{place}
use Rattle.arrival_claims.specs.View.{placed}
use Rattle.walk.specs.Planting.{planted_at}
use Rattle.walk.specs.Walks.{IsStuck}
use Rattle.walk.specs.declared.error.FindError.TheVariants as errors
use Rattle.walk.proofs.Stuck.{stuck}
use Rattle.walk.proofs.OnePlace.{statement_at}
use Rattle.walk.proofs.paths.turn.Goals as goal

pub returns-in_err-path-clause-stuck : goal.returns-in_err-path-clause-stuck
returns-in_err-path-clause-stuck g c =
    let q = planted_at g.D.Domain (placed g.D.Domain c.args.placing.now) c.args.claims (place c.args.place.now) in
    let cs = map choice c.args.given.items in
    let e = c.in_err-path.field-0.0 in
    passed c.from_residual.result (errors.Walk e) (IsStuck q) c.from_residual.ensures.1 (stuck q cs c.requires.goes.walked.right e c.in_err-path.ensures.cut)

pub returns-in_err-ends-clause-stuck : goal.returns-in_err-ends-clause-stuck
returns-in_err-ends-clause-stuck g c =
    let w = c.args.placing.now in
    let at = place c.args.place.now in
    let q = planted_at g.D.Domain (placed g.D.Domain w) c.args.claims at in
    let cs = map choice c.args.given.items in
    let so_far = c.args.so_far.now in
    let said = c.in_err-ends.ensures in
    let p = c.in_ok-path.path in
    let n : c.len-more.result ≡ length p.ends.items = search rules in
    let many = subst (λ k. 256 < so_far.ends + k) n said.1 in
    let over = many_end q.facts q.claims q.tree p cs c.in_ok-path.ensures.found so_far.paths.items so_far.ends so_far.count c.requires.goes.walked many in
    passed c.from_residual-in_err-ends.result c.in_err-ends.field-0.0 (IsStuck q) c.from_residual-in_err-ends.ensures.1
    (subst (IsStuck q) (sym said.0) (statement_at g.D.Domain w c.args.claims at _ c.statement_of-statement.ensures, over))

pub returns-clause-goes : goal.returns-clause-goes
returns-clause-goes g c =
    let q = planted_at g.D.Domain (placed g.D.Domain c.args.placing.now) c.args.claims (place c.args.place.now) in
    let cs = map choice c.args.given.items in
    let so_far = c.args.so_far.now in
    let p = c.in_ok-path.path in
    let n : c.len-more.result ≡ length p.ends.items = search rules in
    let next = maybe_choices c.in_ok-next.next in
    let e = next_from p next c.as_slice.result.now c.in_ok-next.ensures c.as_slice.ensures.value in
    record {
      walked = one_more q.facts q.claims q.tree p cs c.in_ok-path.ensures.found so_far.paths.items so_far.ends so_far.count c.requires.goes.walked c.push.new.self.items c.in_ok-ends.ends p.count next c.in_ok-push.ensures.items (c.in_ok-ends.ensures.0 ∙ ap (λ k. so_far.ends + k) n) refl e;
      known = λ o. c.in_ok-path.ensures.known;
    }

pub returns-clause-fewer : goal.returns-clause-fewer
returns-clause-fewer g c =
    let q = planted_at g.D.Domain (placed g.D.Domain c.args.placing.now) c.args.claims (place c.args.place.now) in
    let cs = map choice c.args.given.items in
    let so_far = c.args.so_far.now in
    let p = c.in_ok-path.path in
    let next = maybe_choices c.in_ok-next.next in
    let e = next_from p next c.as_slice.result.now c.in_ok-next.ensures c.as_slice.ensures.value in
    fewer_left q.facts q.claims q.tree p cs c.in_ok-path.ensures.found so_far.paths.items so_far.ends so_far.count c.requires.goes.walked next e
