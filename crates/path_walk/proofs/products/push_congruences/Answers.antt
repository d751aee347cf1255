use Rattle.std.proofs.Common.{◌<◌, subst}
use Rattle.linear.specs.Forms.{forms}
use Rattle.facts.proofs.Unmade.{handed}
use Rattle.path_walk.proofs.Unrooted.{unrooted_one, said_more}
use Rattle.path_walk.proofs.products.push_congruences.Goals as goal

pub returns-in_err-push_congruence : goal.returns-in_err-push_congruence
returns-in_err-push_congruence c =
    let e = c.in_err-push_congruence.field-0.0 in
    let l = c.loop-index in
    let lt = subst (λ n. l.index < n) c.quotients-index-end.ensures.exact c.loop-index-test.true in
    let k = unrooted_one e (forms l.into.items) _ c.args.congruences.now l.index l.index c.index-congruences-index.result l.invariant lt c.index-congruences-index.is c.in_err-push_congruence.ensures in
    handed c.from_residual.result e _ _ c.from_residual.ensures k

pub loop-index-preserved : goal.loop-index-preserved
loop-index-preserved c =
    let l = c.loop-index in
    let lt = subst (λ n. l.index < n) c.quotients-index-end.ensures.exact c.loop-index-test.true in
    said_more (forms l.into.items) _ _ c.args.congruences.now l.index l.index c.index-congruences-index.result l.invariant lt c.index-congruences-index.is c.in_ok-push_congruence.ensures
