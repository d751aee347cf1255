use Rattle.std.proofs.Common.{◌<◌, ◌+◌, subst}
use Rattle.linear.specs.Forms.{forms}
use Rattle.facts.proofs.Unmade.{handed}
use Rattle.path_walk.proofs.QuotientFacts.{unrooted_multiple, multiple_more}
use Rattle.path_walk.proofs.multiples.push_multiples.Goals as goal

pub returns-in_err-push_multiple : goal.returns-in_err-push_multiple
returns-in_err-push_multiple c =
    let e = c.in_err-push_multiple.field-0.0 in
    let l = c.loop-index in
    let lt = subst (λ n. l.index < n) c.count_of-index-end.ensures.exact c.loop-index-test.true in
    let k = unrooted_multiple e (forms l.into.items) _ c.args.multiples.now l.index (c.args.before + l.index) c.index-multiples-index.result l.invariant lt c.index-multiples-index.is c.in_err-push_multiple.ensures in
    handed c.from_residual.result e _ _ c.from_residual.ensures k

pub loop-index-preserved : goal.loop-index-preserved
loop-index-preserved c =
    let l = c.loop-index in
    let lt = subst (λ n. l.index < n) c.count_of-index-end.ensures.exact c.loop-index-test.true in
    multiple_more (forms l.into.items) _ _ c.args.multiples.now l.index c.args.before c.index-multiples-index.result l.invariant lt c.index-multiples-index.is c.in_ok-push_multiple.ensures
