use Rattle.std.proofs.Common.{◌≡◌, ap, suc, arith, ◌∙◌}
use Rattle.core_code.specs.View.{statements}
use Rattle.unreckoned.specs.Marking.{mark_all, passed}
use Rattle.unreckoned.specs.View.{marks}
use Rattle.unreckoned.proofs.marks.Marks.of.Goals as goal

pub loop-pass-init : goal.loop-pass-init
loop-pass-init c = λ left h.
    let all : left ≡ 16 = omega (arith, h) in
    ap (λ n. passed n (statements c.args.core.now.body.items) (marks c.in_ok-marks.marks)) all

pub loop-pass-preserved : goal.loop-pass-preserved
loop-pass-preserved c = λ left h.
    let ss = statements c.args.core.now.body.items in
    let old = marks c.loop-pass.marks in
    ap (passed left ss) (c.mark_all.ensures ∙ ap (λ xs. mark_all old (statements xs)) c.as_slice.ensures.value) ∙ c.loop-pass.invariant (suc left) (omega (arith, h))

pub returns : goal.returns
returns c =
    c.loop-pass.invariant 0 (omega (arith, c.loop-pass-test.false, c.loop-pass.auto._pass-end)) ∙ ap (passed 16 (statements c.args.core.now.body.items)) c.in_ok-marks.ensures
