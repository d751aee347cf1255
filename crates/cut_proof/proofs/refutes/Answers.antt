use Rattle.std.proofs.Common.{sym, map, ◌∙◌, ◌++◌}
use Rattle.linear.specs.Forms.{forms}
use Rattle.cut_proof.specs.Derivations.{refutes_with}
use Rattle.cut_proof.specs.View.{line, lemma}
use Rattle.cut_proof.proofs.Lemmas.{shown, failing, next_lemma, all_lemmas, if_refuted, if_refuted_with_products}
use Rattle.cut_proof.proofs.refutes.Goals as goal

pub returns-then-not-branch-clause-exact : goal.returns-then-not-branch-clause-exact
returns-then-not-branch-clause-exact c =
    let w = rw c.in-Some.is at c.in_ok-denial.ensures in
    let p = c.as_slice.ensures.value in
    let q = c.as_slice-in-loop-lemma.ensures.value in
    let a = rw (p, q) at c.in_ok-are_refuted.ensures in
    let s = shown (forms c.args.facts.now) c.loop-lemma.known.items c.push.new.self.items c.in-Some.denial c.lemma-item.result c.in_ok-are_refuted.field-0 c.in_ok-push.ensures.items w a in
    failing (forms c.args.facts.now ++ forms c.loop-lemma.known.items) c.as_slice-lemmas.result.now c.lemma-item.result c.loop-lemma.lemma-index (map line c.as_slice-lines.result.now) _ c.loop-lemma-test.true c.lemma-item.is (sym c.if-not-branch.true ∙ s) c.loop-lemma.invariant
    ∙ (λ j. refutes_with (forms c.args.facts.now) (map lemma (c.as_slice-lemmas.ensures.value j)) (map line (c.as_slice-lines.ensures.value j)))

pub loop-lemma-preserved : goal.loop-lemma-preserved
loop-lemma-preserved c =
    let w = rw c.in-Some.is at c.in_ok-denial.ensures in
    let p = c.as_slice.ensures.value in
    let q = c.as_slice-in-loop-lemma.ensures.value in
    let a = rw (p, q) at c.in_ok-are_refuted.ensures in
    let s = shown (forms c.args.facts.now) c.loop-lemma.known.items c.push.new.self.items c.in-Some.denial c.lemma-item.result c.in_ok-are_refuted.field-0 c.in_ok-push.ensures.items w a in
    let m = c.in_ok-replace_last.ensures c.loop-lemma.known.items c.in-Some.denial c.in_ok-push.ensures.items in
    next_lemma (forms c.args.facts.now) c.loop-lemma.known.items c.replace_last.new.known.items c.in_ok-form.form c.as_slice-lemmas.result.now c.lemma-item.result c.loop-lemma.lemma-index (map line c.as_slice-lines.result.now) _ c.loop-lemma-test.true c.lemma-item.is (sym c.if-not-branch.false ∙ s) m c.in_ok-form.ensures c.loop-lemma.invariant

pub returns-clause-impossible : goal.returns-clause-impossible
returns-clause-impossible c =
    let e = rw c.as_slice-2.ensures.value at c.are_refuted-2.ensures in
    let k = all_lemmas (forms c.args.facts.now ++ forms c.loop-lemma.known.items) c.as_slice-lemmas.result.now c.loop-lemma.lemma-index (map line c.as_slice-lines.result.now) _ c.loop-lemma-test.false c.loop-lemma.invariant in
    let i = if_refuted c.are_refuted-2.result (forms c.args.facts.now) (map lemma c.as_slice-lemmas.result.now) (map line c.as_slice-lines.result.now) _ k e in
    rw (c.as_slice-lemmas.ensures.value, c.as_slice-lines.ensures.value) at i

pub returns-clause-impossible_with_products : goal.returns-clause-impossible_with_products
returns-clause-impossible_with_products c =
    let e = rw c.as_slice-2.ensures.value at c.are_refuted-2.ensures in
    let k = all_lemmas (forms c.args.facts.now ++ forms c.loop-lemma.known.items) c.as_slice-lemmas.result.now c.loop-lemma.lemma-index (map line c.as_slice-lines.result.now) _ c.loop-lemma-test.false c.loop-lemma.invariant in
    if_refuted_with_products c.are_refuted-2.result (forms c.args.facts.now) (map lemma c.as_slice-lemmas.result.now) (map line c.as_slice-lines.result.now) _ k e
