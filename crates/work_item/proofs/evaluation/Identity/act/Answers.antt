use Rattle.std.proofs.Common.{ap, sym, ◌∙◌, map, ◌∷◌, []}
use Rattle.semantics.specs.Item as items
use Rattle.semantics.specs.Ask as meaning
use Rattle.semantics.specs.Evaluation.{evaluate}
use Rattle.words.specs.View.{word}
use Rattle.core_code.specs.View.{term, statement, statements}
use Rattle.core_code.proofs.Rows.{seen_if, seen_loop}
use Rattle.work_item.specs.View.{setup_at, outcome}
use Rattle.work_item.specs.Left.{behind, fronted, stacked}
use Rattle.work_item.specs.Items.{item}
use Rattle.work_item.proofs.Acting.{acts_if, acts_loop}
use Rattle.work_item.proofs.evaluation.Identity.act.Goals as goal

pub returns-in-Store : goal.returns-in-Store
returns-in-Store c = λ i h.
    let s = setup_at c.args.self.now in
    let it = item c.args.item.now in
    c.store.ensures i h ∙ sym (ap (λ st. meaning.act s i it (statement st) c.args.frame.turns (behind it.left)) c.in-Store.is)

pub returns-in-Ok-evaluate : goal.returns-in-Ok-evaluate
returns-in-Ok-evaluate c = λ i h.
    let s = setup_at c.args.self.now in
    let it = item c.args.item.now in
    let b = c.in-If in
    let e = ap statement b.is ∙ seen_if b.number b.test b.taken b.skipped in
    let q = sym (ap outcome c.in-Ok-evaluate.is) ∙ c.evaluate-in-If.ensures i (items.trail it.left) h
    ∙ ap (λ vs. evaluate s i (items.trail it.left) (term b.test) (map word vs) (map word c.as_slice-answers.result.now)) c.as_slice-variables.ensures.value
    ∙ ap (λ vs. evaluate s i (items.trail it.left) (term b.test) it.variables (map word vs)) c.as_slice-answers.ensures.value in
    let k = rw (c.as_slice.ensures.value, c.as_slice-in-Ok-evaluate.ensures.value) at c.chosen.ensures (behind it.left) in
    acts_if s i it b.number (term b.test) (statements b.taken.items) (statements b.skipped.items) c.args.frame.turns (behind it.left) _ _ _ q k
    ∙ sym (ap (λ st. meaning.act s i it st c.args.frame.turns (behind it.left)) e)

pub returns-in-Ok-evaluate-2 : goal.returns-in-Ok-evaluate-2
returns-in-Ok-evaluate-2 c = λ i h.
    let s = setup_at c.args.self.now in
    let it = item c.args.item.now in
    let b = c.in-Loop in
    let e = ap statement b.is ∙ seen_loop b.number b.test b.body b.update in
    let q = sym (ap outcome c.in-Ok-evaluate-2.is) ∙ c.evaluate-in-Loop.ensures i (items.trail it.left) h
    ∙ ap (λ vs. evaluate s i (items.trail it.left) (term b.test) (map word vs) (map word c.as_slice-answers.result.now)) c.as_slice-variables.ensures.value
    ∙ ap (λ vs. evaluate s i (items.trail it.left) (term b.test) it.variables (map word vs)) c.as_slice-answers.ensures.value in
    let l = ap (λ o. fronted o c.args.item.now.left.around.items) c.requires.front
    ∙ ap (λ st. record { statement = st; turns = c.args.frame.turns } ∷ items.enter (statements c.args.frame.others.now) (stacked c.args.item.now.left.around.items [])) e in
    let k = rw (c.as_slice-in-Ok-evaluate-2.ensures.value, c.as_slice-in-Ok-evaluate-2-2.ensures.value) at c.turn.ensures it in
    acts_loop s i it b.number (term b.test) (statements b.body.items) (statements b.update.items) c.args.frame.turns _ _ _ _ q l k
    ∙ sym (ap (λ st. meaning.act s i it st c.args.frame.turns (behind it.left)) e)
