use Rattle.std.proofs.Common.{ap, sym, ◌∙◌, ◌≡◌, arith, rules, length, string_bytes, Ok, refl}
use Rattle.std.proofs.lemmas.Grind.{common_steps}
use Rattle.semantics.specs.Core.{Loop, none}
use Rattle.texts.specs.Declarations.{declared_in}
use Rattle.texts.specs.Surface.{DeclareArray}
use Rattle.words.specs.View.{kind}
use Rattle.types.specs.Elaboration.{elaborated, single, elaborate_statement, elaborate_assignment, barrier_of, inside, jump_to}
use Rattle.syntax.proofs.Rows.{seen_if, seen_while, seen_for, seen_block}
use Rattle.syntax.specs.View.{jump_word, statement as stmt, statements as stmts, first as first_of, assignment, expression}
use Rattle.core_code.specs.View.{site as site_of}
use Rattle.types.specs.Names.{scope_seen, one_seen, all_seen}
use Rattle.core_code.specs.View.{term, statement, statements}
use Rattle.types.specs.Answers.{typed_term}
use Rattle.types.specs.Arounds.{around as around_of}
use Rattle.types.proofs.Blocks.{all-done, all-step, gives-behind, gives-alone, if-taken, if-refused, otherwise-done, while-done, repeated-done, for-done, for-first, for-repeated, behind-two, block-done}
use Rattle.types.proofs.Rooms.{statement-grown, first-grown, block-grown, next-room, if-declares, while-declares, for-declares, block-declares}
use Rattle.types.proofs.Names.{names-left, for-left, names-kept}
use Rattle.core_code.proofs.Rows as core_rows
use Rattle.core_code.proofs.Rows.{seen_loop}
use Rattle.syntax.specs.declared.tree.Stmt.{size-Stmt}
use Rattle.syntax.specs.declared.tree.Stmt.TheViews.{sized-If, sized-While, sized-For, sized-Block}
use Rattle.types.proofs.statements.+statements.Goals as goal

pub elaborate_all-loop-s-preserved : goal.elaborate_all-loop-s-preserved
elaborate_all-loop-s-preserved t c =
    let sc = scope_seen c.loop-s.scope in
    let out = statements c.loop-s.out.items in
    let k = all-step (around_of c.args.around) out sc c.args.body.now c.loop-s.s-index c.s-item.result c.loop-s-test.true c.s-item.is in
    let k' = rw c.in_ok-elaborate_statement.ensures at k in
    let after = c.elaborate_statement.new in
    let g = statement-grown (around_of c.args.around) sc (stmt c.s-item.result) out (all_seen after.out.items after.scope) c.in_ok-elaborate_statement.ensures in
    record {
      room = omega (arith, c.loop-s.invariant.room, g, next-room c.args.body.now c.loop-s.s-index c.s-item.result c.loop-s-test.true c.s-item.is);
      same = sym k' ∙ c.loop-s.invariant.same;
    }

pub elaborate_all-returns : goal.elaborate_all-returns
elaborate_all-returns t c =
    sym c.loop-s.invariant.same ∙ all-done (around_of c.args.around) (statements c.loop-s.out.items) (scope_seen c.loop-s.scope) c.args.body.now c.loop-s.s-index c.loop-s-test.false

pub elaborate_statement-returns-in-DeclareArray : goal.elaborate_statement-returns-in-DeclareArray
elaborate_statement-returns-in-DeclareArray t c =
    let e = ap stmt c.in-DeclareArray.is in
    let k = rw c.as_str.ensures.value at (c.declare_local.ensures c.in-DeclareArray.number) in
    let x = elaborate_statement (around_of c.args.around) (scope_seen c.args.scope.now) (DeclareArray c.in-DeclareArray.number (site_of c.in-DeclareArray.site) (kind c.in-DeclareArray.kind) (site_of c.in-DeclareArray.name_site) (string_bytes c.in-DeclareArray.name) c.in-DeclareArray.length) in
    rw e (gives-behind c.declare_local.result x (statements c.args.out.now.items) (scope_seen c.declare_local.new.scope) k)

pub elaborate_statement-returns-in-Declare : goal.elaborate_statement-returns-in-Declare
unfolding elaborate_statement
elaborate_statement-returns-in-Declare t c =
    let e = ap stmt c.in-Declare.is in
    rw e (c.push_one.ensures _ (scope_seen c.elaborate_declaration.new.scope) c.elaborate_declaration.ensures)

pub elaborate_statement-returns-in-Assign : goal.elaborate_statement-returns-in-Assign
unfolding elaborate_statement
elaborate_statement-returns-in-Assign t c =
    let e = ap stmt c.in-Assign.is in
    let sc = scope_seen c.args.scope.now in
    let k = gives-alone c.elaborate_assignment.result (elaborate_assignment sc (assignment c.in-Assign.assignment)) sc c.elaborate_assignment.ensures in
    rw e (c.push_one-in-Assign.ensures _ sc k)

pub elaborate_statement-returns-in-Barrier : goal.elaborate_statement-returns-in-Barrier
unfolding elaborate_statement
elaborate_statement-returns-in-Barrier t c =
    let e = ap stmt c.in-Barrier.is in
    let sc = scope_seen c.args.scope.now in
    let k = gives-alone c.barrier_of.result (barrier_of c.in-Barrier.number (expression c.in-Barrier.flags)) sc c.barrier_of.ensures in
    rw e (c.push_one-in-Barrier.ensures _ sc k)

pub elaborate_statement-returns-in-Jump : goal.elaborate_statement-returns-in-Jump
unfolding elaborate_statement
elaborate_statement-returns-in-Jump t c =
    let e = ap stmt c.in-Jump.is in
    let sc = scope_seen c.args.scope.now in
    let k = gives-alone c.jump_to.result (jump_to c.in-Jump.number (site_of c.in-Jump.site) (around_of c.args.around) (jump_word c.in-Jump.jump)) sc c.jump_to.ensures in
    rw e (c.push_one-in-Jump.ensures _ sc k)

pub elaborate_statement-returns-in_err-elaborate_block-in-If : goal.elaborate_statement-returns-in_err-elaborate_block-in-If
elaborate_statement-returns-in_err-elaborate_block-in-If t c =
    let e = ap stmt c.in-If.is ∙ seen_if c.in-If.number c.in-If.site c.in-If.test c.in-If.taken c.in-If.skipped in
    let q = rw (c.new-inside.ensures.items, c.deref.ensures.value) at c.in_err-elaborate_block-in-If.ensures in
    let k = if-refused (around_of c.args.around) (scope_seen c.args.scope.now) c.in-If.number (site_of c.in-If.site) (expression c.in-If.test) (stmts c.in-If.taken.items) (stmts c.in-If.skipped.items) (typed_term c.in_ok-test-in-If.test) c.in_err-elaborate_block-in-If.field-0.0 (statements c.args.out.now.items) c.in_ok-test-in-If.ensures q in
    rw e (grind (arith, common_steps, k))

pub elaborate_statement-returns-in_ok-elaborate_block-in-If : goal.elaborate_statement-returns-in_ok-elaborate_block-in-If
elaborate_statement-returns-in_ok-elaborate_block-in-If t c =
    let e = ap stmt c.in-If.is ∙ seen_if c.in-If.number c.in-If.site c.in-If.test c.in-If.taken c.in-If.skipped in
    let q = rw (c.new-inside.ensures.items, c.deref.ensures.value) at c.in_ok-elaborate_block-in-If.ensures in
    let after = c.elaborate_block.new in
    let k = if-taken (around_of c.args.around) (scope_seen c.args.scope.now) c.in-If.number (site_of c.in-If.site) (expression c.in-If.test) (stmts c.in-If.taken.items) (stmts c.in-If.skipped.items) (typed_term c.in_ok-test-in-If.test) (all_seen after.out.items after.scope) c.in_ok-test-in-If.ensures q in
    rw (e, k) (c.push_one-in-If.ensures _ (scope_seen c.elaborate_else.new.scope) (rw c.deref-in-If.ensures.value at c.elaborate_else.ensures))

pub elaborate_statement-returns-in-While : goal.elaborate_statement-returns-in-While
elaborate_statement-returns-in-While t c =
    let e = ap stmt c.in-While.is ∙ seen_while c.in-While.number c.in-While.site c.in-While.test c.in-While.body in
    let k = rw c.deref-in-While.ensures.value at (c.elaborate_while.ensures (around_of c.args.around) (site_of c.in-While.site)) in
    rw e (c.push_one-in-While.ensures _ (scope_seen c.elaborate_while.new.scope) k)

pub elaborate_statement-returns-in-For : goal.elaborate_statement-returns-in-For
elaborate_statement-returns-in-For t c =
    let e = ap stmt c.in-For.is ∙ seen_for c.in-For.number c.in-For.site c.in-For.first c.in-For.test c.in-For.update c.in-For.body in
    rw e (rw c.deref-in-For.ensures.value at (c.elaborate_for.ensures (around_of c.args.around) (site_of c.in-For.site)))

pub elaborate_statement-returns-in-Block : goal.elaborate_statement-returns-in-Block
unfolding elaborate_statement
elaborate_statement-returns-in-Block t c =
    let e = ap stmt c.in-Block.is ∙ seen_block c.in-Block.number c.in-Block.site c.in-Block.body in
    rw e (rw c.deref-in-Block.ensures.value at c.elaborate_block-in-Block.ensures)

pub elaborate_for-returns-in_err-elaborate_first : goal.elaborate_for-returns-in_err-elaborate_first
elaborate_for-returns-in_err-elaborate_first t c = λ around at.
    let k = for-first around (scope_seen c.args.scope.now) c.args.number at (first_of c.args.header.first.now) (expression c.args.header.test.now) (assignment c.args.header.update.now) (stmts c.args.body.now) c.in_err-elaborate_first.field-0.0 (statements c.args.out.now.items) c.in_err-elaborate_first.ensures in
    grind (arith, common_steps, k)

pub elaborate_for-returns-in_err-elaborate_repeated : goal.elaborate_for-returns-in_err-elaborate_repeated
elaborate_for-returns-in_err-elaborate_repeated t c = λ around at.
    let f = one_seen c.elaborate_first.new.scope c.in_ok-elaborate_first.field-0 in
    let k = for-repeated around (scope_seen c.args.scope.now) c.args.number at (first_of c.args.header.first.now) (expression c.args.header.test.now) (assignment c.args.header.update.now) (stmts c.args.body.now) f c.in_err-elaborate_repeated.field-0.0 (statements c.args.out.now.items) c.in_ok-elaborate_first.ensures c.in_err-elaborate_repeated.ensures in
    grind (arith, common_steps, k)

pub elaborate_for-returns : goal.elaborate_for-returns
elaborate_for-returns t c = λ around at.
    let sc = scope_seen c.args.scope.now in
    let f = one_seen c.elaborate_first.new.scope c.in_ok-elaborate_first.field-0 in
    let x = one_seen c.elaborate_repeated.new.scope c.in_ok-elaborate_repeated.field-0 in
    let k = for-done around sc c.args.number at (first_of c.args.header.first.now) (expression c.args.header.test.now) (assignment c.args.header.update.now) (stmts c.args.body.now) f x c.in_ok-elaborate_first.ensures c.in_ok-elaborate_repeated.ensures in
    let l = for-left sc (first_of c.args.header.first.now) f c.args.number (expression c.args.header.test.now) (assignment c.args.header.update.now) (stmts c.args.body.now) x c.in_ok-elaborate_first.ensures c.in_ok-elaborate_repeated.ensures in
    let n : c.len-outside.result ≡ length c.args.scope.now.visible.entries = search rules in
    let v = names-kept c.args.scope.now.visible c.elaborate_repeated.new.scope.visible c.truncate.new.self c.len-outside.result n c.truncate.ensures.entries l in
    let p = c.in_ok-push.ensures.items in
    let q = c.in_ok-push-2.ensures.items in
    rw (k, v, q, p, ← behind-two c.args.out.now.items c.in_ok-elaborate_first.field-0 c.in_ok-elaborate_repeated.field-0) refl

pub elaborate_block-returns : goal.elaborate_block-returns
elaborate_block-returns t c =
    let sc = scope_seen c.args.scope.now in
    let h = rw c.inside.ensures at c.in_ok-elaborate_all.ensures in
    let l = names-left (inside (around_of c.args.around)) sc (stmts c.args.body.now) (statements c.args.out.now.items) (all_seen c.elaborate_all.new.out.items c.elaborate_all.new.scope) h in
    let n : c.len-outside.result ≡ length c.args.scope.now.visible.entries = search rules in
    let v = names-kept c.args.scope.now.visible c.elaborate_all.new.scope.visible c.truncate.new.self c.len-outside.result n c.truncate.ensures.entries l in
    rw v (block-done (around_of c.args.around) sc (stmts c.args.body.now) (statements c.args.out.now.items) (all_seen c.elaborate_all.new.out.items c.elaborate_all.new.scope) h)

pub elaborate_else-returns : goal.elaborate_else-returns
elaborate_else-returns t c =
    let after = c.elaborate_block.new in
    let q = rw c.new-inside.ensures.items at c.in_ok-elaborate_block.ensures in
    otherwise-done (around_of c.args.around) (scope_seen c.args.scope.now) c.args.branch.number (term c.args.branch.test) (statements c.args.branch.taken.items) (stmts c.args.skipped.now) (all_seen after.out.items after.scope) q
    ∙ ap (λ s. Ok (elaborated (single s) (scope_seen after.scope))) (sym (core_rows.seen_if c.args.branch.number c.args.branch.test c.args.branch.taken after.out))

pub elaborate_while-returns : goal.elaborate_while-returns
elaborate_while-returns t c = λ around at.
    let after = c.elaborate_block.new in
    let q = rw c.new-inside.ensures.items at c.in_ok-elaborate_block.ensures in
    let r = seen_loop c.args.number c.in_ok-test.test.term after.out c.new.result ∙ ap (λ u. Loop c.args.number (term c.in_ok-test.test.term) (statements after.out.items) (statements u)) c.new.ensures.items in
    while-done around (scope_seen c.args.scope.now) c.args.number at (expression c.args.test.now) (stmts c.args.body.now) (typed_term c.in_ok-test.test) (all_seen after.out.items after.scope) c.in_ok-test.ensures q
    ∙ ap (λ s. Ok (elaborated (single s) (scope_seen after.scope))) (sym r)

pub elaborate_repeated-returns : goal.elaborate_repeated-returns
elaborate_repeated-returns t c =
    let after = c.elaborate_block.new in
    let u = c.in_ok-test in
    let q = rw c.new-inside.ensures.items at c.in_ok-elaborate_block.ensures in
    let x = Loop c.args.number (term u.test) (statements after.out.items) (single (statement u.update)) in
    rw (repeated-done (scope_seen c.args.scope.now) c.args.number (expression c.args.test.now) (assignment c.args.update.now) (stmts c.args.body.now) (term u.test, statement u.update) (all_seen after.out.items after.scope) u.ensures q)
    (gives-alone c.loop_with.result (Ok x) (scope_seen after.scope) c.loop_with.ensures)

pub elaborate_for-elaborate_repeated-requires : goal.elaborate_for-elaborate_repeated-requires
elaborate_for-elaborate_repeated-requires t c =
    let g = first-grown (scope_seen c.args.scope.now) (first_of c.args.header.first.now) (one_seen c.elaborate_first.new.scope c.in_ok-elaborate_first.field-0) c.in_ok-elaborate_first.ensures in
    omega (arith, c.requires, g)

pub elaborate_statement-elaborate_block-requires : goal.elaborate_statement-elaborate_block-requires
elaborate_statement-elaborate_block-requires t c =
    let e = ap (λ s. declared_in (stmt s)) c.in-If.is ∙ if-declares c.in-If.number c.in-If.site c.in-If.test c.in-If.taken c.in-If.skipped in
    let d = ap size-Stmt c.in-If.is ∙ sized-If c.in-If.number c.in-If.site c.in-If.test c.in-If.taken c.in-If.skipped in
    rw c.deref.ensures.value (omega (arith, d, c.decreases), omega (arith, c.requires, e))

pub elaborate_statement-elaborate_else-requires : goal.elaborate_statement-elaborate_else-requires
elaborate_statement-elaborate_else-requires t c =
    let e = ap (λ s. declared_in (stmt s)) c.in-If.is ∙ if-declares c.in-If.number c.in-If.site c.in-If.test c.in-If.taken c.in-If.skipped in
    let d = ap size-Stmt c.in-If.is ∙ sized-If c.in-If.number c.in-If.site c.in-If.test c.in-If.taken c.in-If.skipped in
    let q = rw (c.new-inside.ensures.items, c.deref.ensures.value) at c.in_ok-elaborate_block-in-If.ensures in
    let after = c.elaborate_block.new in
    let g = block-grown (around_of c.args.around) (scope_seen c.args.scope.now) (stmts c.in-If.taken.items) none (all_seen after.out.items after.scope) q in
    rw c.deref-in-If.ensures.value (omega (arith, d, c.decreases), omega (arith, c.requires, e, g))

pub elaborate_statement-elaborate_while-requires : goal.elaborate_statement-elaborate_while-requires
elaborate_statement-elaborate_while-requires t c =
    let e = ap (λ s. declared_in (stmt s)) c.in-While.is ∙ while-declares c.in-While.number c.in-While.site c.in-While.test c.in-While.body in
    let d = ap size-Stmt c.in-While.is ∙ sized-While c.in-While.number c.in-While.site c.in-While.test c.in-While.body in
    rw c.deref-in-While.ensures.value (omega (arith, d, c.decreases), omega (arith, c.requires, e))

pub elaborate_statement-elaborate_for-requires : goal.elaborate_statement-elaborate_for-requires
elaborate_statement-elaborate_for-requires t c =
    let e = ap (λ s. declared_in (stmt s)) c.in-For.is ∙ for-declares c.in-For.number c.in-For.site c.in-For.first c.in-For.test c.in-For.update c.in-For.body in
    let d = ap size-Stmt c.in-For.is ∙ sized-For c.in-For.number c.in-For.site c.in-For.first c.in-For.test c.in-For.update c.in-For.body in
    rw c.deref-in-For.ensures.value (omega (arith, d, c.decreases), omega (arith, c.requires, e))

pub elaborate_statement-elaborate_block-requires-in-Block : goal.elaborate_statement-elaborate_block-requires-in-Block
elaborate_statement-elaborate_block-requires-in-Block t c =
    let e = ap (λ s. declared_in (stmt s)) c.in-Block.is ∙ block-declares c.in-Block.number c.in-Block.site c.in-Block.body in
    let d = ap size-Stmt c.in-Block.is ∙ sized-Block c.in-Block.number c.in-Block.site c.in-Block.body in
    rw c.deref-in-Block.ensures.value (omega (arith, d, c.decreases), omega (arith, c.requires, e))
