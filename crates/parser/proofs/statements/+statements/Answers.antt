use Rattle.std.proofs.Common.{◌≡◌, ℕ, ◌+◌, ◌-◌, [], ◌∷◌, ◌++◌, true, false, ap, sym, ◌∙◌, rules, arith}
use Rattle.texts.specs.Surface as surface
use Rattle.syntax.specs.View.{expression, first, assignment, statements}
use Rattle.core_code.specs.View.{site}
use Rattle.syntax.proofs.Rows.{seen_if, seen_while, seen_for, seen_block}
use Rattle.parser.specs.Reader.{Reader, front, run, Took, carry}
use Rattle.parser.specs.View.{lexemes}
use Rattle.parser.specs.Heads.{choice_reader, counting_reader}
use Rattle.parser.specs.Statements.{is_right_brace, items, item_reader, block_reader, body_reader, statement_by}
use Rattle.parser.proofs.Lists.{append_statements, before, first-item, no-item, last-item, more-items, snoc-items}
use Rattle.parser.proofs.Steps.{stops-carry, bracket-less}
use Rattle.parser.proofs.StatementSteps.{block-is}
use Rattle.parser.proofs.statements.+statements.Goals as goal

pub counting-returns : goal.counting-returns
counting-returns t c =
    let head = c.in_ok-head.head in
    let body = c.in_ok-body in
    let read : run (counting_reader (body_reader c.args.depth) c.args.room c.args.depth c.args.number (site c.args.site)) (lexemes c.args.tokens.now) ≡ Took (surface.For c.args.number (site c.args.site) (first head.first) (expression head.test) (assignment head.update) (statements body.body.items), body.next) (lexemes body.rest.now) = search rules in
    read ∙ ap (λ s. Took (s, body.next) (lexemes body.rest.now)) (sym (seen_for c.args.number c.args.site head.first head.test head.update body.body))

pub below-returns-in_ok-body-in-Reserved-While : goal.below-returns-in_ok-body-in-Reserved-While
below-returns-in_ok-body-in-Reserved-While t c =
    let ts = lexemes c.args.tokens.now in
    let test = c.in_ok-test-in-Reserved-While.test in
    let body = c.in_ok-body-in-Reserved-While in
    let read : run (statement_by (body_reader c.args.depth) (block_reader c.args.depth) c.args.room c.args.depth c.args.number (front ts).site (front ts).kind) ts ≡ Took (surface.While c.args.number (site c.site_at-site.result) (expression test) (statements body.body.items), body.next) (lexemes body.rest.now) = search rules in
    read ∙ ap (λ s. Took (s, body.next) (lexemes body.rest.now)) (sym (seen_while c.args.number c.site_at-site.result test body.body))

pub below-returns-in_ok-body-in-Sign-LeftBrace : goal.below-returns-in_ok-body-in-Sign-LeftBrace
below-returns-in_ok-body-in-Sign-LeftBrace t c =
    let ts = lexemes c.args.tokens.now in
    let body = c.in_ok-body-in-Sign-LeftBrace in
    let read : run (statement_by (body_reader c.args.depth) (block_reader c.args.depth) c.args.room c.args.depth c.args.number (front ts).site (front ts).kind) ts ≡ Took (surface.Block c.args.number (site c.site_at-site.result) (statements body.body.items), body.next) (lexemes body.rest.now) = search (rules, bracket-less) in
    read ∙ ap (λ s. Took (s, body.next) (lexemes body.rest.now)) (sym (seen_block c.args.number c.site_at-site.result body.body))

pub choice-returns : goal.choice-returns
choice-returns t c =
    let test = c.in_ok-test.test in
    let taken = c.in_ok-taken.taken in
    let skipped = c.in_ok-skipped in
    let read : run (choice_reader (body_reader c.args.depth) c.args.room c.args.depth c.args.number (site c.args.site)) (lexemes c.args.tokens.now) ≡ Took (surface.If c.args.number (site c.args.site) (expression test) (statements taken.items) (statements skipped.skipped.items), skipped.next) (lexemes skipped.rest.now) = search rules in
    read ∙ ap (λ s. Took (s, skipped.next) (lexemes skipped.rest.now)) (sym (seen_if c.args.number c.args.site test taken skipped.skipped))

pub block-returns : goal.block-returns
block-returns t c =
    block-is c.args.depth c.args.room c.args.number (lexemes c.args.tokens.now) ∙ c.loop-count.invariant
    ∙ no-item (λ n. item_reader c.args.depth c.args.room n) c.loop-count.list.items c.loop-count._count c.loop-count.next (lexemes c.loop-count.rest.now) c.loop-count-test.false

pub block-returns-then-is_right_brace : goal.block-returns-then-is_right_brace
block-returns-then-is_right_brace t c =
    let ts = lexemes c.args.tokens.now in
    let item : ℕ → Reader (surface.Statement × ℕ) = λ n. item_reader c.args.depth c.args.room n in
    let h : is_right_brace (front ts).kind ≡ true = search rules in
    rw (block-is c.args.depth c.args.room c.args.number ts ∙ first-item item c.args.number ts ∙ last-item item [] 0 c.args.number ts (omega arith) h) (search rules)

pub block-returns-in_err-first : goal.block-returns-in_err-first
block-returns-in_err-first t c =
    let ts = lexemes c.args.tokens.now in
    let item : ℕ → Reader (surface.Statement × ℕ) = λ n. item_reader c.args.depth c.args.room n in
    let h : is_right_brace (front ts).kind ≡ false = search rules in
    rw (block-is c.args.depth c.args.room c.args.number ts ∙ first-item item c.args.number ts ∙ more-items item [] 0 c.args.number ts (omega arith) h) (search (rules, stops-carry))

pub block-loop-count-init : goal.block-loop-count-init
block-loop-count-init t c =
    let ts = lexemes c.args.tokens.now in
    let item : ℕ → Reader (surface.Statement × ℕ) = λ n. item_reader c.args.depth c.args.room n in
    let h : is_right_brace (front ts).kind ≡ false = search rules in
    let all : c.push.new.self.items ≡ c.in_ok-first.first ∷ [] = search rules in
    first-item item c.args.number ts ∙ more-items item [] 0 c.args.number ts (omega arith) h
    ∙ ap (λ o. carry o (λ s rest. before (append_statements surface.none (surface.one s.0 surface.none)) (run (items item 512 s.1) rest))) c.in_ok-first.ensures
    ∙ ap (λ l. before (statements l) (run (items item 512 c.in_ok-first.next) (lexemes c.in_ok-first.rest.now))) (sym all)

pub block-loop-count-preserved : goal.block-loop-count-preserved
block-loop-count-preserved t c =
    let ts = lexemes c.loop-count.rest.now in
    let item : ℕ → Reader (surface.Statement × ℕ) = λ n. item_reader c.args.depth c.args.room n in
    let k = 513 - (c.loop-count._count + 1) in
    let h : is_right_brace (front ts).kind ≡ false = search rules in
    let all : c.push-in-loop-count.new.self.items ≡ c.loop-count.list.items ++ c.in_ok-another.another ∷ [] = search rules in
    c.loop-count.invariant ∙ more-items item c.loop-count.list.items c.loop-count._count c.loop-count.next ts c.loop-count-test.true h
    ∙ ap (λ o. carry o (λ s rest. before (append_statements (statements c.loop-count.list.items) (surface.one s.0 surface.none)) (run (items item k s.1) rest))) c.in_ok-another.ensures
    ∙ ap (λ ss. before ss (run (items item k c.in_ok-another.after) (lexemes c.in_ok-another.others.now))) (snoc-items c.loop-count.list.items c.in_ok-another.another)
    ∙ ap (λ l. before (statements l) (run (items item k c.in_ok-another.after) (lexemes c.in_ok-another.others.now))) (sym all)

pub block-returns-then-is_right_brace-2 : goal.block-returns-then-is_right_brace-2
block-returns-then-is_right_brace-2 t c =
    let ts = lexemes c.loop-count.rest.now in
    let h : is_right_brace (front ts).kind ≡ true = search rules in
    rw (block-is c.args.depth c.args.room c.args.number (lexemes c.args.tokens.now) ∙ c.loop-count.invariant
    ∙ last-item (λ n. item_reader c.args.depth c.args.room n) c.loop-count.list.items c.loop-count._count c.loop-count.next ts c.loop-count-test.true h) (search rules)

pub block-returns-in_err-another : goal.block-returns-in_err-another
block-returns-in_err-another t c =
    let ts = lexemes c.loop-count.rest.now in
    let h : is_right_brace (front ts).kind ≡ false = search rules in
    rw (block-is c.args.depth c.args.room c.args.number (lexemes c.args.tokens.now) ∙ c.loop-count.invariant
    ∙ more-items (λ n. item_reader c.args.depth c.args.room n) c.loop-count.list.items c.loop-count._count c.loop-count.next ts c.loop-count-test.true h) (search (rules, stops-carry))
