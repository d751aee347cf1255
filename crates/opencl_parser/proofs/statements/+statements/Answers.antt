use Rattle.std.proofs.Common.{◌≡◌, ℕ, List, ◌+◌, ◌-◌, [], ◌∷◌, ◌++◌, true, false, ap, sym, ◌∙◌, rules, arith}
use Rattle.core_code.specs.View.{site}
use Rattle.opencl_tree.specs.Tree as tree
use Rattle.opencl_tree.specs.View.{expression, first, maybe, statement, statements}
use Rattle.opencl_tree.proofs.Rows.{seen_if, seen_while, seen_do, seen_for, seen_switch, seen_block}
use Rattle.opencl_parser.specs.Reader.{Reader, front, run, Took, carry}
use Rattle.opencl_parser.specs.TypeNames.{Known}
use Rattle.opencl_parser.specs.View.{lexemes, all_known}
use Rattle.opencl_parser.specs.DeclarationsView.{maybe_known}
use Rattle.opencl_parser.specs.StatementsView.{item as item_seen}
use Rattle.opencl_parser.specs.Declarations.{is_right_brace}
use Rattle.opencl_parser.specs.Statements.{Item, items, extended, with_last, item_reader, block_reader, body_reader, braces, choice, repeated, selected, done, counting}
use Rattle.opencl_parser.proofs.Steps.{stops-carry}
use Rattle.opencl_parser.proofs.BlockSteps.{block-is, items-none, last-item, next-item, statements-snoc}
use Rattle.opencl_parser.proofs.statements.+statements.Goals as goal

pub braces-returns : goal.braces-returns
braces-returns t c =
    let body = c.in_ok-body in
    let n = c.args.place.number in
    let at = site c.args.place.site in
    let read : run (braces (block_reader (all_known c.args.types.now) c.args.depth) n at) (lexemes c.args.tokens.now) ≡ Took (tree.Block n at (statements body.body.items), body.next) (lexemes body.rest.now) = search rules in
    read ∙ ap (λ s. Took (s, body.next) (lexemes body.rest.now)) (sym (seen_block n c.args.place.site body.body))

pub choice-returns : goal.choice-returns
choice-returns t c =
    let ks = all_known c.args.types.now in
    let n = c.args.place.number in
    let at = site c.args.place.site in
    let test = c.in_ok-test.test in
    let taken = c.in_ok-taken.taken in
    let skipped = c.in_ok-skipped in
    let read : run (choice (body_reader ks c.args.depth) ks c.args.depth n at) (lexemes c.args.tokens.now) ≡ Took (tree.If n at (expression test) (statements taken.items) (statements skipped.skipped.items), skipped.next) (lexemes skipped.rest.now) = search rules in
    read ∙ ap (λ s. Took (s, skipped.next) (lexemes skipped.rest.now)) (sym (seen_if n c.args.place.site test taken skipped.skipped))

pub repeated-returns : goal.repeated-returns
repeated-returns t c =
    let ks = all_known c.args.types.now in
    let n = c.args.place.number in
    let at = site c.args.place.site in
    let test = c.in_ok-test.test in
    let body = c.in_ok-body in
    let read : run (repeated (body_reader ks c.args.depth) ks c.args.depth n at) (lexemes c.args.tokens.now) ≡ Took (tree.While n at (expression test) (statements body.body.items), body.next) (lexemes body.rest.now) = search rules in
    read ∙ ap (λ s. Took (s, body.next) (lexemes body.rest.now)) (sym (seen_while n c.args.place.site test body.body))

pub selected-returns : goal.selected-returns
selected-returns t c =
    let ks = all_known c.args.types.now in
    let n = c.args.place.number in
    let at = site c.args.place.site in
    let test = c.in_ok-test.test in
    let body = c.in_ok-body in
    let read : run (selected (body_reader ks c.args.depth) ks c.args.depth n at) (lexemes c.args.tokens.now) ≡ Took (tree.Switch n at (expression test) (statements body.body.items), body.next) (lexemes body.rest.now) = search rules in
    read ∙ ap (λ s. Took (s, body.next) (lexemes body.rest.now)) (sym (seen_switch n c.args.place.site test body.body))

pub done-returns : goal.done-returns
done-returns t c =
    let ks = all_known c.args.types.now in
    let n = c.args.place.number in
    let at = site c.args.place.site in
    let body = c.in_ok-body in
    let test = c.in_ok-test in
    let read : run (done (body_reader ks c.args.depth) ks c.args.depth n at) (lexemes c.args.tokens.now) ≡ Took (tree.Do n at (statements body.body.items) (expression test.test), body.next) (lexemes test.rest.now) = search rules in
    read ∙ ap (λ s. Took (s, body.next) (lexemes test.rest.now)) (sym (seen_do n c.args.place.site body.body test.test))

pub counting-returns : goal.counting-returns
counting-returns t c =
    let ks = all_known c.args.types.now in
    let n = c.args.place.number in
    let at = site c.args.place.site in
    let head = c.in_ok-head.head in
    let body = c.in_ok-body in
    let read : run (counting (body_reader ks c.args.depth) ks c.args.depth n at) (lexemes c.args.tokens.now) ≡ Took (tree.For n at (first head.first) (maybe head.test) (maybe head.update) (statements body.body.items), body.next) (lexemes body.rest.now) = search rules in
    read ∙ ap (λ s. Took (s, body.next) (lexemes body.rest.now)) (sym (seen_for n c.args.place.site head.first head.test head.update body.body))

pub block-returns : goal.block-returns
block-returns t c =
    let item : List Known → ℕ → Reader Item = λ ks n. item_reader ks c.args.depth n in
    rw (c.loop-count.invariant ∙ items-none item (4097 - c.loop-count._count) (all_known c.loop-count.own.items) c.loop-count.next (statements c.loop-count.list.items) (lexemes c.loop-count.rest.now) (omega (arith, c.loop-count-test.false))) (search rules)

pub block-returns-then-is_right_brace : goal.block-returns-then-is_right_brace
block-returns-then-is_right_brace t c =
    let item : List Known → ℕ → Reader Item = λ ks n. item_reader ks c.args.depth n in
    let ks = all_known c.args.types.now in
    let ts = lexemes c.args.tokens.now in
    let brace : is_right_brace (front ts).kind ≡ true = search rules in
    rw (block-is ks c.args.depth c.args.number ts ∙ last-item item 4097 4096 ks c.args.number tree.none ts (omega arith) brace) (search rules)

pub block-returns-in_err-first : goal.block-returns-in_err-first
block-returns-in_err-first t c =
    let item : List Known → ℕ → Reader Item = λ ks n. item_reader ks c.args.depth n in
    let ks = all_known c.args.types.now in
    let ts = lexemes c.args.tokens.now in
    let brace : is_right_brace (front ts).kind ≡ false = search rules in
    rw (block-is ks c.args.depth c.args.number ts ∙ next-item item 4097 4096 ks c.args.number tree.none ts (omega arith) brace) (search (rules, stops-carry))

pub block-loop-count-init : goal.block-loop-count-init
block-loop-count-init t c =
    let item : List Known → ℕ → Reader Item = λ ks n. item_reader ks c.args.depth n in
    let ks = all_known c.args.types.now in
    let ts = lexemes c.args.tokens.now in
    let read = c.in_ok-first.first in
    let rest = lexemes c.in_ok-first.rest.now in
    let brace : is_right_brace (front ts).kind ≡ false = search rules in
    let all : c.push.new.self.items ≡ read.statement ∷ [] = search rules in
    let took : run (item_reader ks c.args.depth c.args.number) ts ≡ Took (item_seen read) rest = search rules in
    let grown : all_known c.extend.new.own.items ≡ extended ks (maybe_known read.made) = search rules in
    block-is ks c.args.depth c.args.number ts
    ∙ next-item item 4097 4096 ks c.args.number tree.none ts (omega arith) brace
    ∙ ap (λ o. carry o (λ s rest. run (items item 4096 (extended ks s.made) s.next (with_last tree.none s.statement)) rest)) took
    ∙ ap (λ known. run (items item 4096 known read.next (tree.one (statement read.statement) tree.none)) rest) (sym grown)
    ∙ ap (λ l. run (items item 4096 (all_known c.extend.new.own.items) read.next (statements l)) rest) (sym all)

pub block-loop-count-preserved : goal.block-loop-count-preserved
block-loop-count-preserved t c =
    let item : List Known → ℕ → Reader Item = λ ks n. item_reader ks c.args.depth n in
    let count = c.loop-count._count in
    let less = 4097 - (count + 1) in
    let ks = all_known c.loop-count.own.items in
    let so = statements c.loop-count.list.items in
    let ts = lexemes c.loop-count.rest.now in
    let read = c.in_ok-read.read in
    let rest = lexemes c.in_ok-read.after.now in
    let brace : is_right_brace (front ts).kind ≡ false = search rules in
    let all : c.push-in-loop-count.new.self.items ≡ c.loop-count.list.items ++ read.statement ∷ [] = search rules in
    let took : run (item_reader ks c.args.depth c.loop-count.next) ts ≡ Took (item_seen read) rest = search rules in
    let grown : all_known c.extend-in-loop-count.new.own.items ≡ extended ks (maybe_known read.made) = search rules in
    c.loop-count.invariant
    ∙ next-item item (4097 - count) less ks c.loop-count.next so ts (omega (arith, c.loop-count-test.true)) brace
    ∙ ap (λ o. carry o (λ s rest. run (items item less (extended ks s.made) s.next (with_last so s.statement)) rest)) took
    ∙ ap (λ known. run (items item less known read.next (with_last so (statement read.statement))) rest) (sym grown)
    ∙ ap (λ ss. run (items item less (all_known c.extend-in-loop-count.new.own.items) read.next ss) rest) (sym (statements-snoc c.loop-count.list.items read.statement))
    ∙ ap (λ l. run (items item less (all_known c.extend-in-loop-count.new.own.items) read.next (statements l)) rest) (sym all)

pub block-returns-then-is_right_brace-2 : goal.block-returns-then-is_right_brace-2
block-returns-then-is_right_brace-2 t c =
    let item : List Known → ℕ → Reader Item = λ ks n. item_reader ks c.args.depth n in
    let count = c.loop-count._count in
    let ts = lexemes c.loop-count.rest.now in
    let brace : is_right_brace (front ts).kind ≡ true = search rules in
    rw (c.loop-count.invariant ∙ last-item item (4097 - count) (4097 - (count + 1)) (all_known c.loop-count.own.items) c.loop-count.next (statements c.loop-count.list.items) ts (omega (arith, c.loop-count-test.true)) brace) (search rules)

pub block-returns-in_err-read : goal.block-returns-in_err-read
block-returns-in_err-read t c =
    let item : List Known → ℕ → Reader Item = λ ks n. item_reader ks c.args.depth n in
    let count = c.loop-count._count in
    let ts = lexemes c.loop-count.rest.now in
    let brace : is_right_brace (front ts).kind ≡ false = search rules in
    rw (c.loop-count.invariant ∙ next-item item (4097 - count) (4097 - (count + 1)) (all_known c.loop-count.own.items) c.loop-count.next (statements c.loop-count.list.items) ts (omega (arith, c.loop-count-test.true)) brace) (search (rules, stops-carry))
