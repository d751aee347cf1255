use Rattle.std.proofs.Common.{◌≡◌, suc, ◌+◌, ◌-◌, [], ◌∷◌, ◌++◌, true, false, Some, ap, sym, ◌∙◌, rules}
use Rattle.std.specs.Prelude.{string_bytes}
use Rattle.std.specs.Option.{option_map}
use Rattle.texts.specs.Surface.{Infix}
use Rattle.syntax.specs.View.{expression, expressions, infix_sign}
use Rattle.core_code.specs.View.{site}
use Rattle.syntax.proofs.Rows.{seen_call}
use Rattle.parser.specs.Reader.{front, behind, run, Took, carry}
use Rattle.parser.specs.View.{lexemes}
use Rattle.parser.specs.Expressions.{is_comma, is_right_parenthesis, expects, infix_at, ranked, chain, operand_reader, expression_reader, more_arguments}
use Rattle.parser.proofs.Lists.{in_front, begin, next-one, closes, too-many, another}
use Rattle.parser.proofs.Steps.{stops-carry, chain-goes, longer-none, longer-more, name-call, parentheses-inner}
use Rattle.parser.proofs.expressions.+expressions.Goals as goal

pub chain-returns-then-left-eq0 : goal.chain-returns-then-left-eq0
chain-returns-then-left-eq0 t c =
    let ts = lexemes c.args.tokens.now in
    let operand = ranked (operand_reader c.args.room (suc c.args.depth)) (suc c.args.depth) c.args.series.below in
    let goes : infix_at (c.args.series.below + 1) (front ts).kind ≡ Some (infix_sign c.in-Some.sign) = ap (infix_at (c.args.series.below + 1)) (sym c.kind_at.ensures) ∙ sym c.infix_at.ensures ∙ ap (option_map infix_sign) c.in-Some.is in
    chain-goes operand (c.args.series.below + 1) c.args.series.left (expression c.args.series.first) ts (infix_sign c.in-Some.sign) goes
    ∙ longer-none operand (c.args.series.below + 1) c.args.series.left (expression c.args.series.first) (front ts).site (infix_sign c.in-Some.sign) ts c.if-left-eq0.true

pub chain-returns : goal.chain-returns
chain-returns t c =
    let ts = lexemes c.args.tokens.now in
    let operand = ranked (operand_reader c.args.room (suc c.args.depth)) (suc c.args.depth) c.args.series.below in
    let goes : infix_at (c.args.series.below + 1) (front ts).kind ≡ Some (infix_sign c.in-Some.sign) = ap (infix_at (c.args.series.below + 1)) (sym c.kind_at.ensures) ∙ sym c.infix_at.ensures ∙ ap (option_map infix_sign) c.in-Some.is in
    let right : run operand (behind ts) ≡ Took (expression c.in_ok-right.right) (lexemes c.in_ok-right.rest.now) = ap (run operand) (sym c.behind.ensures) ∙ c.in_ok-right.ensures in
    rw (chain-goes operand (c.args.series.below + 1) c.args.series.left (expression c.args.series.first) ts (infix_sign c.in-Some.sign) goes
    ∙ longer-more operand (c.args.series.below + 1) c.args.series.left (expression c.args.series.first) (front ts).site (infix_sign c.in-Some.sign) ts c.if-left-eq0.false
    ∙ ap (λ o. carry o (λ r rest. run (chain operand (c.args.series.below + 1) (c.args.series.left - 1) (Infix (front ts).site (infix_sign c.in-Some.sign) (expression c.args.series.first) r)) rest)) right) (search rules)

pub chain-returns-in_err-right : goal.chain-returns-in_err-right
chain-returns-in_err-right t c =
    let ts = lexemes c.args.tokens.now in
    let operand = ranked (operand_reader c.args.room (suc c.args.depth)) (suc c.args.depth) c.args.series.below in
    let goes : infix_at (c.args.series.below + 1) (front ts).kind ≡ Some (infix_sign c.in-Some.sign) = ap (infix_at (c.args.series.below + 1)) (sym c.kind_at.ensures) ∙ sym c.infix_at.ensures ∙ ap (option_map infix_sign) c.in-Some.is in
    rw (chain-goes operand (c.args.series.below + 1) c.args.series.left (expression c.args.series.first) ts (infix_sign c.in-Some.sign) goes
    ∙ longer-more operand (c.args.series.below + 1) c.args.series.left (expression c.args.series.first) (front ts).site (infix_sign c.in-Some.sign) ts c.if-left-eq0.false) (search (rules, stops-carry))

pub after_name-returns-in_ok-arguments : goal.after_name-returns-in_ok-arguments
after_name-returns-in_ok-arguments t c =
    let ts = lexemes c.args.tokens.now in
    name-call c.args.room c.args.depth (string_bytes c.args.name) (site c.args.site) ts (lexemes c.in_ok-arguments.rest.now) (expressions c.in_ok-arguments.arguments.items) (search rules) (search rules) (search rules) (search rules)
    ∙ ap (λ e. Took e (lexemes c.in_ok-arguments.rest.now)) (sym (seen_call c.args.site c.args.name c.in_ok-arguments.arguments))

pub in_parentheses-returns-in_ok-tree-in-None : goal.in_parentheses-returns-in_ok-tree-in-None
in_parentheses-returns-in_ok-tree-in-None t c =
    let inner : run (expression_reader (c.args.room - 1) (suc c.args.depth)) (behind (lexemes c.args.tokens.now)) ≡ Took (expression c.in_ok-tree-in-None.tree) (lexemes c.in_ok-tree-in-None.rest.now) = search rules in
    rw (parentheses-inner (operand_reader c.args.room c.args.depth) c.args.room c.args.depth (site c.args.site) (lexemes c.args.tokens.now) (search rules) (search rules) (search rules)
    ∙ ap (λ o. carry o (λ e rest. carry (run (expects is_right_parenthesis) rest) (λ closing rest. Took e rest))) inner) (search rules)

pub arguments-returns : goal.arguments-returns
arguments-returns t c = rw (c.loop-count.invariant) (too-many (expression_reader c.args.room c.args.depth) c.loop-count.list.items c.loop-count._count (lexemes c.loop-count.rest.now) c.loop-count-test.false)

pub arguments-loop-count-init : goal.arguments-loop-count-init
arguments-loop-count-init t c =
    let h : is_right_parenthesis (front (lexemes c.args.tokens.now)).kind ≡ false = ap is_right_parenthesis (sym c.kind_at.ensures) ∙ sym c.is_right_parenthesis.ensures ∙ c.if-is_right_parenthesis.false in
    let items : c.push.new.self.items ≡ c.in_ok-first.first ∷ [] = search rules in
    begin (expression_reader c.args.room c.args.depth) (lexemes c.args.tokens.now) (lexemes c.in_ok-first.rest.now) c.in_ok-first.first h c.in_ok-first.ensures
    ∙ ap (λ l. in_front (expressions l) (run (more_arguments (expression_reader c.args.room c.args.depth) 65536) (lexemes c.in_ok-first.rest.now))) (sym items)

pub arguments-loop-count-preserved : goal.arguments-loop-count-preserved
arguments-loop-count-preserved t c =
    let ts = lexemes c.loop-count.rest.now in
    let h : is_comma (front ts).kind ≡ true = search rules in
    let items : c.push-in-loop-count.new.self.items ≡ c.loop-count.list.items ++ c.in_ok-next.next ∷ [] = search rules in
    c.loop-count.invariant
    ∙ next-one (expression_reader c.args.room c.args.depth) c.loop-count.list.items c.loop-count._count ts (lexemes c.in_ok-next.after.now) c.in_ok-next.next c.loop-count-test.true h (ap (run (expression_reader c.args.room c.args.depth)) (sym c.behind-in-loop-count.ensures) ∙ c.in_ok-next.ensures)
    ∙ ap (λ l. in_front (expressions l) (run (more_arguments (expression_reader c.args.room c.args.depth) (65536 - (c.loop-count._count + 1))) (lexemes c.in_ok-next.after.now))) (sym items)

pub arguments-returns-in_err-rest : goal.arguments-returns-in_err-rest
arguments-returns-in_err-rest t c =
    let ts = lexemes c.loop-count.rest.now in
    let h : is_comma (front ts).kind ≡ false = search rules in
    rw (c.loop-count.invariant ∙ closes (expression_reader c.args.room c.args.depth) c.loop-count.list.items c.loop-count._count ts c.loop-count-test.true h) (search (rules, stops-carry))

pub arguments-returns-then-not-is_comma : goal.arguments-returns-then-not-is_comma
arguments-returns-then-not-is_comma t c =
    let ts = lexemes c.loop-count.rest.now in
    let h : is_comma (front ts).kind ≡ false = search rules in
    rw (c.loop-count.invariant ∙ closes (expression_reader c.args.room c.args.depth) c.loop-count.list.items c.loop-count._count ts c.loop-count-test.true h) (search rules)

pub arguments-returns-in_err-next : goal.arguments-returns-in_err-next
arguments-returns-in_err-next t c =
    let ts = lexemes c.loop-count.rest.now in
    let h : is_comma (front ts).kind ≡ true = search rules in
    rw (c.loop-count.invariant ∙ another (expression_reader c.args.room c.args.depth) c.loop-count.list.items c.loop-count._count ts c.loop-count-test.true h) (search (rules, stops-carry))
