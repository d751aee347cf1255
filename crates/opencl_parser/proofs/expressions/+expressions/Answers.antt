use Rattle.std.proofs.Common.{◌≡◌, ◌+◌, ◌-◌, [], ◌∷◌, ◌++◌, true, false, ap, sym, ◌∙◌, rules, arith}
use Rattle.std.specs.Prelude.{string_bytes}
use Rattle.core_code.specs.View.{site}
use Rattle.opencl_tree.specs.Tree.{Call, Vector}
use Rattle.opencl_tree.specs.View.{expressions, type_name}
use Rattle.opencl_tree.proofs.Rows.{seen_call, seen_vector}
use Rattle.opencl_parser.specs.Reader.{front, run, carry}
use Rattle.opencl_parser.specs.Signs.{is_comma}
use Rattle.opencl_parser.specs.View.{lexemes, all_known}
use Rattle.opencl_parser.specs.Expressions.{suffixed, level, parts, more_arguments, with_last}
use Rattle.opencl_parser.proofs.Steps.{stops-carry}
use Rattle.opencl_parser.proofs.ExpressionSteps.{called-is, vector-is, arguments-none, another, closes, seen-snoc}
use Rattle.opencl_parser.proofs.expressions.+expressions.Goals as goal

pub called-returns : goal.called-returns
called-returns t c =
    let d = c.args.depth in
    let deeper = level (all_known c.args.types.now) d in
    let at = site c.args.site in
    let x = string_bytes c.args.name in
    let rest = lexemes c.in_ok-arguments.rest.now in
    rw (called-is deeper d at x (lexemes c.args.tokens.now)
    ∙ ap (λ o. carry o (λ es rest. run (suffixed deeper (d + 1) (Call at x es)) rest)) c.in_ok-arguments.ensures
    ∙ ap (λ e. run (suffixed deeper (d + 1) e) rest) (sym (seen_call c.args.site c.args.name c.in_ok-arguments.arguments))) c.suffixes.ensures

pub vector-returns : goal.vector-returns
vector-returns t c =
    let d = c.args.depth in
    let deeper = level (all_known c.args.types.now) d in
    let at = site c.args.site in
    let rest = lexemes c.in_ok-parts.rest.now in
    rw (vector-is deeper d at (type_name c.args.to) (lexemes c.args.tokens.now)
    ∙ ap (λ o. carry o (λ es rest. run (suffixed deeper (d + 1) (Vector at (type_name c.args.to) es)) rest)) c.in_ok-parts.ensures
    ∙ ap (λ e. run (suffixed deeper (d + 1) e) rest) (sym (seen_vector c.args.site c.args.to c.in_ok-parts.parts))) c.suffixes.ensures

pub parts-returns : goal.parts-returns
parts-returns t c =
    let argument = level (all_known c.args.types.now) c.args.depth 12 in
    let count = c.loop-count._count in
    rw (c.loop-count.invariant ∙ arguments-none argument (256 - count) (expressions c.loop-count.list.items) (lexemes c.loop-count.rest.now) (omega (arith, c.loop-count-test.false))) (search rules)

pub parts-loop-count-preserved : goal.parts-loop-count-preserved
parts-loop-count-preserved t c =
    let argument = level (all_known c.args.types.now) c.args.depth 12 in
    let count = c.loop-count._count in
    let so = expressions c.loop-count.list.items in
    let ts = lexemes c.loop-count.rest.now in
    let less = 256 - (count + 1) in
    let comma : is_comma (front ts).kind ≡ true = search rules in
    let items : c.push-in-loop-count.new.self.items ≡ c.loop-count.list.items ++ c.in_ok-next.next ∷ [] = search rules in
    c.loop-count.invariant
    ∙ another argument (256 - count) less so ts (omega (arith, c.loop-count-test.true)) comma
    ∙ ap (λ o. carry o (λ e rest. run (more_arguments argument less (with_last so e)) rest)) (ap (run argument) (sym c.behind.ensures) ∙ c.in_ok-next.ensures)
    ∙ ap (λ es. run (more_arguments argument less es) (lexemes c.in_ok-next.after.now)) (sym (seen-snoc c.loop-count.list.items c.in_ok-next.next))
    ∙ ap (λ l. run (more_arguments argument less (expressions l)) (lexemes c.in_ok-next.after.now)) (sym items)

pub parts-returns-in_err-next : goal.parts-returns-in_err-next
parts-returns-in_err-next t c =
    let argument = level (all_known c.args.types.now) c.args.depth 12 in
    let count = c.loop-count._count in
    let ts = lexemes c.loop-count.rest.now in
    let comma : is_comma (front ts).kind ≡ true = search rules in
    rw (c.loop-count.invariant ∙ another argument (256 - count) (256 - (count + 1)) (expressions c.loop-count.list.items) ts (omega (arith, c.loop-count-test.true)) comma) (search (rules, stops-carry))

pub parts-returns-then-not-is_comma : goal.parts-returns-then-not-is_comma
parts-returns-then-not-is_comma t c =
    let argument = level (all_known c.args.types.now) c.args.depth 12 in
    let count = c.loop-count._count in
    let ts = lexemes c.loop-count.rest.now in
    let comma : is_comma (front ts).kind ≡ false = search rules in
    rw (c.loop-count.invariant ∙ closes argument (256 - count) (256 - (count + 1)) (expressions c.loop-count.list.items) ts (omega (arith, c.loop-count-test.true)) comma) (search rules)

pub parts-returns-in_err-rest : goal.parts-returns-in_err-rest
parts-returns-in_err-rest t c =
    let argument = level (all_known c.args.types.now) c.args.depth 12 in
    let count = c.loop-count._count in
    let ts = lexemes c.loop-count.rest.now in
    let comma : is_comma (front ts).kind ≡ false = search rules in
    rw (c.loop-count.invariant ∙ closes argument (256 - count) (256 - (count + 1)) (expressions c.loop-count.list.items) ts (omega (arith, c.loop-count-test.true)) comma) (search (rules, stops-carry))
