use Rattle.std.proofs.Common.{◌≡◌, ◌+◌, ◌-◌, [], ◌∷◌, ◌++◌, true, false, cond, ap, sym, ◌∙◌, rules, arith}
use Rattle.opencl_tree.specs.Tree.{Listed, Given}
use Rattle.opencl_tree.specs.View.{initials}
use Rattle.opencl_tree.proofs.Rows.{seen_listed}
use Rattle.opencl_parser.specs.Reader.{front, behind, run, Took, carry, Gives, Passes, Then}
use Rattle.opencl_parser.specs.Signs.{is_comma}
use Rattle.opencl_parser.specs.View.{lexemes, all_known}
use Rattle.opencl_parser.specs.Expressions.{level}
use Rattle.opencl_parser.specs.Declarations.{is_left_brace, is_right_brace, initial_value, values, more_values, with_last_value}
use Rattle.opencl_parser.proofs.Steps.{stops-carry}
use Rattle.opencl_parser.proofs.DeclarationSteps.{initial_value-less, values-none, value-closes, value-last, value-next, initials-snoc}
use Rattle.opencl_parser.proofs.declarations.+initials.Goals as goal

pub initial_value-returns-in_ok-values : goal.initial_value-returns-in_ok-values
initial_value-returns-in_ok-values t c =
    let ks = all_known c.args.types.now in
    let d = c.args.depth in
    let ts = lexemes c.args.tokens.now in
    let list = c.in_ok-values.values in
    let rest = lexemes c.in_ok-values.rest.now in
    let brace : is_left_brace (front ts).kind ≡ true = search rules in
    let taken : run (values (initial_value ks (d - 1))) (behind ts) ≡ Took (initials list.items) rest = search rules in
    initial_value-less ks d ts c.if-depth-eq0.false
    ∙ ap (λ b. run (cond b (Passes (Then (values (initial_value ks (d - 1))) (λ is. Gives (Listed (front ts).site is)))) (Then (level ks (d - 1) 12) (λ e. Gives (Given e)))) ts) brace
    ∙ ap (λ o. carry o (λ is rest. Took (Listed (front ts).site is) rest)) taken
    ∙ ap (λ s. Took (Listed s (initials list.items)) rest) (sym c.site_at-site.ensures)
    ∙ ap (λ i. Took i rest) (sym (seen_listed c.site_at-site.result list))

pub values-returns : goal.values-returns
values-returns t c =
    let value = initial_value (all_known c.args.types.now) c.args.depth in
    let count = c.loop-count._count in
    rw (c.loop-count.invariant ∙ values-none value (65536 - count) (initials c.loop-count.list.items) (lexemes c.loop-count.rest.now) (omega (arith, c.loop-count-test.false))) (search rules)

pub values-loop-count-preserved : goal.values-loop-count-preserved
values-loop-count-preserved t c =
    let value = initial_value (all_known c.args.types.now) c.args.depth in
    let count = c.loop-count._count in
    let so = initials c.loop-count.list.items in
    let ts = lexemes c.loop-count.rest.now in
    let less = 65536 - (count + 1) in
    let comma : is_comma (front ts).kind ≡ true = search rules in
    let brace : is_right_brace (front (behind ts)).kind ≡ false = search rules in
    let items : c.push-in-loop-count.new.self.items ≡ c.loop-count.list.items ++ c.in_ok-next.next ∷ [] = search rules in
    c.loop-count.invariant
    ∙ value-next value (65536 - count) less so ts (omega (arith, c.loop-count-test.true)) comma brace
    ∙ ap (λ o. carry o (λ i rest. run (more_values value less (with_last_value so i)) rest)) (ap (run value) (sym c.behind-further.ensures) ∙ c.in_ok-next.ensures)
    ∙ ap (λ is. run (more_values value less is) (lexemes c.in_ok-next.after.now)) (sym (initials-snoc c.loop-count.list.items c.in_ok-next.next))
    ∙ ap (λ l. run (more_values value less (initials l)) (lexemes c.in_ok-next.after.now)) (sym items)

pub values-returns-in_err-next : goal.values-returns-in_err-next
values-returns-in_err-next t c =
    let value = initial_value (all_known c.args.types.now) c.args.depth in
    let count = c.loop-count._count in
    let ts = lexemes c.loop-count.rest.now in
    let comma : is_comma (front ts).kind ≡ true = search rules in
    let brace : is_right_brace (front (behind ts)).kind ≡ false = search rules in
    rw (c.loop-count.invariant ∙ value-next value (65536 - count) (65536 - (count + 1)) (initials c.loop-count.list.items) ts (omega (arith, c.loop-count-test.true)) comma brace) (search (rules, stops-carry))

pub values-returns-then-is_right_brace : goal.values-returns-then-is_right_brace
values-returns-then-is_right_brace t c =
    let value = initial_value (all_known c.args.types.now) c.args.depth in
    let count = c.loop-count._count in
    let ts = lexemes c.loop-count.rest.now in
    let comma : is_comma (front ts).kind ≡ true = search rules in
    let brace : is_right_brace (front (behind ts)).kind ≡ true = search rules in
    rw (c.loop-count.invariant ∙ value-last value (65536 - count) (65536 - (count + 1)) (initials c.loop-count.list.items) ts (omega (arith, c.loop-count-test.true)) comma brace) (search rules)

pub values-returns-then-not-is_comma : goal.values-returns-then-not-is_comma
values-returns-then-not-is_comma t c =
    let value = initial_value (all_known c.args.types.now) c.args.depth in
    let count = c.loop-count._count in
    let ts = lexemes c.loop-count.rest.now in
    let comma : is_comma (front ts).kind ≡ false = search rules in
    rw (c.loop-count.invariant ∙ value-closes value (65536 - count) (65536 - (count + 1)) (initials c.loop-count.list.items) ts (omega (arith, c.loop-count-test.true)) comma) (search rules)

pub values-returns-in_err-rest : goal.values-returns-in_err-rest
values-returns-in_err-rest t c =
    let value = initial_value (all_known c.args.types.now) c.args.depth in
    let count = c.loop-count._count in
    let ts = lexemes c.loop-count.rest.now in
    let comma : is_comma (front ts).kind ≡ false = search rules in
    rw (c.loop-count.invariant ∙ value-closes value (65536 - count) (65536 - (count + 1)) (initials c.loop-count.list.items) ts (omega (arith, c.loop-count-test.true)) comma) (search (rules, stops-carry))
