use Rattle.std.proofs.Common.{◌≡◌, ◌+◌, ◌-◌, [], ◌∷◌, ◌++◌, true, false, ap, sym, ◌∙◌, rules}
use Rattle.std.specs.Prelude.{map}
use Rattle.std.proofs.lemmas.List.{map-append}
use Rattle.syntax.specs.View.{parameter}
use Rattle.parser.specs.Reader.{front, run, carry}
use Rattle.parser.specs.View.{lexemes}
use Rattle.parser.specs.Expressions.{is_comma, is_right_parenthesis}
use Rattle.parser.specs.Kernels.{parameter_reader, more_parameters}
use Rattle.parser.proofs.ParameterLists.{in_list, some-given, another, closes, too-many}
use Rattle.parser.proofs.Steps.{stops-carry}
use Rattle.parser.proofs.kernels.parameters.Goals as goal

pub returns : goal.returns
returns c = c.loop-count.invariant ∙ too-many (map parameter c.loop-count.list.items) c.loop-count._count (lexemes c.loop-count.rest.now) c.loop-count-test.false

pub loop-count-init : goal.loop-count-init
loop-count-init c =
    let ts = lexemes c.args.tokens.now in
    let h : is_right_parenthesis (front ts).kind ≡ false = search rules in
    let all : c.push.new.self.items ≡ c.in_ok-first.first ∷ [] = search rules in
    some-given ts h ∙ ap (λ o. carry o (λ p rest. in_list (p ∷ []) (run (more_parameters 80) rest))) c.in_ok-first.ensures
    ∙ ap (λ l. in_list (map parameter l) (run (more_parameters 80) (lexemes c.in_ok-first.rest.now))) (sym all)

pub loop-count-preserved : goal.loop-count-preserved
loop-count-preserved c =
    let ts = lexemes c.loop-count.rest.now in
    let list = map parameter c.loop-count.list.items in
    let k = 80 - (c.loop-count._count + 1) in
    let h : is_comma (front ts).kind ≡ true = search rules in
    let all : c.push-in-loop-count.new.self.items ≡ c.loop-count.list.items ++ c.in_ok-next.next ∷ [] = search rules in
    c.loop-count.invariant ∙ another list c.loop-count._count ts c.loop-count-test.true h
    ∙ ap (λ ts. carry (run parameter_reader ts) (λ p rest. in_list (list ++ p ∷ []) (run (more_parameters k) rest))) (sym c.behind-in-loop-count.ensures)
    ∙ ap (λ o. carry o (λ p rest. in_list (list ++ p ∷ []) (run (more_parameters k) rest))) c.in_ok-next.ensures
    ∙ ap (λ l. in_list l (run (more_parameters k) (lexemes c.in_ok-next.after.now))) (sym (map-append parameter c.loop-count.list.items (c.in_ok-next.next ∷ [])))
    ∙ ap (λ l. in_list (map parameter l) (run (more_parameters k) (lexemes c.in_ok-next.after.now))) (sym all)

pub returns-in_err-rest : goal.returns-in_err-rest
returns-in_err-rest c =
    let ts = lexemes c.loop-count.rest.now in
    let h : is_comma (front ts).kind ≡ false = search rules in
    rw (c.loop-count.invariant ∙ closes (map parameter c.loop-count.list.items) c.loop-count._count ts c.loop-count-test.true h) (search (rules, stops-carry))

pub returns-then-not-is_comma : goal.returns-then-not-is_comma
returns-then-not-is_comma c =
    let ts = lexemes c.loop-count.rest.now in
    let h : is_comma (front ts).kind ≡ false = search rules in
    rw (c.loop-count.invariant ∙ closes (map parameter c.loop-count.list.items) c.loop-count._count ts c.loop-count-test.true h) (search rules)

pub returns-in_err-next : goal.returns-in_err-next
returns-in_err-next c =
    let ts = lexemes c.loop-count.rest.now in
    let h : is_comma (front ts).kind ≡ true = search rules in
    rw (c.loop-count.invariant ∙ another (map parameter c.loop-count.list.items) c.loop-count._count ts c.loop-count-test.true h) (search (rules, stops-carry))
