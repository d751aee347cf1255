use Rattle.std.proofs.Common.{◌<◌, ◌≤◌, length, map, sym, ap, ◌∙◌, arith}
use Rattle.std.proofs.lemmas.List.{length-map}
use Rattle.words.specs.View.{kind}
use Rattle.facts.proofs.Unmade.{matched}
use Rattle.facts.specs.Symbols.{once, ArgumentOf}
use Rattle.arrival_claims.proofs.OnPaths.{argument_inside, argument_past}
use Rattle.arrival_claims.proofs.symbols.opening_form.Goals as goal

pub returns-then-slot-len : goal.returns-then-slot-len
returns-then-slot-len c =
    let a = c.args.core.now.arguments.items in
    let b = c.args.core.now.variables.items in
    let x = c.args.slot in
    let l : x < length (map kind a) = omega (arith, length-map a kind, c.if-slot-len.true, c.len.ensures) in
    matched c.once_of.result _ _ _ _ (λ f h. h ∙ sym (argument_inside 0 (map kind a) (map kind b) x l ∙ ap (λ n. once (ArgumentOf n)) (omega arith))) (λ e h. h) c.once_of.ensures

pub returns-else-slot-len : goal.returns-else-slot-len
returns-else-slot-len c =
    let a = c.args.core.now.arguments.items in
    let b = c.args.core.now.variables.items in
    let x = c.args.slot in
    let l : length (map kind a) ≤ x = omega (arith, length-map a kind, c.if-slot-len.false, c.len.ensures) in
    c.constant.ensures ∙ sym (argument_past 0 (map kind a) (map kind b) x l)
