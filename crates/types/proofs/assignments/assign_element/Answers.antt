use Rattle.std.proofs.Common.{arith}
use Rattle.std.proofs.lemmas.Grind.{common_steps}
use Rattle.types.specs.Answers.{typed_term}
use Rattle.types.proofs.assignments.assign_element.Goals as goal

pub returns-in_err-value-2 : goal.returns-in_err-value-2
returns-in_err-value-2 c =
    let w = c.in_ok-without_load.ensures (typed_term c.in_ok-typed.typed) in
    let k = c.in_err-value-2.ensures (typed_term c.in_ok-typed.typed) c.in_ok-typed.ensures in
    grind (arith, common_steps, w, k)

pub returns : goal.returns
returns c =
    let w = c.in_ok-without_load.ensures (typed_term c.in_ok-typed.typed) in
    let k = c.in_ok-value-2.ensures (typed_term c.in_ok-typed.typed) c.in_ok-typed.ensures in
    grind (arith, common_steps, w, k)
