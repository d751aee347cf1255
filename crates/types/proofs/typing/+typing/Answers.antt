use Rattle.std.proofs.Common.{ap, ◌∙◌, rules, arith}
use Rattle.std.proofs.lemmas.Grind.{common_steps}
use Rattle.syntax.proofs.Rows.{seen_call}
use Rattle.syntax.specs.View.{expression}
use Rattle.core_code.specs.View.{site}
use Rattle.types.specs.Functions.{pick as pick_of}
use Rattle.types.specs.Names.{devices, names}
use Rattle.types.proofs.Arguments.{pick-two}
use Rattle.types.proofs.typing.+typing.Goals as goal

pub pick_of_two-returns-in_err-left : goal.pick_of_two-returns-in_err-left
pick_of_two-returns-in_err-left t c =
    let k = pick-two (devices c.args.scope.now.devices) (names c.args.scope.now.visible) (site c.args.at) (pick_of c.args.pick) c.args.arguments.now c.index-arguments-0.result c.index-arguments-0.result c.requires in
    rw (k, ← c.index-arguments-0.is) (first_of (search rules, grind (arith, common_steps)))

pub pick_of_two-returns-in_err-right : goal.pick_of_two-returns-in_err-right
pick_of_two-returns-in_err-right t c =
    let k = pick-two (devices c.args.scope.now.devices) (names c.args.scope.now.visible) (site c.args.at) (pick_of c.args.pick) c.args.arguments.now c.index-arguments-0.result c.index-arguments-1.result c.requires in
    rw (k, ← c.index-arguments-0.is, ← c.index-arguments-1.is, c.in_ok-left.ensures) (first_of (search rules, grind (arith, common_steps)))

pub pick_of_two-returns : goal.pick_of_two-returns
pick_of_two-returns t c =
    let k = pick-two (devices c.args.scope.now.devices) (names c.args.scope.now.visible) (site c.args.at) (pick_of c.args.pick) c.args.arguments.now c.index-arguments-0.result c.index-arguments-1.result c.requires in
    rw (k, ← c.index-arguments-0.is, ← c.index-arguments-1.is, c.in_ok-left.ensures, c.in_ok-right.ensures) c.pick_term.ensures

pub type_of-returns-in-Call : goal.type_of-returns-in-Call
type_of-returns-in-Call t c =
    let e = ap expression c.in-Call.is ∙ seen_call c.in-Call.site c.in-Call.name c.in-Call.arguments in
    rw e (rw (c.as_str-in-Call.ensures.value, c.as_slice.ensures.value) at c.call_term.ensures)
