use Rattle.std.proofs.Common.{ap, ◌∙◌, rules, arith}
use Rattle.std.proofs.lemmas.Grind.{common_steps}
use Rattle.syntax.proofs.Rows.{seen_call}
use Rattle.syntax.specs.View.{expression}
use Rattle.printer.proofs.expression.+expression.Goals as goal

pub push_expression-returns-in_ok-push_arguments-in-Call : goal.push_expression-returns-in_ok-push_arguments-in-Call
push_expression-returns-in_ok-push_arguments-in-Call t c =
    let e = ap expression c.in-Call.is ∙ seen_call c.in-Call.site c.in-Call.name c.in-Call.arguments in
    rw e (first_of (search rules, grind (arith, common_steps)))
