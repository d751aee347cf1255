use Rattle.std.proofs.Common.{ap, ◌∙◌, rules}
use Rattle.syntax.proofs.Rows.{seen_call}
use Rattle.syntax.specs.View.{expression}
use Rattle.parser.proofs.depth.+expressions_limit.Goals as goal

pub deep_expression-returns-in-Call : goal.deep_expression-returns-in-Call
deep_expression-returns-in-Call t c =
    let e = ap expression c.in-Call.is ∙ seen_call c.in-Call.site c.in-Call.name c.in-Call.arguments in
    rw e (search rules)
