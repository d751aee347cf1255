use Rattle.std.proofs.Common.{◌∙◌}
use Rattle.std.proofs.lemmas.List.{take_rest}
use Rattle.opencl_macros.proofs.Pieces.{function-is}
use Rattle.opencl_macros.proofs.directives.function.Goals as goal

pub returns-then-count-tokens : goal.returns-then-count-tokens
returns-then-count-tokens c =
    (rw take_rest at c.function_with.ensures)
    ∙ function-is c.args.name.now c.args.tokens.now _ c.before_bracket-count.ensures.is c.if-count-tokens.true
