use Rattle.std.proofs.Common.{ap, ◌∙◌, rules, arith}
use Rattle.std.proofs.lemmas.Grind.{common_steps}
use Rattle.core_code.specs.View.{site}
use Rattle.opencl_tree.specs.View.{expression}
use Rattle.opencl_tree.proofs.Rows.{seen_call, seen_vector}
use Rattle.opencl_values.specs.Values.{value_of}
use Rattle.opencl_values.specs.View.{names}
use Rattle.opencl_values.proofs.Arguments.{vector_read-is}
use Rattle.opencl_values.proofs.values.+values.Goals as goal

pub value_of-returns-in-Call : goal.value_of-returns-in-Call
unfolding value_of
value_of-returns-in-Call t c =
    rw (ap expression c.in-Call.is ∙ seen_call c.in-Call.site c.in-Call.name c.in-Call.arguments) (first_of (search rules, grind (arith, common_steps)))

pub value_of-returns-in-Vector : goal.value_of-returns-in-Vector
unfolding value_of
value_of-returns-in-Vector t c =
    rw (ap expression c.in-Vector.is ∙ seen_vector c.in-Vector.site c.in-Vector.to c.in-Vector.parts) (first_of (search rules, grind (arith, common_steps)))

pub vector_read-returns-in_err-by-in-len2 : goal.vector_read-returns-in_err-by-in-len2
vector_read-returns-in_err-by-in-len2 t c =
    rw (vector_read-is (names c.args.names) (site c.args.at) c.args.width c.args.arguments.now c.by-item.result c.of-item.result
    (omega (arith, c.in-len2.len_at_least)) (omega (arith, c.in-len2.len_below)) c.by-item.is c.of-item.is)
    (first_of (search rules, grind (arith, common_steps)))

pub vector_read-returns-in_err-part-in-len2 : goal.vector_read-returns-in_err-part-in-len2
vector_read-returns-in_err-part-in-len2 t c =
    rw (vector_read-is (names c.args.names) (site c.args.at) c.args.width c.args.arguments.now c.by-item.result c.of-item.result
    (omega (arith, c.in-len2.len_at_least)) (omega (arith, c.in-len2.len_below)) c.by-item.is c.of-item.is)
    (first_of (search rules, grind (arith, common_steps)))

pub vector_read-returns-in_ok-part-in-len2 : goal.vector_read-returns-in_ok-part-in-len2
vector_read-returns-in_ok-part-in-len2 t c =
    rw (vector_read-is (names c.args.names) (site c.args.at) c.args.width c.args.arguments.now c.by-item.result c.of-item.result
    (omega (arith, c.in-len2.len_at_least)) (omega (arith, c.in-len2.len_below)) c.by-item.is c.of-item.is)
    (first_of (search rules, grind (arith, common_steps)))
