use Rattle.std.specs.Int.RustNames.{int_div}
use Rattle.domain.proofs.Widths.{corners}
use Rattle.domain.proofs.interval.quotients.Goals as goal

pub returns : goal.returns
returns c =
    corners (int_div) c.around.result c.args.a c.args.b c.args.c c.args.d c.quotient.result c.quotient-2.result c.quotient-3.result c.quotient-4.result
    c.ranges.a c.ranges.b c.ranges.c c.ranges.d (record { sfits = c.quotient.type_inv }) (record { sfits = c.quotient-2.type_inv }) (record { sfits = c.quotient-3.type_inv }) (record { sfits = c.quotient-4.type_inv })
    c.around.ensures c.quotient.ensures c.quotient-2.ensures c.quotient-3.ensures c.quotient-4.ensures
