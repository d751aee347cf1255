use Rattle.domain.proofs.Widths.{hulls}
use Rattle.domain.proofs.interval.around.Goals as goal

pub returns : goal.returns
returns c =
    hulls c.between.result c.least.result c.greatest.result c.args.a c.args.b c.args.c c.args.d
    (record { sfits = c.least.type_inv }) (record { sfits = c.greatest.type_inv }) c.ranges.a c.ranges.b c.ranges.c c.ranges.d c.between.ensures c.least.ensures.value c.greatest.ensures.value
