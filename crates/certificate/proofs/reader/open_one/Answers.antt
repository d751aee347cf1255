use Rattle.std.proofs.Common.{length, ap, arith}
use Rattle.certificate.proofs.reader.open_one.Goals as goal

pub open_lines-requires : goal.open_lines-requires
open_lines-requires c = omega (arith, ap length c.in-Some.ensures, c.of.ensures.count, c.if-text-gt-LIMIT.false)
