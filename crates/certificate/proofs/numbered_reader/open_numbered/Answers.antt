use Rattle.std.proofs.Common.{length, ap, arith}
use Rattle.certificate.proofs.numbered_reader.open_numbered.Goals as goal

pub open_behind-requires : goal.open_behind-requires
open_behind-requires c = omega (arith, ap length c.in-Some.ensures, c.of.ensures.count, c.if-text-gt-LIMIT.false)
