use Rattle.domain.specs.Remainders.{shifted-ordered}
use Rattle.domain.proofs.interval.IntervalDomain.shr.Goals as goal

pub invariant_of-result : goal.invariant_of-result
invariant_of-result c = rw (c.shifted_end.ensures, c.shifted_end-2.ensures) (shifted-ordered c.self.inside.low c.self.inside.high c.args.by c.self.invariant)
