use Rattle.std.proofs.Common.{arith}
use Rattle.two_thread.proofs.Nth.{length_met}
use Rattle.two_thread.proofs.met.Met.access_count.Goals as goal

pub returns-clause-seen : goal.returns-clause-seen
returns-clause-seen g c = let h = length_met c.args.self.now in omega (arith, c.len.ensures, h)
