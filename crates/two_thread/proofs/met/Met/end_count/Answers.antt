use Rattle.std.proofs.Common.{arith}
use Rattle.two_thread.proofs.NthEnd.{length_met_ends}
use Rattle.two_thread.proofs.met.Met.end_count.Goals as goal

pub returns-clause-seen : goal.returns-clause-seen
returns-clause-seen g c = let h = length_met_ends c.args.self.now in omega (arith, c.len.ensures, h)
