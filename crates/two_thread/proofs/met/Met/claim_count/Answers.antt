use Rattle.std.proofs.Common.{arith}
use Rattle.two_thread.proofs.Nth.{length_met_claims}
use Rattle.two_thread.proofs.met.Met.claim_count.Goals as goal

pub returns-clause-seen : goal.returns-clause-seen
returns-clause-seen g c = let h = length_met_claims c.args.self.now in omega (arith, c.len.ensures, h)
