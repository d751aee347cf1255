use Rattle.std.proofs.Common.{arith}
use Rattle.two_thread.proofs.Listing.{listed_length}
use Rattle.two_thread.proofs.numbered.Obligations.len.Goals as goal

pub returns-clause-exact : goal.returns-clause-exact
returns-clause-exact g c = omega (arith, listed_length g.D.Domain c.args.self.now, c.len.ensures, c.len-2.ensures, c.len-3.ensures)
