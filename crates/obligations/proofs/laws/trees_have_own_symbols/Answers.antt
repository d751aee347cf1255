use Rattle.obligations.proofs.OwnPlaces.{accesses-own, ends-own}
use Rattle.obligations.proofs.laws.trees_have_own_symbols.Goals as goal

pub returns-clause-accesses : goal.returns-clause-accesses
returns-clause-accesses g c = λ k conditions n tell. accesses-own g.D.Domain k conditions n tell

pub returns-clause-ends : goal.returns-clause-ends
returns-clause-ends g c = λ k conditions n tell. ends-own g.D.Domain k conditions n tell
