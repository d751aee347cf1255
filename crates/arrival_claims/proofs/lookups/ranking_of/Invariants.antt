use Rattle.std.proofs.Common.{◌≡◌, drop}
use Rattle.obligations.specs.View as view
use Rattle.arrival_claims.proofs.lookups.ranking_of.Given as goal

abbrev pub invariant-loop-ranking : goal.invariant-loop-ranking
invariant-loop-ranking l = view.ranking_of (drop l.ranking-index l.rankings) l.number ≡ view.ranking_of l.rankings l.number
