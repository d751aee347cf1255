use Rattle.std.proofs.Common.{refl}
use Rattle.lane_groups.proofs.Standings.{stands}
use Rattle.lane_groups.proofs.standing.standing.Goals as goal

pub returns : goal.returns
returns c = λ s g k l h at. stands s g k l c.args.first.now _ c.args.place h at refl c.at_place.ensures c.at_place-2.ensures c.at_place-3.ensures refl
