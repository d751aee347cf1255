use Rattle.lane_groups.proofs.Standings.{place_is}
use Rattle.lane_groups.proofs.standing.place_of.Goals as goal

pub returns : goal.returns
returns c = λ s g k l h. place_is s g k l c.args.who.now h
