use Rattle.two_thread.proofs.NthEnd.{is_end_place}
use Rattle.two_thread.proofs.stops.place_of_end.Goals as goal

pub returns : goal.returns
returns g c = is_end_place c.args.met.now c.args.i c.index.result.now c.requires c.index.ensures
