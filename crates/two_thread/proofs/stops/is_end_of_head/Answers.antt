use Rattle.two_thread.proofs.NthEnd.{end_tag}
use Rattle.two_thread.proofs.stops.is_end_of_head.Goals as goal

pub returns : goal.returns
returns g c = (end_tag c.args.met.now c.args.i c.place_of_end-place.result c.index.result.now c.place_of_end-place.ensures c.index.ensures).1
