use Rattle.two_thread.proofs.Nth.{is_place}
use Rattle.two_thread.proofs.looking.place_of.Goals as goal

pub returns : goal.returns
returns g c = is_place c.args.met.now c.args.i c.index.result.now c.requires c.index.ensures
