use Rattle.two_thread.proofs.Nth.{access_tag}
use Rattle.two_thread.proofs.looking.anchor_of.Goals as goal

pub returns : goal.returns
returns g c = (access_tag c.args.met.now c.args.i c.place_of-place.result c.index.result.now c.place_of-place.ensures c.index.ensures).0
