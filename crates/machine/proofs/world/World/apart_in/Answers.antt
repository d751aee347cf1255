use Rattle.machine.specs.Worlds.{items_of}
use Rattle.machine.proofs.Apart.{together_by_none}
use Rattle.machine.proofs.world.World.apart_in.Goals as goal

pub returns-in-None : goal.returns-in-None
returns-in-None c = together_by_none (items_of c.args.self.now) c.args.first c.args.count c.in-None.ensures
