use Rattle.machine.specs.Worlds.{items_of}
use Rattle.machine.proofs.Apart.{together_by_one, first_two}
use Rattle.machine.proofs.world.World.apart_from.Goals as goal

pub returns-in-None : goal.returns-in-None
returns-in-None c = together_by_one (items_of c.args.self.now) c.args.first c.args.count c.args.one c.requires.waits c.in-None.ensures

pub returns-in-Some : goal.returns-in-Some
returns-in-Some c =
    first_two (items_of c.args.self.now) c.args.first c.args.count c.args.one c.in-Some.other c.requires.one c.requires.lowest c.in-Some.ensures.0 c.in-Some.ensures.1 c.in-Some.ensures.2
