use Rattle.words.specs.View.{kind}
use Rattle.path_walk.proofs.BitPlaces.{no_run, longer_run}
use Rattle.path_walk.proofs.bit_places.run_of.Goals as goal

pub loop-smaller-init : goal.loop-smaller-init
loop-smaller-init c = no_run (kind c.args.kind) _

pub loop-smaller-preserved : goal.loop-smaller-preserved
loop-smaller-preserved c = longer_run c.loop-smaller.smaller (kind c.args.kind) _ c.loop-smaller.found c.place_or-found.result c.is_run.result c.loop-smaller.invariant c.is_run.ensures c.place_or-found.ensures
