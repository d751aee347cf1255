use Rattle.std.proofs.Common.{◌≡◌, drop, map}
use Rattle.launch_text.specs.View.{local}
use Rattle.host_shapes.specs.Types.{count_among}
use Rattle.host_shapes.proofs.parameters.count_among.Given as goal

abbrev pub invariant-loop-local : goal.invariant-loop-local
invariant-loop-local l = count_among (map local (drop l.local-index l.locals)) l.name ≡ count_among (map local l.locals) l.name
