use Rattle.std.proofs.Common.{◌≡◌, drop}
use Rattle.host_launches.specs.Fitting.{each_fits}
use Rattle.host_launches.proofs.fitting.each_fits.Given as goal

abbrev pub invariant-loop-at : goal.invariant-loop-at
invariant-loop-at l = each_fits l.arguments l.at (drop l.at l.shapes) (drop l.at l.arguments) ≡ each_fits l.arguments 0 l.shapes l.arguments
