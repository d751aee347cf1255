use Rattle.opencl_tree.specs.View.{statement, statements}
use Rattle.opencl_jumps.proofs.Weights.{weight, weights}
use Rattle.opencl_jumps.proofs.exits.+fitting.Given as goal

abbrev pub decreases-fits_in : goal.decreases-fits_in
decreases-fits_in l = weight (statement l.of.now)

abbrev pub decreases-fits : goal.decreases-fits
decreases-fits l = weights (statements l.of.now)
