use Rattle.std.proofs.Common.{◌≡◌, drop}
use Rattle.std.specs.Prelude.{map}
use Rattle.opencl_values.specs.Constants.{reals, is_one_of}
use Rattle.opencl_values.specs.ConstantsView.{text_seen}
use Rattle.opencl_values.proofs.constants.is_real.Given as goal

abbrev pub invariant-loop-text : goal.invariant-loop-text
invariant-loop-text l = is_one_of reals l.name ≡ is_one_of (map text_seen (drop l.text-index l.text-items)) l.name
