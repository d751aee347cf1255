use Rattle.std.proofs.Common.{◌≡◌, ◌++◌, drop, map}
use Rattle.syntax.specs.View.{parameter}
use Rattle.kernel_names.proofs.copied.copies_of.Given as goal

abbrev pub invariant-loop-parameter : goal.invariant-loop-parameter
invariant-loop-parameter l = map parameter l.copies.items ++ map parameter (drop l.parameter-index l.parameters) ≡ map parameter l.parameters
