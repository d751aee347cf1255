use Rattle.std.proofs.Common.{◌≡◌, ◌++◌, drop, map}
use Rattle.core_code.specs.View.{term}
use Rattle.opencl_values.proofs.choices.push_copies.Given as goal

abbrev pub invariant-loop-one : goal.invariant-loop-one
invariant-loop-one l = map term l.terms.items ++ map term (drop l.one-index l.of) ≡ map term l.initial.terms.items ++ map term l.of
