use Rattle.std.proofs.Common.{◌≡◌, drop}
use Rattle.types.specs.Elaboration as elaboration
use Rattle.syntax.specs.View.{expressions}
use Rattle.types.proofs.loads.+loads.Given as goal

abbrev pub invariant-first_load_in-loop-argument : goal.invariant-first_load_in-loop-argument
invariant-first_load_in-loop-argument l = elaboration.first_load_in (expressions (drop l.argument-index l.arguments)) ≡ elaboration.first_load_in (expressions l.arguments)
