use Rattle.typed_kernels.specs.TypedKernel.{TypedKernel}
use Rattle.launch.specs.declared.conditions.Conditions.{Conditions}
use Rattle.proof_search.specs.Findings.{AreTrue}
use Rattle.proof_search.proofs.shortfall.push_suspects.Given as goal

abbrev pub invariant-loop-one : goal.invariant-loop-one
invariant-loop-one l = (t : TypedKernel) (c : Conditions) → AreTrue t c l.initial.all.items → AreTrue t c l.all.items
