use Rattle.semantics.proofs.MemoryKinds.{memory-kinds}
use Rattle.semantics.proofs.worlds.memory_keeps_kinds.Goals as goal

pub returns : goal.returns
returns c = memory-kinds
