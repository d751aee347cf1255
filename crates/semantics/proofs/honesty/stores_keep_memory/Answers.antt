use Rattle.std.proofs.Common.{subst}
use Rattle.semantics.specs.Contents.{StoresKept}
use Rattle.semantics.proofs.HonestRuns.{store-kept}
use Rattle.semantics.proofs.honesty.stores_keep_memory.Goals as goal

pub returns : goal.returns
returns c = λ s cs m i it at site value next h k e. store-kept s cs m i it at site value next h e (subst (StoresKept s cs) e k)
