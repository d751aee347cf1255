use Rattle.semantics.proofs.Words.{as_kind-in_kind, as_kind-same}
use Rattle.semantics.proofs.numbers.kinds_are_read.Goals as goal

pub returns : goal.returns
returns c = record { in_range = as_kind-in_kind; same = as_kind-same }
