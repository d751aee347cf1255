use Rattle.semantics.proofs.LoadKinds.{value_has_kind, element_has_kind}
use Rattle.semantics.proofs.solo_runs.loads_have_their_kind.Goals as goal

pub returns : goal.returns
returns c = record { value = value_has_kind; element = element_has_kind }
