-- What the code's values stand for.
use Rattle.std.specs.Prelude.{List, map, Option, None, Some}
use Rattle.path_steps.specs.Paths as paths
use Rattle.path_steps.specs.View.{choice}
use Rattle.path_steps.specs.declared.path.Choice.{Choice}
use Rattle.std.proofs.Common.{Vec, Global}

abbrev pub maybe_choices : Option (Vec Choice Global) → Option (List paths.Choice)
maybe_choices None = None
maybe_choices (Some v) = Some (map choice v.items)
