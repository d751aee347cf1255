-- What the code counts.
use Rattle.std.specs.Prelude.{◌≡◌, List, map, Result, Ok, Err}
use Rattle.semantics.specs.Core as core
use Rattle.texts.specs.Limits as limits
use Rattle.texts.specs.Surface as surface
use Rattle.syntax.specs.View.{parameter}
use Rattle.core_code.specs.View.{site}
use Rattle.core_code.specs.declared.tree.Site.{Site}
use Rattle.syntax.specs.declared.tree.Parameter.{Parameter}
use Rattle.parser.specs.declared.counts.Counts as code

abbrev pub counts : code.Counts → limits.Counts
counts c = record { buffers = c.buffers; variables = c.variables; arrays = c.arrays }

abbrev pub parameters : List Parameter → List surface.Parameter
parameters ps = map parameter ps

abbrev pub Counts : Result code.Counts Site → Result limits.Counts core.Site → Type 0
Counts (Ok c) counted = counted ≡ Ok (counts c)
Counts (Err s) counted = counted ≡ Err (site s)
