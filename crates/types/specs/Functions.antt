-- What the code's functions stand for.
use Rattle.std.specs.Prelude.{Option, Some, None}
use Rattle.semantics.specs.Core as core
use Rattle.core_code.specs.View.{function}
use Rattle.core_code.specs.declared.tree.Function.{Function}
use Rattle.types.specs.declared.calls.Pick.{Pick}
use Rattle.types.specs.declared.calls.Pick.TheVariants as picks

abbrev pub function_seen : Option Function → Option core.Function
function_seen None = None
function_seen (Some f) = Some (function f)

abbrev pub pick : Pick → core.Term → core.Term → core.Term
pick picks.Minimum = core.Minimum
pick picks.Maximum = core.Maximum

abbrev pub pick_seen : Option Pick → Option (core.Term → core.Term → core.Term)
pick_seen None = None
pick_seen (Some p) = Some (pick p)
