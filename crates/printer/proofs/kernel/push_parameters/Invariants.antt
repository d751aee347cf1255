use Rattle.std.proofs.Common.{◌≡◌, ◌++◌, drop, map, []}
use denote.Text.{Utf8}
use denote.Shadow.{shadow}
use Rattle.std.specs.String.{string_bytes}
use Rattle.texts.specs.Canonical.{parameters_text}
use Rattle.syntax.specs.View.{parameter}
use Rattle.printer.proofs.kernel.push_parameters.Given as goal

abbrev pub invariant-loop-parameter : goal.invariant-loop-parameter
invariant-loop-parameter l =
    shadow (Utf8 l.before)
    × (string_bytes l.out ++ parameters_text l.before (map parameter (drop l.parameter-index l.parameters)) ≡ string_bytes l.initial.out ++ parameters_text [] (map parameter l.parameters))
