use Rattle.std.proofs.Common.{◌≡◌, ◌++◌, drop, []}
use denote.Text.{Utf8}
use denote.Shadow.{shadow}
use Rattle.std.specs.String.{string_bytes}
use Rattle.texts.specs.Canonical.{arguments_text}
use Rattle.syntax.specs.View.{expressions}
use Rattle.printer.proofs.expression.+expression.Given as goal

abbrev pub invariant-push_arguments-loop-argument : goal.invariant-push_arguments-loop-argument
invariant-push_arguments-loop-argument l =
    shadow (Utf8 l.before)
    × (string_bytes l.out ++ arguments_text l.before (expressions (drop l.argument-index l.arguments)) ≡ string_bytes l.initial.out ++ arguments_text [] (expressions l.arguments))
