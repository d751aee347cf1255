use Rattle.std.proofs.Common.{◌≡◌, ◌++◌, drop}
use Rattle.std.specs.String.{string_bytes}
use Rattle.texts.specs.Canonical.{statements_text}
use Rattle.syntax.specs.View.{statements}
use Rattle.printer.proofs.statement.+statement.Given as goal

abbrev pub invariant-push_statements-loop-statement : goal.invariant-push_statements-loop-statement
invariant-push_statements-loop-statement l =
    string_bytes l.out ++ statements_text l.pad (statements (drop l.statement-index l.body)) ≡ string_bytes l.initial.out ++ statements_text l.pad (statements l.body)
