use Rattle.std.proofs.Common.{◌≡◌, ◌++◌, drop, map}
use Rattle.std.specs.String.{string_bytes}
use Rattle.findings.specs.View.{finding}
use Rattle.telling.specs.Proving.{findings_text}
use Rattle.telling.proofs.proving.push_lines.Given as goal

abbrev pub invariant-loop-finding : goal.invariant-loop-finding
invariant-loop-finding l =
    string_bytes l.text ++ findings_text (map finding (drop l.finding-index l.findings)) ≡ string_bytes l.initial.text ++ findings_text (map finding l.findings)
