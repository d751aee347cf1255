use Rattle.std.proofs.Common.{◌≡◌, drop, map}
use Rattle.std.specs.String.{string_bytes}
use Rattle.lines.specs.Identifiers.{is_identifier}
use Rattle.certificate_text.specs.Rules as rules
use Rattle.certificate.proofs.proper.are_identifiers.Given as goal

abbrev pub invariant-loop-name : goal.invariant-loop-name
invariant-loop-name l = rules.all is_identifier (map string_bytes (drop l.name-index l.names)) ≡ rules.all is_identifier (map string_bytes l.names)
