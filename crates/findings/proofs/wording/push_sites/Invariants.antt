use Rattle.std.proofs.Common.{◌≡◌, ◌++◌, drop, map}
use Rattle.std.specs.String.{string_bytes}
use Rattle.findings.specs.View.{spot, work_item}
use Rattle.findings.specs.Wording.{sites_text}
use Rattle.findings.proofs.wording.push_sites.Given as goal

abbrev pub invariant-loop-number : goal.invariant-loop-number
invariant-loop-number l =
    string_bytes l.out ++ sites_text l.number (map spot (drop l.number l.sites)) (map work_item l.items) ≡ string_bytes l.initial.out ++ sites_text 0 (map spot l.sites) (map work_item l.items)
