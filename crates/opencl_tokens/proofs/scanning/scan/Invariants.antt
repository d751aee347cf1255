use Rattle.std.proofs.Common.{◌≡◌, drop, true, false}
use Rattle.std.specs.Prelude.{map}
use Rattle.opencl_tokens.specs.Faults.{in_front}
use Rattle.opencl_tokens.specs.Scanning.{lead, tokens}
use Rattle.opencl_tokens.specs.Seen.{site, token, before}
use Rattle.opencl_tokens.proofs.scanning.scan.Given as goal

abbrev pub invariant-loop-at : goal.invariant-loop-at
invariant-loop-at l =
    tokens (map site l.sites) (lead true false) 0 0 l.bytes ≡ in_front (map token l.tokens.items)
    (tokens (map site l.sites) (before l.before) l.skip l.at (drop l.at l.bytes))
