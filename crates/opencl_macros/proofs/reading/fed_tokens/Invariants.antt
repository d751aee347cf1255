use Rattle.std.proofs.Common.{◌≡◌, ◌++◌, drop, map}
use Rattle.opencl_macros.specs.Reading as readings
use Rattle.opencl_macros.specs.Seen.{feed, tokens_seen}
use Rattle.opencl_macros.proofs.reading.fed_tokens.Given as goal

abbrev pub invariant-loop-token : goal.invariant-loop-token
invariant-loop-token l =
    feed l.found.items ++ map readings.fed (tokens_seen (drop l.token-index l.tokens)) ≡ map readings.fed (tokens_seen l.tokens)
