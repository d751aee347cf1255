use Rattle.std.proofs.Common.{◌≡◌, drop}
use Rattle.opencl_macros.specs.Expansion.{place_of}
use Rattle.opencl_macros.specs.Seen.{tokens_seen}
use Rattle.opencl_macros.proofs.feed.place_of.Given as goal

abbrev pub invariant-loop-at : goal.invariant-loop-at
invariant-loop-at l = place_of l.name l.at (tokens_seen (drop l.at l.parameters)) ≡ place_of l.name 0 (tokens_seen l.parameters)
