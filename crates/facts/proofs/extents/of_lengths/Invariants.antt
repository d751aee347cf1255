use Rattle.std.proofs.Common.{◌≡◌, ◌++◌, [], drop, map}
use Rattle.launch.specs.View.{length_sum}
use Rattle.facts.specs.Launching.{from_least}
use Rattle.facts.specs.View.{elements_seen}
use Rattle.facts.proofs.extents.of_lengths.Given as goal

abbrev pub invariant-loop-length : goal.invariant-loop-length
invariant-loop-length g l = l.elements.items ++ map (from_least g.D.Domain (elements_seen l.known [] [])) (map length_sum (drop l.length-index l.lengths)) ≡ map (from_least g.D.Domain (elements_seen l.known [] [])) (map length_sum l.lengths)
