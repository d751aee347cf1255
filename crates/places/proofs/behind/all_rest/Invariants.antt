use Rattle.std.proofs.Common.{◌≡◌, drop}
use Rattle.places.specs.Behind.{found, rests_before}
use Rattle.places.specs.Reaching.{nothing}
use Rattle.places.proofs.behind.all_rest.Given as goal

abbrev pub invariant-loop-one : goal.invariant-loop-one
invariant-loop-one l = rests_before l.head (drop l.one-index l.rest) (found l.found) ≡ rests_before l.head l.rest nothing
