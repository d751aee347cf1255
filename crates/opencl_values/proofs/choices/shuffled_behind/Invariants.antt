use Rattle.std.proofs.Common.{◌≡◌, [], drop, map}
use Rattle.core_code.specs.View.{site, term}
use Rattle.opencl_values.specs.Choices.{shuffled_behind}
use Rattle.opencl_values.specs.View.{value}
use Rattle.opencl_values.proofs.choices.shuffled_behind.Given as goal

abbrev pub invariant-loop-place : goal.invariant-loop-place
invariant-loop-place l =
    shuffled_behind (site l.at) (value l.of) (value l.numbers) (map term l.terms.items) (drop l.place-index l.places)
    ≡ shuffled_behind (site l.at) (value l.of) (value l.numbers) [] l.places
