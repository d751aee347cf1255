use Rattle.std.proofs.Common.{◌≡◌, [], drop, map}
use Rattle.core_code.specs.View.{site, term}
use Rattle.opencl_values.specs.Choices.{mixed_behind}
use Rattle.opencl_values.specs.View.{value}
use Rattle.opencl_values.proofs.choices.mixed_behind.Given as goal

abbrev pub invariant-loop-place : goal.invariant-loop-place
invariant-loop-place l =
    mixed_behind (site l.at) (value l.of.0.now) (value l.of.1.now) (value l.of.2.now) (map term l.terms.items) (drop l.place-index l.places)
    ≡ mixed_behind (site l.at) (value l.of.0.now) (value l.of.1.now) (value l.of.2.now) [] l.places
