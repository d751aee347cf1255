use Rattle.std.proofs.Common.{◌≡◌, drop}
use Rattle.core_code.specs.View.{site, term}
use Rattle.opencl_terms.specs.Conversions.{uint}
use Rattle.opencl_values.specs.Choices.{numbered}
use Rattle.opencl_values.specs.View.{value}
use Rattle.opencl_values.proofs.choices.numbered.Given as goal

abbrev pub invariant-loop-place : goal.invariant-loop-place
invariant-loop-place l =
    numbered (site l.at) (value l.of) (term l.number) (term l.chosen) (drop l.place-index l.places)
    ≡ numbered (site l.at) (value l.of) (term l.number) (uint 0) l.places
