use Rattle.std.proofs.Common.{◌≡◌, [], drop, map}
use Rattle.core_code.specs.View.{site, term}
use Rattle.words.specs.View.{kind}
use Rattle.opencl_terms.specs.View.{scalar}
use Rattle.opencl_values.specs.Vectors.{gathered}
use Rattle.opencl_values.specs.View.{values}
use Rattle.opencl_values.proofs.vectors.gathered.Given as goal

abbrev pub invariant-loop-part : goal.invariant-loop-part
invariant-loop-part l =
    gathered (kind l.ids) (site l.at) (scalar l.to) (map term l.terms.items) (values (drop l.part-index l.parts))
    ≡ gathered (kind l.ids) (site l.at) (scalar l.to) [] (values l.parts)
