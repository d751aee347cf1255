use Rattle.std.proofs.Common.{◌≡◌, drop, map}
use Rattle.core_code.specs.View.{site, term}
use Rattle.words.specs.View.{kind}
use Rattle.opencl_values.specs.Vectors.{made_behind}
use Rattle.opencl_values.specs.VectorsView.{made}
use Rattle.opencl_values.proofs.vectors.made_behind.Given as goal

abbrev pub invariant-loop-place : goal.invariant-loop-place
invariant-loop-place l =
    made_behind (kind l.ids) (site l.at) (made l.made) (map term l.terms.items) (drop l.place-index l.places)
    ≡ made_behind (kind l.ids) (site l.at) (made l.made) (map term l.initial.terms.items) l.places
