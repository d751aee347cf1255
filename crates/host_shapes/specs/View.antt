-- Elements of the code, as the definitions have them.
use Rattle.std.specs.Prelude.{ℕ, Option, Some, None}
use Rattle.host_launches.specs.declared.shapes.Scalar.{Scalar}
use Rattle.host_launches.specs.declared.shapes.Element.{Element}

abbrev pub element : Element → Scalar × ℕ
element e = (e.scalar, e.width)

abbrev pub maybe_element : Option Element → Option (Scalar × ℕ)
maybe_element None = None
maybe_element (Some e) = Some (element e)
