-- What a parameter asks of a host's argument: a scalar, of width 1, or a vector of so many; a buffer of these; local memory with so many.
use Rattle.std.specs.Prelude.{ℕ, List, map, Option, Some, None, Vec}
use Rattle.std.specs.declared.alloc.Global.{Global}
use Rattle.host_launches.specs.declared.shapes.Scalar.{Scalar}
use Rattle.host_launches.specs.declared.shapes.Shape.{Shape}
use Rattle.host_launches.specs.declared.shapes.Shape.TheVariants as shapes

pub data Meant : Type 0 where
  ValueOf : (scalar : Scalar) (width : ℕ) → Meant
  BufferOf : (scalar : Scalar) (width : ℕ) → Meant
  LocalOf : (scalar : Scalar) (width count : ℕ) → Meant

abbrev pub meant : Shape → Meant
meant (shapes.Value e) = ValueOf e.scalar e.width
meant (shapes.Buffer e) = BufferOf e.scalar e.width
meant (shapes.Local e count) = LocalOf e.scalar e.width count

abbrev pub maybe_meant : Option Shape → Option Meant
maybe_meant None = None
maybe_meant (Some s) = Some (meant s)

abbrev pub all_meant : Option (Vec Shape Global) → Option (List Meant)
all_meant None = None
all_meant (Some ss) = Some (map meant ss.items)
