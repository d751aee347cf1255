-- What the code's components stand for.
use denote.Ref.{Bor}
use Rattle.core_code.specs.View.{array, direction, term}
use Rattle.opencl_terms.specs.Answers as seen
use Rattle.opencl_terms.specs.Answers.{value_type}
use Rattle.opencl_terms.specs.View.{scalar}
use Rattle.opencl_values.specs.Vectors as vectors
use Rattle.opencl_values.specs.View.{value}
use Rattle.opencl_values.specs.declared.vectors.Made.{Made}
use Rattle.opencl_values.specs.declared.vectors.Made.TheVariants as mades

abbrev pub made : Made → vectors.Made
made (mades.Picked v first picked) = vectors.Picked (value v.now) first picked.now
made (mades.Converted to v) = vectors.Converted (scalar to) (value v.now)
made (mades.One op t v) = vectors.One (seen.of_one op) (value_type t) (value v.now)
made (mades.Two op t l r) = vectors.Two (seen.of_two op) (value_type t) (value l.now) (value r.now)
made (mades.Shifts d t l r) = vectors.Shifts (direction d) (value_type t) (value l.now) (value r.now)
made (mades.Logical op width l r) = vectors.Logical (seen.of_two op) width (value l.now) (value r.now)
made (mades.ByBits to t a b) = vectors.ByBits (scalar to) (value t.now) (value a.now) (value b.now)
made (mades.ByTest to t a b) = vectors.ByTest (scalar to) (value t.now) (value a.now) (value b.now)
made (mades.Loaded a s i) = vectors.Loaded (array a) (scalar s) (term i.now)
made (mades.Kept slot) = vectors.Kept slot
made (mades.Mixed picked new old) = vectors.Mixed picked.now (value new.now) (value old.now)
made (mades.Filled v) = vectors.Filled (value v.now)
