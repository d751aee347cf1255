-- What the code's arrays with their types stand for.
use Rattle.std.specs.Prelude.{Option, None, Some, Bool}
use Rattle.semantics.specs.Core as core
use Rattle.core_code.specs.View.{array}
use Rattle.opencl_terms.specs.Answers.{value_type}
use Rattle.opencl_terms.specs.Types as types
use Rattle.opencl_core.specs.declared.moving.Whole.{Whole}

abbrev pub maybe_whole : Option Whole → Option (core.Array × types.ValueType × Bool)
maybe_whole None = None
maybe_whole (Some w) = Some (array w.array, value_type w.element, w.is_constant)
