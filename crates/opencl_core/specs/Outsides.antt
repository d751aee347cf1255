-- Where writing out begins.
use Rattle.std.specs.Prelude.{ℕ, List, [], length}
use Rattle.semantics.specs.Word.{Kind}
use Rattle.semantics.specs.Core as core
use Rattle.semantics.specs.Launch.{Three}
use Rattle.kernel_names.specs.NameMap.{only}
use Rattle.opencl_values.specs.Scope.{Binding}
use Rattle.opencl_core.specs.Templates.{OfKernel}
use Rattle.opencl_core.specs.Rooms.{Room}

-- the names that the file declares beside the kernel stand around it
abbrev pub empty_room : (ids : Kind) → Three ℕ → List Binding → Room
empty_room ids sizes outside = record {
  ids = ids;
  sizes = sizes;
  visible = outside;
  drawn = [];
  helpers = [];
  templates = [];
  returns = OfKernel;
  around = length outside;
  slots = [];
  arrays = [];
  elements = 0;
  buffers = [];
  next = 1;
  written = core.none;
  names = only [];
}
