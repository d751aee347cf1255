-- A kernel's core and its map of names: of its head, then of its body, whose outermost block is that of the parameters (C99 6.2.1p4).
use Rattle.std.specs.Prelude.{ℕ, ◌-◌, List, length, drop, map, Ok}
use Rattle.semantics.specs.Word.{Kind}
use Rattle.semantics.specs.Core as core
use Rattle.semantics.specs.Launch as launch
use Rattle.semantics.specs.Launch.{Three}
use Rattle.kernel_names.specs.NameMap.{NameMap}
use Rattle.opencl_tree.specs.Tree.{Statements}
use Rattle.opencl_files.specs.FileTree.{Header}
use Rattle.opencl_values.specs.Scope.{Binding}
use Rattle.opencl_values.specs.Faults.{Checked, NameTwice, WrongType, then, when}
use Rattle.opencl_core.specs.Names.{may_name_kernel}
use Rattle.opencl_core.specs.Rooms.{Room, ended}
use Rattle.opencl_core.specs.Templates.{Template, as_helper}
use Rattle.opencl_core.specs.Outsides.{empty_room}
use Rattle.opencl_core.specs.Helpers.{templates_of}
use Rattle.opencl_core.specs.Assigning.{is_void}
use Rattle.opencl_core.specs.Heads.{LocalCount, declare_parameters}
use Rattle.opencl_core.specs.Moving.{moving_parameters}
use Rattle.opencl_core.specs.Writing.{Outside, write_all}
use Rattle.opencl_core.specs.Places.{placed_all}

-- the functions in front of it in its file are known
abbrev pub room_with : (ids : Kind) → Three ℕ → List Binding → List Template → Room
room_with ids sizes outside ts = record (empty_room ids sizes outside) { helpers = map as_helper ts; templates = ts }

-- a kernel returns nothing (OpenCL 1.2, 6.7.1)
abbrev pub head_room : (ids : Kind) → Three ℕ → List Binding → List Template → Header → Checked Room
head_room ids sizes outside ts h =
    then (when (may_name_kernel h.name) NameTwice h.site (room_with ids sizes outside ts)) (λ r. when (is_void h.base h.stars) WrongType h.site r)

-- what a head gives to launches
pub record Given : Type 0 where
  pub sizes : Three ℕ
  pub buffers : List Kind
  pub arguments : List Kind

abbrev pub given_by : Three ℕ → Room → Given
given_by sizes r = record { sizes = sizes; buffers = r.buffers; arguments = r.slots }

-- each operation that is not reckoned has a place of its own
abbrev pub body_of : core.Statements → core.Statements
body_of ss = (placed_all ss 1).statements

abbrev pub core_of : Given → Room → launch.Kernel
core_of g r = record {
  sizes = g.sizes;
  buffers = g.buffers;
  arguments = g.arguments;
  arrays = r.arrays;
  variables = drop (length g.arguments) r.slots;
  body = body_of r.written;
}

-- names of the outermost block end with the kernel
abbrev pub names_at : (next : ℕ) → NameMap → NameMap
names_at n m = record m { variables = map (ended (n - 1)) m.variables }

-- a kernel's core, and what is told of it beside
pub record Written : Type 0 where
  pub core : launch.Kernel
  pub names : NameMap

abbrev pub finished : Given → Room → Written
finished g r = record { core = core_of g r; names = names_at r.next r.names }

abbrev pub kernel_with : (ids : Kind) → (outside : List Binding) → List Template → Three ℕ → Header → List LocalCount → Statements → Checked Written
kernel_with ids outside ts sizes h ls body =
    then (head_room ids sizes outside ts h) (λ r. then (declare_parameters ls h.parameters r) (λ p.
    then (moving_parameters body h.parameters p) (λ m. then (write_all Outside body m) (λ b. Ok (finished (given_by sizes p) b)))))

unfoldable pub kernel_of : (ids : Kind) → (outside : List Binding) → (functions : List (Header × Statements)) → Three ℕ → Header → List LocalCount → Statements → Checked Written
kernel_of ids outside fs sizes h ls body = kernel_with ids outside (templates_of (record { ids = ids; sizes = sizes; outside = outside }) fs) sizes h ls body
