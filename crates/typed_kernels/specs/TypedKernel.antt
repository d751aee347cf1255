-- What the code keeps of a kernel that is typed: its map of names and its core.
use Rattle.core_code.specs.declared.tree.Core.{Core}
use Rattle.kernel_names.specs.declared.NameMap.{NameMap}

abbrev pub TypedKernel : Type 0
TypedKernel = NameMap × Core
