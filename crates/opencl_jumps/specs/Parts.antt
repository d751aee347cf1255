-- The second part of an `if`.
use Rattle.std.specs.Prelude.{Bool, false, ◌&&◌}
use Rattle.opencl_tree.specs.Tree.{Statements, none, one}
use Rattle.opencl_jumps.specs.Exits.{is_none, is_if}

-- whether it is one more `if`
abbrev pub is_lone_if : Statements → Bool
is_lone_if none = false
is_lone_if (one s ss) = is_if s && is_none ss
