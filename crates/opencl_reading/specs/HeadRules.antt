-- What the head of conditions says of a kernel, against the kernel's own text.
use Rattle.std.specs.Prelude.{ℕ, List, [], ◌∷◌, length, Bool, true, false, not, ◌&&◌, ◌||◌, nat_eq, bytes_eq, Option, None, Some}
use Rattle.semantics.specs.Launch.{Three}
use Rattle.launch_text.specs.HeadReading as heads
use Rattle.opencl_tree.specs.Types.{Space, Local}
use Rattle.opencl_files.specs.FileTree.{Parameter}
use Rattle.opencl_core.specs.Heads.{LocalCount}

abbrev pub are_same_sizes : Three ℕ → Three ℕ → Bool
are_same_sizes s t = nat_eq s.x t.x && (nat_eq s.y t.y && nat_eq s.z t.z)

abbrev pub is_in_local : Option Space → Bool
is_in_local (Some Local) = true
is_in_local space = false

abbrev pub has_name : (name : List ℕ) → Option (List ℕ) → Bool
has_name name None = false
has_name name (Some x) = bytes_eq x name

-- a pointer into local memory, of this name
abbrev pub is_local : (name : List ℕ) → Parameter → Bool
is_local name p = has_name name p.name && (nat_eq (length p.stars) 1 && is_in_local p.qualifiers.space)

abbrev pub has_local : List Parameter → (name : List ℕ) → Bool
has_local [] name = false
has_local (p ∷ ps) name = is_local name p || has_local ps name

abbrev pub has_count : List heads.LocalCount → (name : List ℕ) → Bool
has_count [] name = false
has_count (l ∷ ls) name = bytes_eq l.name name || has_count ls name

-- the name of a pointer into local memory, which does not stand among the others
abbrev pub is_one : List Parameter → (name : List ℕ) → (others : List heads.LocalCount) → Bool
is_one ps name ls = has_local ps name && not (has_count ls name)

-- each name is that of a pointer into local memory, and none stands twice
abbrev pub are_locals : List Parameter → List heads.LocalCount → Bool
are_locals ps [] = true
are_locals ps (l ∷ ls) = is_one ps l.name ls && are_locals ps ls

abbrev pub as_count : heads.LocalCount → LocalCount
as_count l = record { name = l.name; count = l.count }
