-- Global and local memory, element by element (OpenCL 1.2, 3.3).
use Rattle.std.specs.Prelude.{ℕ, zero, suc, ◌+◌, ℤ, pos, [], slice_index_or, Bool, cond, length, nat_eq, ◌&&◌}
use Rattle.semantics.specs.Word.{Kind, Int}
use Rattle.semantics.specs.Core.{Array, Space, Global, Local}
use Rattle.semantics.specs.Launch.{LocalArray}
use Rattle.semantics.specs.Setup.{Setup, group_of}

-- an element: owner 0 is the launch, whose arrays are the buffers; owner 1 + g is the group g with its own local arrays
pub record Cell : Type 0 where
  pub owner : ℕ
  pub array : ℕ
  pub index : ℕ

abbrev pub owner_of : Setup → ℕ → Space → ℕ
owner_of s i Global = 0
owner_of s i Local = 1 + group_of s i

-- an item's element of an array
abbrev pub cell : Setup → ℕ → Array → ℕ → Cell
cell s i a k = record { owner = owner_of s i a.space; array = a.number; index = k }

abbrev pub no_array : LocalArray
no_array = record { kind = Int; length = 0 }

-- how many elements an array has
abbrev pub extent_in : Setup → Space → ℕ → ℕ
extent_in s Global a = length (slice_index_or s.launch.buffers a [])
extent_in s Local a = (slice_index_or s.kernel.arrays a no_array).length

abbrev pub extent : Setup → Array → ℕ
extent s a = extent_in s a.space a.number

-- the kind of an array's elements
abbrev pub element_kind_in : Setup → Space → ℕ → Kind
element_kind_in s Global a = slice_index_or s.kernel.buffers a Int
element_kind_in s Local a = (slice_index_or s.kernel.arrays a no_array).kind

abbrev pub element_kind : Setup → Array → Kind
element_kind s a = element_kind_in s a.space a.number

-- the kind of an owner's array
abbrev pub kind_in : Setup → ℕ → ℕ → Kind
kind_in s zero a = slice_index_or s.kernel.buffers a Int
kind_in s (suc g) a = (slice_index_or s.kernel.arrays a no_array).kind

abbrev pub kind_at : Setup → Cell → Kind
kind_at s c = kind_in s c.owner c.array

-- memory gives each element its number
abbrev pub Memory : Type 0
Memory = Cell → ℤ

-- buffers begin as the launch has them, local arrays with the fill word in each element (ours)
abbrev pub opening_at : Setup → ℕ → ℕ → ℕ → ℤ
opening_at s zero a k = slice_index_or (slice_index_or s.launch.buffers a []) k (pos 0)
opening_at s (suc g) a k = pos s.launch.fill

abbrev pub opening_memory : Setup → Memory
opening_memory s c = opening_at s c.owner c.array c.index

abbrev pub same_cell : Cell → Cell → Bool
same_cell c d = nat_eq c.owner d.owner && (nat_eq c.array d.array && nat_eq c.index d.index)

unfoldable pub put : Cell → ℤ → Memory → Memory
put c v m d = cond (same_cell d c) v (m d)
