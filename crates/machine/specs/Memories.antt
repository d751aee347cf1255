-- Memory of the code as that of the definitions.
use Rattle.std.specs.Prelude.{◌≡◌, ◌<◌, ℕ, zero, suc, ℤ, pos, List, [], map, length, replicate, slice_index_or}
use Rattle.semantics.specs.Setup.{Setup, group_count}
use Rattle.semantics.specs.Memory as meaning
use Rattle.write_log.specs.Written.{words_of}
use Rattle.machine.specs.declared.memory.Memory.{Memory}

-- the arrays of an owner: 0 is the launch, 1 + g the group g
abbrev pub arrays_in : List (List ℤ) → List (List (List ℤ)) → ℕ → List (List ℤ)
arrays_in buffers groups zero = buffers
arrays_in buffers groups (suc g) = slice_index_or groups g []

abbrev pub arrays_of : Memory → ℕ → List (List ℤ)
arrays_of m = arrays_in (words_of m.buffers) (map words_of m.groups.items)

-- what there is past the end of an owner's arrays
abbrev pub past_of : ℕ → ℕ → ℤ
past_of fill zero = pos 0
past_of fill (suc g) = pos fill

abbrev pub element_or : List (List ℤ) → (array index : ℕ) → ℤ → ℤ
element_or rows a k past = slice_index_or (slice_index_or rows a []) k past

abbrev pub memory : Memory → meaning.Memory
memory m c = element_or (arrays_of m c.owner) c.array c.index (past_of m.fill c.owner)

-- the element is one of an array
abbrev pub Inside : Memory → meaning.Cell → Type 0
Inside m c = c.index < length (slice_index_or (arrays_of m c.owner) c.array [])

-- how many elements each array has: of the launch, and of each group
abbrev pub group_shapes : Memory → List (List ℕ)
group_shapes m = map (λ b. map length (words_of b)) m.groups.items

-- as at this launch
pub record HasShape (s : Setup) (m : Memory) : Type 0 where
  pub buffers : map length (words_of m.buffers) ≡ map length s.launch.buffers
  pub groups : group_shapes m ≡ replicate (group_count s) (map (λ a. a.length) s.kernel.arrays)
  pub fill : m.fill ≡ s.launch.fill
