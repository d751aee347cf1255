-- The buffers of a launch, as lists of numbers, with which its runs end, and the kinds of their words.
use Rattle.std.specs.Prelude.{◌≡◌, ◌<◌, ℕ, ℤ, pos, List, [], length, map, slice_index_or, Some}
use Rattle.std.specs.List.{All, AllZip}
use Rattle.semantics.specs.Word.{Kind, Word}
use Rattle.semantics.specs.Setup.{Setup}
use Rattle.semantics.specs.Memory.{Memory, Cell}
use Rattle.semantics.specs.World.{World, Event, opening_world, run}
use Rattle.semantics.specs.Headline.{IsOver}
use Rattle.semantics.specs.Rounds.{result_by_rounds}

-- an element of a buffer, which belongs to no group
abbrev pub buffer_cell : (buffer index : ℕ) → Cell
buffer_cell buffer index = record { owner = 0; array = buffer; index = index }

abbrev pub element : List (List ℤ) → (buffer index : ℕ) → ℤ
element b buffer index = slice_index_or (slice_index_or b buffer []) index (pos 0)

-- buffers as long as the launch's, with the numbers that a memory has
pub record HasBuffers (s : Setup) (m : Memory) (b : List (List ℤ)) : Type 0 where
  pub lengths : map length b ≡ map length s.launch.buffers
  pub elements : (buffer index : ℕ) → index < length (slice_index_or s.launch.buffers buffer []) → element b buffer index ≡ m (buffer_cell buffer index)

-- the result by rounds
abbrev pub IsResultOf : Setup → ℕ → List (List ℤ) → Type 0
IsResultOf s bound b = HasBuffers s (result_by_rounds s bound) b

-- what each run of the launch that is over ends with
abbrev pub EndsEvery : Setup → List (List ℤ) → Type 0
EndsEvery s b = (es : List Event) (w : World) → run s es (opening_world s) ≡ Some w → IsOver s w → HasBuffers s w.memory b

abbrev pub HasKind : Kind → List Word → Type 0
HasKind k ws = All (λ (w : Word). w.kind ≡ k) ws

-- as many buffers as kinds, and in each words of its kind
abbrev pub HaveKinds : List Kind → List (List Word) → Type 0
HaveKinds ks bs = AllZip HasKind ks bs
