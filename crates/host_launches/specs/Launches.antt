-- The launches that a host's numbers are, and what is asked of these numbers. A buffer is known by its bytes alone.
use Rattle.std.specs.Prelude.{◌≡◌, ◌≢◌, ◌≤◌, ◌<◌, ◌*◌, ◌/◌, ◌^◌, ℕ, List, [], ◌∷◌, ◌++◌, length, map, true}
use Rattle.std.specs.List.{All, AllZip}
use Rattle.semantics.specs.Word.{in_kind}
use Rattle.semantics.specs.Launch.{Kernel, Launch, Fits, IsCount}
use Rattle.semantics.specs.Conditions.{Conditions, Meets, IsHeld}
use Rattle.host_launches.specs.declared.given.Argument.{Argument}
use Rattle.host_launches.specs.declared.given.Range.{Range}
use Rattle.host_launches.specs.declared.shapes.Shape.{Shape}
use Rattle.host_launches.specs.declared.shapes.Shape.TheVariants.{Value, Buffer, Local}
use Rattle.host_launches.specs.declared.sizes.Along.{Along}
use Rattle.host_launches.specs.Shapes.{size_of, bytes_of}
use Rattle.host_launches.specs.Sizes.{first, second, third}
use Rattle.host_launches.specs.Numbers.{has_word, words_of, lengths_of}

-- groups times work-items are the global size; the words are those of the values; the lengths are bytes by the size of a component; what
-- buffers hold is of their kinds
pub record IsLaunchOf (k : Kernel) (ss : List Shape) (r : Range) (gs : List Argument) (l : Launch) : Type 0 where
  pub x : l.groups.x * k.sizes.x ≡ (first r).global
  pub y : l.groups.y * k.sizes.y ≡ (second r).global
  pub z : l.groups.z * k.sizes.z ≡ (third r).global
  pub arguments : l.arguments ≡ words_of ss gs
  pub lengths : map (λ b. length b) l.buffers ≡ lengths_of ss gs
  pub kinds : AllZip (λ n b. All (λ z. in_kind n z ≡ true) b) k.buffers l.buffers
  pub fill : l.fill < 2 ^ 31

-- there is no offset, and the global size is whole groups of the kernel's size
pub record AreWholeGroups (size : ℕ) (a : Along) : Type 0 where
  pub offset : a.offset ≡ 0
  pub local : a.local ≡ size
  pub groups : (n : ℕ) × IsCount n × (n * size ≡ a.global)

abbrev pub IsArgumentOf : Shape → Argument → Type 0
IsArgumentOf (Value e) a = (a.kind ≡ 0) × (a.bytes ≡ bytes_of e.scalar e.width) × (has_word e.scalar a.words ≡ true)
IsArgumentOf (Buffer e) a = (a.kind ≡ 1) × (a.memory ≢ 0) × (a.bytes / size_of e.scalar ≤ 4294967295)
IsArgumentOf (Local e count) a = (a.kind ≡ 2) × (count * bytes_of e.scalar e.width ≤ a.bytes)

-- two arguments are not buffers in one memory
abbrev pub AreOther : Argument → Argument → Type 0
AreOther a b = a.kind ≡ 1 → b.kind ≡ 1 → a.memory ≢ b.memory

-- each is other than all in front of it
abbrev pub AreApartBehind : (earlier : List Argument) → List Argument → Type 0
AreApartBehind es [] = Unit {0}
AreApartBehind es (a ∷ gs) = All (λ e. AreOther e a) es × AreApartBehind (es ++ a ∷ []) gs

abbrev pub AreApart : List Argument → Type 0
AreApart gs = AreApartBehind [] gs

-- the numbers are those of a launch of the kernel
pub record Suits (k : Kernel) (ss : List Shape) (r : Range) (gs : List Argument) : Type 0 where
  pub dimensions : (1 ≤ r.dimensions) × (r.dimensions ≤ 3)
  pub x : AreWholeGroups k.sizes.x (first r)
  pub y : AreWholeGroups k.sizes.y (second r)
  pub z : AreWholeGroups k.sizes.z (third r)
  pub arguments : AllZip IsArgumentOf ss gs
  pub apart : AreApart gs

-- each launch of these numbers whose buffers hold what the lines say is one of the kernel, and meets the conditions
abbrev pub AllMeet : Kernel → List Shape → Conditions → Range → List Argument → Type 0
AllMeet k ss c r gs = (l : Launch) → IsLaunchOf k ss r gs l → All (IsHeld l) c.contents → Fits k l × Meets c l
