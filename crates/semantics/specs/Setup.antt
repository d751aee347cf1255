-- A kernel at a launch: its work-items and work-groups, their ids and their order (OpenCL 1.2, 3.2 and 6.12.1).
use Rattle.std.specs.Prelude.{ℕ, zero, suc, ◌+◌, ◌*◌, ◌/◌, ◌%◌, ◌<◌}
use Rattle.semantics.specs.Word.{Width, Exact}
use Rattle.semantics.specs.Core.{Function, GlobalId, LocalId, GroupId, GlobalSize, LocalSize, NumGroups}
use Rattle.semantics.specs.Launch.{Three, product, Kernel, Launch}

pub record Setup : Type 0 where
  pub kernel : Kernel
  pub launch : Launch
  pub width : Width

-- a kernel at a launch, where sizes are exact
abbrev pub at_launch : Kernel → Launch → Setup
at_launch k l = record { kernel = k; launch = l; width = Exact }

-- the same kernel and launch on another device
abbrev pub on_device : Width → Setup → Setup
on_device w s = record { kernel = s.kernel; launch = s.launch; width = w }

-- a dimension's number; past the third dimension a default
abbrev pub along : Three ℕ → ℕ → ℕ → ℕ
along t zero past = t.x
along t (suc zero) past = t.y
along t (suc (suc zero)) past = t.z
along t (suc (suc (suc d))) past = past

-- the n-th place among counts, the first dimension running fastest (ours), and the number of a place
abbrev pub place : Three ℕ → ℕ → Three ℕ
place t n = record { x = n % t.x; y = n / t.x % t.y; z = n / (t.x * t.y) }

abbrev pub number_of : Three ℕ → Three ℕ → ℕ
number_of t p = p.x + t.x * (p.y + t.y * p.z)

abbrev pub IsPlace : Three ℕ → Three ℕ → Type 0
IsPlace t p = (p.x < t.x) × (p.y < t.y) × (p.z < t.z)

unfoldable pub group_size : Setup → ℕ
group_size s = product s.kernel.sizes

unfoldable pub group_count : Setup → ℕ
group_count s = product s.launch.groups

-- items go by their numbers: those of the first group, then those of the second, and so on
abbrev pub item_count : Setup → ℕ
item_count s = group_count s * group_size s

abbrev pub group_of : Setup → ℕ → ℕ
group_of s i = i / group_size s

-- the k-th item of a group
abbrev pub member : Setup → ℕ → ℕ → ℕ
member s g k = g * group_size s + k

abbrev pub local_id : Setup → ℕ → ℕ → ℕ
local_id s i d = along (place s.kernel.sizes (i % group_size s)) d 0

abbrev pub group_id : Setup → ℕ → ℕ → ℕ
group_id s i d = along (place s.launch.groups (group_of s i)) d 0

-- what a work-item function gives at a dimension (6.12.1; no offset)
abbrev pub identity : Setup → ℕ → Function → ℕ → ℕ
identity s i GlobalId d = group_id s i d * along s.kernel.sizes d 1 + local_id s i d
identity s i LocalId d = local_id s i d
identity s i GroupId d = group_id s i d
identity s i GlobalSize d = along s.launch.groups d 1 * along s.kernel.sizes d 1
identity s i LocalSize d = along s.kernel.sizes d 1
identity s i NumGroups d = along s.launch.groups d 1
