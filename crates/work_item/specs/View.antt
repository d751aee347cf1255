-- A work-item of the code, and what it evaluates, as the definitions have them.
use Rattle.std.specs.Prelude.{◌≡◌, ◌≤◌, ◌+◌, ◌*◌, ℕ, map, Result, Ok, Err}
use Rattle.semantics.specs.Core as core
use Rattle.semantics.specs.Launch.{Three}
use Rattle.semantics.specs.Setup as setup
use Rattle.semantics.specs.Setup.{Setup, at_launch}
use Rattle.semantics.specs.Evaluation.{Outcome, Gives, Needs, Faults}
use Rattle.words.specs.View.{word, fault}
use Rattle.core_code.specs.View.{kernel, array, site}
use Rattle.core_code.specs.declared.tree.Core.{Core}
use Rattle.launch.specs.View.{launch}
use Rattle.launch.specs.declared.launches.Launch.{Launch}
use Rattle.work_item.specs.declared.dimension.Dimension.{Dimension}
use Rattle.work_item.specs.declared.evaluation.Identity.{Identity}
use Rattle.work_item.specs.declared.evaluation.Value.{Value}
use Rattle.work_item.specs.declared.evaluation.Stop.{Stop}
use Rattle.work_item.specs.declared.evaluation.Stop.TheVariants as stops

abbrev pub setup_of : Core → Launch → Setup
setup_of c l = at_launch (kernel c) (launch l)

-- an item's ids along a dimension, with the sizes there
pub record Ids : Type 0 where
  pub local : ℕ
  pub group : ℕ
  pub size : ℕ
  pub count : ℕ

abbrev pub ids : Dimension → Ids
ids d = record { local = d.local; group = d.group; size = d.size; count = d.count }

abbrev pub id_by : Ids → core.Function → ℕ
id_by a core.GlobalId = a.group * a.size + a.local
id_by a core.LocalId = a.local
id_by a core.GroupId = a.group
id_by a core.GlobalSize = a.count * a.size
id_by a core.LocalSize = a.size
id_by a core.NumGroups = a.count

abbrev pub ids_of : Setup → ℕ → ℕ → Ids
ids_of s i d = record { local = setup.local_id s i d; group = setup.group_id s i d; size = setup.along s.kernel.sizes d 1; count = setup.along s.launch.groups d 1 }

-- no more than there may be of groups in each dimension
abbrev pub AreFew : Three ℕ → Type 0
AreFew t = (t.x ≤ 65536) × (t.y ≤ 65536) × (t.z ≤ 65536)

abbrev pub setup_at : Identity → Setup
setup_at it = setup_of it.core.now it.launch.now

-- the code's item is the i-th one
pub record IsItem (it : Identity) (i : ℕ) : Type 0 where
  pub x : ids it.x ≡ ids_of (setup_at it) i 0
  pub y : ids it.y ≡ ids_of (setup_at it) i 1
  pub z : ids it.z ≡ ids_of (setup_at it) i 2
  pub group : it.group ≡ setup.group_of (setup_at it) i

-- a value with the answers that were not used, the first load that has none, or a fault
abbrev pub outcome : Result Value Stop → Outcome
outcome (Ok v) = Gives (word v.word) (map word v.rest.now)
outcome (Err (stops.Needs a index s)) = Needs (array a) index (site s)
outcome (Err (stops.Faults f s)) = Faults (fault f) (site s)
