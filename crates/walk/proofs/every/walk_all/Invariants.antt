use Rattle.std.proofs.Common.{map, drop}
use Rattle.core_code.specs.View.{kernel}
use Rattle.path_steps.specs.View.{setting}
use Rattle.obligations.specs.View.{seen}
use Rattle.places.specs.View.{place}
use Rattle.walk.specs.Planting.{all_by}
use Rattle.walk.specs.Walks.{Walks}
use Rattle.walk.proofs.every.walk_all.Given as goal

abbrev pub invariant-loop-place : goal.invariant-loop-place
invariant-loop-place g l = Walks l.all.items (all_by g.D.Domain (setting g.D.Domain l.setting) (kernel l.core) (seen l.notes l.setting.entries.items) 0 (map place l.places)) (all_by g.D.Domain (setting g.D.Domain l.setting) (kernel l.core) (seen l.notes l.setting.entries.items) l.claims (map place (drop l.place-index l.places)))
