-- The walk of a place, as the definitions have it.
use Rattle.domain.specs.declared.Domain.{Ghosts}
use Rattle.core_code.specs.View.{kernel}
use Rattle.path_steps.specs.View.{setting}
use Rattle.obligations.specs.View.{seen}
use Rattle.obligations.specs.Walking.{Placed}
use Rattle.arrival_claims.specs.declared.placing.Placing.{Placing}

unfoldable pub placed : {E : Type 0} → Ghosts E → Placing E → Placed E
placed g w = record { setting = setting g w.setting.now; kernel = kernel w.core.now; notes = seen w.notes.now w.setting.now.entries.items; anchor = w.anchor; head = w.head }
