-- Past a barrier.
use Rattle.std.proofs.Common.{◌≡◌, ◌+◌, List, [], ◌∷◌, refl, arith, ap, ◌∙◌}
use Rattle.semantics.specs.Item.{Entry, Item, Ended, local_flag, global_flag, status_of}
use Rattle.semantics.specs.Ask.{Waits, passes}
use Rattle.work_item.specs.Left.{behind, front_flag}

pub passed : (it : Item) (left : List Entry) → passes it left ≡ Waits (record { left = behind left; variables = it.variables; answers = []; local_epoch = it.local_epoch + front_flag local_flag left; global_epoch = it.global_epoch + front_flag global_flag left; steps = it.steps; status = status_of (behind left) })
passed it [] = ap (λ n. Waits (record { left = []; variables = it.variables; answers = []; local_epoch = n; global_epoch = it.global_epoch; steps = it.steps; status = Ended })) (omega arith)
    ∙ ap (λ n. Waits (record { left = []; variables = it.variables; answers = []; local_epoch = it.local_epoch + 0; global_epoch = n; steps = it.steps; status = Ended })) (omega arith)
passed it (e ∷ rest) = refl
