use Rattle.reduction.proofs.Whole.{headline_lem}
use Rattle.samples.specs.OneStore.{one_store}
use Rattle.samples.proofs.Store.{one_store-filled, one_store-pair_safe}
use Rattle.samples.proofs.one_store.one_store_is_safe.Goals as goal

pub returns : goal.returns
returns c = λ size groups a full room. headline_lem (one_store size groups a) 1 (one_store-filled size groups a full room) (one_store-pair_safe size groups a full room)
