use Rattle.entry_check.proofs.Flagging.{none_set}
use Rattle.entry_check.proofs.flags.no_flags.Goals as goal

pub returns : goal.returns
returns c = none_set c.in_ok-flags.flags.items (c.in_ok-flags.ensures.items_if_clones_equal (λ y h. h))
