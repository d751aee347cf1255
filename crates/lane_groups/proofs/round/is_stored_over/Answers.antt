use Rattle.std.proofs.Common.{◌++◌, sym, subst}
use Rattle.lane_groups.specs.Owns.{last_at}
use Rattle.lane_groups.specs.Stores.{LeaveSame}
use Rattle.lane_groups.specs.Strips.{strip_at}
use Rattle.lane_groups.proofs.round.is_stored_over.Goals as goal

pub returns-in-Some : goal.returns-in-Some
returns-in-Some c = λ e k l.
    let next = strip_at c.args.next.now k in
    subst (λ o. LeaveSame (last_at o k ++ next) next) (sym c.in-Some.is) (c.is_under.ensures e k l)
