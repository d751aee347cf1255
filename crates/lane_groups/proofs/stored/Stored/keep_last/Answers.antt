use Rattle.std.proofs.Common.{ap, sym, length}
use Rattle.semantics.specs.Rounds.{log_of}
use Rattle.lane_groups.specs.Earlier.{kept}
use Rattle.lane_groups.specs.Owns.{last_at}
use Rattle.lane_groups.proofs.Lying.{none_in_order}
use Rattle.lane_groups.proofs.stored.Stored.keep_last.Goals as goal

pub returns-in-None : goal.returns-in-None
returns-in-None c = λ at.
    sym (ap (λ xs. log_of xs at (kept c.args.overlay.now at)) (none_in_order (last_at c.args.self.now.last) (λ k. ap (λ x. last_at x k) c.in-None.is) (length c.args.self.now.own.items)))
