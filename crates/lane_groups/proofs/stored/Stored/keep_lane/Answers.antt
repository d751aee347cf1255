use Rattle.std.proofs.Common.{◌∙◌, sym, ap, List}
use Rattle.std.specs.Prelude.{ℤ}
use Rattle.semantics.specs.Memory.{Cell}
use Rattle.semantics.specs.Rounds.{log_of}
use Rattle.lane_groups.specs.Earlier.{kept}
use Rattle.lane_groups.specs.Owns.{own_in, last_at}
use Rattle.lane_groups.proofs.Order.{log_append}
use Rattle.lane_groups.proofs.stored.Stored.keep_lane.Goals as goal

pub returns : goal.returns
returns c = λ at.
    let o = c.args.self.now in
    let n = c.args.lane in
    c.in_ok-note_some.ensures at
    ∙ ap (λ (xs : List (Cell × ℤ)). log_of xs at (kept c.keep_own.new.overlay at)) c.last_store.ensures
    ∙ ap (log_of (last_at o.last n) at) (c.in_ok-keep_own.ensures at)
    ∙ sym (log_append (own_in o.own.items n) (last_at o.last n) at (kept c.args.overlay.now at))
