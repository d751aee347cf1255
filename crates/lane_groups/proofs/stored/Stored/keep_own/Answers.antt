use Rattle.std.proofs.Common.{◌∙◌, [], map, sym, ap, List}
use Rattle.std.specs.Prelude.{ℤ}
use Rattle.semantics.specs.Memory.{Cell}
use Rattle.semantics.specs.Rounds.{log_of}
use Rattle.lane_groups.specs.Earlier.{kept}
use Rattle.lane_groups.specs.Owns.{stores}
use Rattle.lane_groups.specs.Stores.{store}
use Rattle.lane_groups.proofs.Rows.{got_seen}
use Rattle.lane_groups.proofs.stored.Stored.keep_own.Goals as goal

pub returns-then-not-self : goal.returns-then-not-self
returns-then-not-self c = λ at. ap (λ (xs : List (Cell × ℤ)). log_of xs at (kept c.args.overlay.now at)) (sym (c.args.self.now.spilled c.if-not-self.true c.args.lane))

pub returns : goal.returns
returns c = λ at.
    let xs = c.args.self.now.own.items in
    let n = c.args.lane in
    let before = kept c.args.overlay.now at in
    c.in_ok-note_all.ensures at
    ∙ ap (λ ys. log_of (map store ys) at before) c.as_slice.ensures.value
    ∙ ap (λ (ys : List (Cell × ℤ)). log_of ys at before) (got_seen stores xs n c.index.result.now [] c.requires c.index.ensures)
