use Rattle.std.proofs.Common.{ap, ◌∙◌, cond, Some}
use Rattle.std.specs.Option.{option_map}
use Rattle.words.specs.View.{value_of}
use Rattle.lane_groups.specs.Overlays.{local_at}
use Rattle.lane_groups.proofs.Overlays.{same_place, value_cond}
use Rattle.lane_groups.proofs.overlay.Overlay.note_local.Goals as goal

pub returns-clause-locals : goal.returns-clause-locals
returns-clause-locals c = λ g a k.
    ap (option_map value_of) (c.in_ok-insert.ensures.updates.0 (g, (a, k)))
    ∙ value_cond _ c.args.word _
    ∙ ap (λ t. cond t (Some (value_of c.args.word)) (local_at c.args.self.now g a k)) (same_place c.args.group c.args.array c.args.index g a k)
