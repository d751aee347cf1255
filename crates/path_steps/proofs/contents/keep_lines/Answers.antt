use Rattle.std.proofs.Common.{ap, ◌∙◌}
use Rattle.words.specs.View.{kind}
use Rattle.core_code.specs.View.{site}
use Rattle.facts.proofs.Unmade.{handed}
use Rattle.walk_trees.specs.Contents.{of_buffer}
use Rattle.path_steps.specs.Paths.{with_spot}
use Rattle.path_steps.specs.View.{followed, value, setting as seen}
use Rattle.path_steps.proofs.Lines.{keep_steps, keep_stops}
use Rattle.path_steps.proofs.contents.keep_lines.Goals as goal

pub returns : goal.returns
returns g c =
    let s = seen g.D.Domain c.args.setting.now in
    keep_steps s (of_buffer c.args.buffer s.contents) (kind c.args.kind) (site c.args.site) (value c.args.value) (followed c.args.path.now) (followed c.stand.new.self) (followed c.brought.new.path) (followed c.claim_contents.new.path) (value c.in_ok-kept.kept) c.claim_contents.result (c.stand.ensures ∙ ap (with_spot (followed c.args.path.now)) c.spot_at-place.ensures) c.in_ok-kept.ensures c.claim_contents.ensures

pub returns-in_err-kept : goal.returns-in_err-kept
returns-in_err-kept g c =
    let s = seen g.D.Domain c.args.setting.now in
    let k = keep_stops s (of_buffer c.args.buffer s.contents) (kind c.args.kind) (site c.args.site) (value c.args.value) (followed c.args.path.now) (followed c.stand.new.self) c.in_err-kept.field-0.0 (c.stand.ensures ∙ ap (with_spot (followed c.args.path.now)) c.spot_at-place.ensures) c.in_err-kept.ensures in
    handed c.from_residual.result c.in_err-kept.field-0.0 _ _ c.from_residual.ensures k
