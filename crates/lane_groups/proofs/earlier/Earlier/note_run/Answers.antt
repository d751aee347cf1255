use Rattle.std.proofs.Common.{◌∙◌, ap, length}
use Rattle.std.proofs.lemmas.Result.{on_ok_weaker}
use Rattle.write_log.specs.Elements.{read_words}
use Rattle.lane_groups.specs.Earlier.{or_else, in_rows}
use Rattle.lane_groups.specs.Overlays.{kept}
use Rattle.lane_groups.proofs.Lying.{laid_under, no_rows}
use Rattle.lane_groups.proofs.earlier.Earlier.note_run.Goals as goal

pub returns : goal.returns
returns c =
    let old = c.args.self.now in
    let ws = read_words c.args.kind c.args.bits.now in
    let n = length c.args.bits.now in
    on_ok_weaker c.note_run.result (λ h at. ap (or_else (in_rows old at)) (h at) ∙ laid_under c.args.buffer c.args.first ws n at (in_rows old at) (kept old.others at) (no_rows old at)) c.note_run.ensures
