use Rattle.std.proofs.Common.{refl, length}
use Rattle.std.proofs.lemmas.Result.{on_ok_weaker}
use Rattle.write_log.specs.Elements.{read_words}
use Rattle.lane_groups.proofs.Lying.{laid_kept}
use Rattle.lane_groups.proofs.overlay.Overlay.note_run.Goals as goal

pub returns : goal.returns
returns c =
    let old = c.args.self.now in
    on_ok_weaker c.note_run.result (λ h at. laid_kept old (record { buffers = c.note_run.new.self; locals = old.locals }) c.args.buffer c.args.first (read_words c.args.kind c.args.bits.now) (length c.args.bits.now) h (λ g a k. refl) at) c.note_run.ensures
