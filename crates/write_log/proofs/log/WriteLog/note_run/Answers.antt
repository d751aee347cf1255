use Rattle.std.proofs.Common.{◌∙◌, ap, length}
use Rattle.std.proofs.lemmas.Result.{on_ok_weaker}
use Rattle.write_log.specs.Elements.{entries_in, found, read_words}
use Rattle.write_log.proofs.RisingRuns.{run_found}
use Rattle.write_log.proofs.log.WriteLog.note_run.Goals as goal

pub returns-then-ends_below : goal.returns-then-ends_below
returns-then-ends_below c =
    let log = c.args.self.now in
    let es = entries_in log.list.stretches.items log.list.bits.items in
    let ws = read_words c.args.kind c.args.bits.now in
    let n = length c.args.bits.now in
    rw c.if-self.true (on_ok_weaker c.push_run.result (λ e b i. ap (λ fs. found fs b i) e
    ∙ run_found es c.args.buffer c.args.first ws log.list.laid.rising (c.ends_below.ensures c.if-ends_below.true) n b i) c.push_run.ensures)
