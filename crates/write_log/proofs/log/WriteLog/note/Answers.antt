use Rattle.std.proofs.Common.{◌≡◌, true, false, rules}
use Rattle.std.proofs.lemmas.Result.{on_ok_weaker}
use Rattle.write_log.specs.Elements.{entries_in}
use Rattle.write_log.proofs.RisingEntries.{found-updated, found-pushed}
use Rattle.write_log.proofs.log.WriteLog.note.Goals as goal

pub returns-then-not-self : goal.returns-then-not-self
returns-then-not-self c =
    let log = c.args.self.now in
    let falls : log.rises ≡ false = search rules in
    rw falls (found-updated log.map.entries c.insert.new.self.entries (c.args.buffer, c.args.index) c.args.word c.in_ok-insert.ensures.updates.0)

pub returns-then-ends_below : goal.returns-then-ends_below
returns-then-ends_below c =
    let log = c.args.self.now in
    let list = c.push.new.self in
    let rises : log.rises ≡ true = search rules in
    rw rises (on_ok_weaker c.push.result (found-pushed (entries_in log.list.stretches.items log.list.bits.items) (entries_in list.stretches.items list.bits.items) (c.args.buffer, c.args.index) c.args.word log.list.laid.rising (c.ends_below.ensures c.if-ends_below.true)) c.push.ensures)
