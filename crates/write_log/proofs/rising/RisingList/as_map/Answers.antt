use Rattle.std.proofs.Common.{◌∙◌}
use Rattle.std.specs.BTreeMap.{IsFromIterResult}
use Rattle.std.proofs.lemmas.Result.{IfOk-weaker}
use Rattle.write_log.specs.Elements.{by_element, entries_in}
use Rattle.write_log.proofs.RisingEntries.{put-in_turn}
use Rattle.write_log.proofs.rising.RisingList.as_map.Goals as goal

pub returns : goal.returns
returns c =
    let list = c.args.self.now in
    let es = entries_in list.stretches.items list.bits.items in
    IfOk-weaker c.map_of.result (IsFromIterResult by_element es) _
    (λ map h q. h.0 q ∙ put-in_turn es list.laid.rising q)
    (rw (← (c.as_slice.ensures.value ∙ c.in_ok-records.ensures)) c.map_of.ensures)
