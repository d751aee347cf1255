use Rattle.std.proofs.Common.{◌∙◌, ap, cond}
use Rattle.std.specs.Prelude.{Some}
use Rattle.std.specs.BTreeMap.{is_at}
use Rattle.write_log.specs.Elements.{entries_in}
use Rattle.write_log.specs.Written.{by_element}
use Rattle.write_log.proofs.RisingEntries.{found-updated}
use Rattle.write_log.proofs.log.map_with.Goals as goal

pub returns : goal.returns
returns c =
    found-updated (entries_in c.args.list.now.stretches.items c.args.list.now.bits.items) c.insert.new.self.entries c.args.at c.args.word
    (λ q. c.in_ok-insert.ensures.updates.0 q ∙ ap (λ o. cond (is_at (by_element c.args.at) q) (Some c.args.word) o) (c.in_ok-map.ensures q))
