use Rattle.std.specs.BTreeMap.{IsFromIterResult}
use Rattle.std.proofs.lemmas.Iterator.{YieldsList-from_slice}
use Rattle.std.proofs.lemmas.Iterator.Adapters.{fact_from_collect}
use Rattle.std.proofs.lemmas.Iterator.Consumers.{YieldsList-at, YieldsList-from_copied}
use Rattle.write_log.specs.Elements.{by_element}
use Rattle.write_log.proofs.rising.map_of.Goals as goal

pub returns : goal.returns
returns c =
    let all = YieldsList-from_copied (YieldsList-at c.copied.ensures.source (YieldsList-from_slice c.args.entries.now c.iter.ensures.rest)) in
    fact_from_collect (IsFromIterResult by_element) c.collect.result c.collect.ensures.ran all
