use Rattle.std.proofs.Common.{◌≡◌, ◌<◌, ◌≤◌, ◌+◌, ◌∙◌, ap, arith}
use Rattle.semantics.specs.Rounds.{logged}
use Rattle.write_log.specs.Written.{words_of, element}
use Rattle.group_workers.specs.Writing.{HasLog}
use Rattle.group_workers.proofs.Logs.{logs-more}
use Rattle.group_workers.proofs.collector.Collected.write.Goals as goal

-- one log more
pub invariant_of-self : goal.invariant_of-self
invariant_of-self g c =
    let old = c.args.self.now in
    let log = c.args.log.now in
    let before = words_of old.buffers in
    let after = words_of c.apply.new.buffers in
    let same : log.group ≡ old.next = c.requires in
    let inside : log.group < g.J.Logged.count = log.inside in
    let few : old.next + 1 ≤ g.J.Logged.count = omega (arith, same, inside) in
    let one : HasLog (g.J.Logged.logs old.next) before after = record {
      lengths = c.apply.ensures.lengths;
      elements = λ b i l.
          c.apply.ensures.elements b i l
          ∙ ap (λ o. logged o (element before b i)) (log.right b i ∙ ap (λ n. g.J.Logged.logs n b i) same);
    } in record {
      first = logs-more g.J.Logged.logs old.next g.J.Logged.before before after old.first one;
      few = few;
    }
