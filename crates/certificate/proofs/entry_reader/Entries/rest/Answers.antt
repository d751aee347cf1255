use Rattle.std.proofs.Common.{List, map, ap, sym, ◌∙◌}
use Rattle.certificate.specs.declared.tree.Entry.{Entry}
use Rattle.certificate.specs.EntriesLeft.{with_first}
use Rattle.certificate.specs.EntryAnswers.{Ceases}
use Rattle.certificate.specs.EntryCursors.{left}
use Rattle.certificate.specs.View.{entry}
use Rattle.certificate.proofs.EntriesGathered.{gave, gave_none, one_given, fewer_left, all_given, given_refused, handed_on}
use Rattle.certificate.proofs.entry_reader.Entries.rest.Goals as goal

pub returns-in_err-entry-clause-refused : goal.returns-in_err-entry-clause-refused
returns-in_err-entry-clause-refused c =
    let e = c.in_err-entry.field-0.0 in
    handed_on c.from_residual.result e (λ x. Ceases x (left c.args.self.now)) c.from_residual.ensures
    (given_refused e (left c.args.self.now) (left c.loop-entries.self) (map entry c.loop-entries.entries.items) c.loop-entries.invariant.left (c.in_err-entry.ensures.next c.loop-entries.invariant.starts).0)

pub loop-entries-smaller : goal.loop-entries-smaller
loop-entries-smaller c =
    let a = gave c.loop-entries.self c.next.new.self c.in_ok-entry.field-0 c.in-Some.entry c.in-Some.is (c.in_ok-entry.ensures.next c.loop-entries.invariant.starts) in
    fewer_left (left c.loop-entries.self) (left c.next.new.self) (entry c.in-Some.entry) a.0

pub loop-entries-preserved : goal.loop-entries-preserved
loop-entries-preserved c =
    let a = gave c.loop-entries.self c.next.new.self c.in_ok-entry.field-0 c.in-Some.entry c.in-Some.is (c.in_ok-entry.ensures.next c.loop-entries.invariant.starts) in
    record {
      starts = a.1;
      front = c.in_ok-entry.ensures.front ∙ c.loop-entries.invariant.front;
      left = one_given entry (left c.args.self.now) (left c.loop-entries.self) (left c.next.new.self) c.loop-entries.entries.items c.in-Some.entry c.loop-entries.invariant.left a.0
          ∙ ap (λ (es : List Entry). with_first (map entry es) (left c.next.new.self)) (sym c.in_ok-push.ensures.items);
    }

pub returns-clause-all : goal.returns-clause-all
returns-clause-all c =
    all_given (left c.args.self.now) (left c.loop-entries.self) (map entry c.loop-entries.entries.items) c.loop-entries.invariant.left
    (gave_none c.loop-entries.self c.next.new.self c.in_ok-entry.field-0 c.in_default.is (c.in_ok-entry.ensures.next c.loop-entries.invariant.starts))
