use Rattle.std.proofs.Common.{[], ◌∷◌, ◌++◌}
use Rattle.certificate.specs.EntryCursors.{left}
use Rattle.certificate.specs.View.{entry}
use Rattle.certificate.proofs.EntriesGathered.{gave}
use Rattle.cert_check.proofs.Going.{one_over}
use Rattle.cert_check.proofs.first_pass.go_over.Goals as goal

pub loop-entry-preserved : goal.loop-entry-preserved
loop-entry-preserved c =
    let held = c.loop-entry.invariant in
    let e = entry c.in-Some.entry in
    let a = gave c.loop-entry.entries c.next.new.self c.in_ok-entry.field-0 c.in-Some.entry c.in-Some.is (c.in_ok-entry.ensures.next held.1) in (
      held.0 ++ e ∷ [],
      a.1,
      one_over (left c.args.entries.now) (left c.loop-entry.entries) (left c.next.new.self) held.0 e held.2 a.0,
      λ ps cert h. c.in_ok-add.ensures.notes ps cert held.0 (held.3 ps cert h),
      λ h. c.in_ok-add.ensures.flags held.0 (held.4 h),
    )
