use Rattle.std.proofs.Common.{◌≤◌, []}
use Rattle.core_code.specs.View.{kernel}
use Rattle.launch.specs.View.{conditions}
use Rattle.certificate.specs.EntryCursors.{left}
use Rattle.obligations.specs.View.{seen}
use Rattle.entry_check.specs.Lacking.{steps_of}
use Rattle.cert_check.proofs.Unshown.{all_is_shown, few_steps}
use Rattle.cert_check.proofs.showing.show_noted.Goals as goal

pub returns-clause-shown : goal.returns-clause-shown
returns-clause-shown c =
    let k = kernel c.args.core.now in
    let n = seen c.args.said.now.notes.now [] in
    let few : steps_of k n ≤ c.args.conditions.now.budget = few_steps c.args.conditions.now.budget (steps_of k n) c.is_over.result (c.is_over.ensures []) c.if-is_over.false in
    all_is_shown k (conditions c.args.conditions.now) n (left c.args.entries.now).entries (c.requires.items []) (c.noted_rankings_are_limits.ensures.limits []) c.in_ok-show_all.ensures.shown few
