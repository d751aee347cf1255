use Rattle.std.proofs.Common.{[], subst}
use Rattle.std.specs.Prelude.{IfOk, IfErr}
use Rattle.std.specs.List.{All}
use Rattle.certificate.specs.EntryCursors.{left}
use Rattle.core_code.specs.View.{kernel}
use Rattle.launch.specs.View.{conditions}
use Rattle.walk_trees.specs.Shown.{IsShownWithProducts}
use Rattle.obligations.specs.View.{seen}
use Rattle.entry_check.specs.Lacking.{PassesOf, TellsOwing, owing}
use Rattle.entry_check.specs.View.{stated}
use Rattle.entry_check.proofs.all.show_all.Goals as goal

pub returns-clause-shown : goal.returns-clause-shown
returns-clause-shown g c =
    let t = c.in_ok-terrain.terrain in
    let e = c.in_ok-terrain.ensures in
    let es = (left c.args.entries.now).entries in
    let n = seen c.args.said.now.notes.now [] in
    subst (λ x. IfOk c.show_on.result (λ _. All IsShownWithProducts (owing g.D.Domain (kernel x) (conditions c.args.conditions.now) n es))) e.kernel
    (subst (λ y. IfOk c.show_on.result (λ _. All IsShownWithProducts (owing g.D.Domain (kernel t.core.now) (conditions y) n es))) e.conditions c.show_on.ensures.shown)

pub returns-clause-passed : goal.returns-clause-passed
returns-clause-passed g c =
    let t = c.in_ok-terrain.terrain in
    let e = c.in_ok-terrain.ensures in
    let es = (left c.args.entries.now).entries in
    let n = seen c.args.said.now.notes.now [] in
    let m = stated c.args.said.now.names in
    subst (λ x. IfOk c.show_on.result (λ _. PassesOf g.D.Domain (kernel x) (conditions c.args.conditions.now) m n es)) e.kernel
    (subst (λ y. IfOk c.show_on.result (λ _. PassesOf g.D.Domain (kernel t.core.now) (conditions y) m n es)) e.conditions c.show_on.ensures.passed)

pub returns-clause-lacks : goal.returns-clause-lacks
returns-clause-lacks g c =
    let t = c.in_ok-terrain.terrain in
    let e = c.in_ok-terrain.ensures in
    let es = (left c.args.entries.now).entries in
    let n = seen c.args.said.now.notes.now [] in
    let m = stated c.args.said.now.names in
    subst (λ x. IfErr c.show_on.result (TellsOwing g.D.Domain (kernel x) (conditions c.args.conditions.now) m n es)) e.kernel
    (subst (λ y. IfErr c.show_on.result (TellsOwing g.D.Domain (kernel t.core.now) (conditions y) m n es)) e.conditions c.show_on.ensures.lacks)
