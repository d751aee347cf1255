use Rattle.std.proofs.Common.{refl, subst}
use Rattle.std.specs.Prelude.{Some}
use Rattle.telling.specs.Migrating.{Migrates}
use Rattle.program.specs.Running.{Does}
use Rattle.program.specs.Verdicts.{Tells, Moved}
use Rattle.program.proofs.Verdicts.{moves, follows}
use Rattle.program.proofs.one_run.migrated.Goals as goal

pub returns-clause-verdict : goal.returns-clause-verdict
returns-clause-verdict g c = λ ws command first second.
    let text = c.in_ok-text.text.items in
    let before = c.args.files.now in
    let next = c.text_of.new.files in
    let after = c.kept.new.files in
    let o = c.args.old.now in
    let n = c.args.new.now in
    follows c.kept.result (Moved g.F.Files.contents next after (Some n) text) (Tells (Does g.F.Files.contents g.F.Files.gives before after) ws)
    (λ v h. moves g.F.Files.contents g.F.Files.gives before next after ws o n text v (command, first, second) (next, c.in_ok-text.ensures.given, c.in_ok-text.ensures.text, refl) h)
    (c.kept.ensures.moved text (subst (λ t. Migrates c.migrate_text-sought.result t) c.deref.ensures.value c.migrate_text-sought.ensures))
