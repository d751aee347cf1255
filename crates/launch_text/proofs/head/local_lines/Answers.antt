use Rattle.std.proofs.Common.{rules, ◌-◌, map, List, ap, sym, ◌∙◌}
use Rattle.std.specs.Prelude.{codes}
use Rattle.std.proofs.lemmas.List.{map_push}
use Rattle.launch_text.specs.LaunchWords.{several}
use Rattle.launch_text.specs.HeadReading.{LocalCount, local_line}
use Rattle.launch_text.specs.Answers.{cursor}
use Rattle.launch_text.specs.View as view
use Rattle.launch_text.proofs.Several.{several_over, several_spent, several_due}
use Rattle.launch_text.proofs.head.local_lines.Goals as goal

pub returns-then-room-eq0 : goal.returns-then-room-eq0
returns-then-room-eq0 c =
    rw (c.lines.invariant ∙ several_spent (codes "local") local_line c.lines.room (view.locals c.lines.locals) (cursor c.lines.rest) (sym c.lines-test.ensures) c.if-room-eq0.true) (search rules)

pub returns-in_err-local : goal.returns-in_err-local
returns-in_err-local c =
    rw (c.lines.invariant ∙ several_due (codes "local") local_line c.lines.room (view.locals c.lines.locals) (cursor c.lines.rest) (sym c.lines-test.ensures) c.if-room-eq0.false) (search rules)

pub lines-preserved : goal.lines-preserved
lines-preserved c =
    c.lines.invariant ∙ several_due (codes "local") local_line c.lines.room (view.locals c.lines.locals) (cursor c.lines.rest) (sym c.lines-test.ensures) c.if-room-eq0.false
    ∙ rw c.in_ok-local.ensures (ap (λ (ls : List LocalCount). several (codes "local") local_line (c.lines.room - 1) ls (cursor c.in_ok-local.after)) (sym (ap (map view.local) c.in_ok-push.ensures.items ∙ map_push view.local c.lines.locals.items c.in_ok-local.local)))

pub returns : goal.returns
returns c = c.lines.invariant ∙ several_over (codes "local") local_line c.lines.room (view.locals c.lines.locals) (cursor c.lines.rest) (sym c.lines-test.ensures)
