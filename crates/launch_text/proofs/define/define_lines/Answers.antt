use Rattle.std.proofs.Common.{ℕ, rules, ◌-◌, map, List, ap, sym, ◌∙◌}
use Rattle.std.specs.Prelude.{codes}
use Rattle.std.proofs.lemmas.List.{map_push}
use Rattle.launch_text.specs.LaunchWords.{several}
use Rattle.launch_text.specs.HeadReading.{define_line}
use Rattle.launch_text.specs.Answers.{bytes, cursor}
use Rattle.launch_text.specs.View as view
use Rattle.launch_text.proofs.Several.{several_over, several_spent, several_due}
use Rattle.launch_text.proofs.define.define_lines.Goals as goal

pub returns-then-room-eq0 : goal.returns-then-room-eq0
returns-then-room-eq0 c =
    rw (c.lines.invariant ∙ several_spent (codes "define") define_line c.lines.room (view.defines c.lines.defines) (cursor c.lines.rest) (sym c.lines-test.ensures) c.if-room-eq0.true) (search rules)

pub returns-in_err-define : goal.returns-in_err-define
returns-in_err-define c =
    rw (c.lines.invariant ∙ several_due (codes "define") define_line c.lines.room (view.defines c.lines.defines) (cursor c.lines.rest) (sym c.lines-test.ensures) c.if-room-eq0.false) (search rules)

pub lines-preserved : goal.lines-preserved
lines-preserved c =
    c.lines.invariant ∙ several_due (codes "define") define_line c.lines.room (view.defines c.lines.defines) (cursor c.lines.rest) (sym c.lines-test.ensures) c.if-room-eq0.false
    ∙ rw c.in_ok-define.ensures (ap (λ (ls : List (List ℕ)). several (codes "define") define_line (c.lines.room - 1) ls (cursor c.in_ok-define.after)) (sym (ap (map bytes) c.in_ok-push.ensures.items ∙ map_push bytes c.lines.defines.items c.in_ok-define.define)))

pub returns : goal.returns
returns c = c.lines.invariant ∙ several_over (codes "define") define_line c.lines.room (view.defines c.lines.defines) (cursor c.lines.rest) (sym c.lines-test.ensures)
