use Rattle.std.proofs.Common.{rules, ◌-◌, map, List, ap, sym, ◌∙◌}
use Rattle.std.specs.Prelude.{codes}
use Rattle.std.proofs.lemmas.List.{map_push}
use Rattle.launch_text.specs.LaunchWords.{several}
use Rattle.launch_text.specs.ConditionsReading as meaning
use Rattle.syntax.specs.View.{parameter}
use Rattle.launch_text.specs.Answers.{cursor}
use Rattle.launch_text.specs.View as view
use Rattle.launch_text.proofs.Several.{several_over, several_spent, several_due}
use Rattle.launch_text.proofs.contents.several_lines.Goals as goal

pub returns-then-room-eq0 : goal.returns-then-room-eq0
returns-then-room-eq0 c =
    let own = meaning.content_line (map parameter c.args.parameters.now) in
    rw (c.lines.invariant ∙ several_spent (codes "values") own c.lines.room (view.contents c.lines.contents) (cursor c.lines.rest) (sym c.lines-test.ensures) c.if-room-eq0.true) (search rules)

pub returns-in_err-content : goal.returns-in_err-content
returns-in_err-content c =
    let own = meaning.content_line (map parameter c.args.parameters.now) in
    rw (c.lines.invariant ∙ several_due (codes "values") own c.lines.room (view.contents c.lines.contents) (cursor c.lines.rest) (sym c.lines-test.ensures) c.if-room-eq0.false) (search rules)

pub lines-preserved : goal.lines-preserved
lines-preserved c =
    let own = meaning.content_line (map parameter c.args.parameters.now) in
    c.lines.invariant ∙ several_due (codes "values") own c.lines.room (view.contents c.lines.contents) (cursor c.lines.rest) (sym c.lines-test.ensures) c.if-room-eq0.false
    ∙ rw c.in_ok-content.ensures (ap (λ (rs : List meaning.ContentLine). several (codes "values") own (c.lines.room - 1) rs (cursor c.in_ok-content.after)) (sym (ap (map view.content) c.in_ok-push.ensures.items ∙ map_push view.content c.lines.contents.items c.in_ok-content.content)))

pub returns : goal.returns
returns c =
    let own = meaning.content_line (map parameter c.args.parameters.now) in
    c.lines.invariant ∙ several_over (codes "values") own c.lines.room (view.contents c.lines.contents) (cursor c.lines.rest) (sym c.lines-test.ensures)
