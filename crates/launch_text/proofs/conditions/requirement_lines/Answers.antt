use Rattle.std.proofs.Common.{rules, ◌-◌, map, List, ap, sym, ◌∙◌}
use Rattle.std.specs.Prelude.{codes}
use Rattle.std.proofs.lemmas.List.{map_push}
use Rattle.launch_text.specs.LaunchWords.{several}
use Rattle.launch_text.specs.ConditionsReading as meaning
use Rattle.syntax.specs.View.{parameter}
use Rattle.launch_text.specs.Answers.{cursor}
use Rattle.launch_text.specs.View as view
use Rattle.launch_text.proofs.Several.{several_over, several_spent, several_due}
use Rattle.launch_text.proofs.conditions.requirement_lines.Goals as goal

pub returns-then-room-eq0 : goal.returns-then-room-eq0
returns-then-room-eq0 c =
    let own = meaning.requirement_line c.args.has_products (map parameter c.args.parameters.now) in
    rw (c.lines.invariant ∙ several_spent (codes "require") own c.lines.room (view.requirements c.lines.requirements) (cursor c.lines.rest) (sym c.lines-test.ensures) c.if-room-eq0.true) (search rules)

pub returns-in_err-requirement : goal.returns-in_err-requirement
returns-in_err-requirement c =
    let own = meaning.requirement_line c.args.has_products (map parameter c.args.parameters.now) in
    rw (c.lines.invariant ∙ several_due (codes "require") own c.lines.room (view.requirements c.lines.requirements) (cursor c.lines.rest) (sym c.lines-test.ensures) c.if-room-eq0.false) (search rules)

pub lines-preserved : goal.lines-preserved
lines-preserved c =
    let own = meaning.requirement_line c.args.has_products (map parameter c.args.parameters.now) in
    c.lines.invariant ∙ several_due (codes "require") own c.lines.room (view.requirements c.lines.requirements) (cursor c.lines.rest) (sym c.lines-test.ensures) c.if-room-eq0.false
    ∙ rw c.in_ok-requirement.ensures (ap (λ (rs : List meaning.Requirement). several (codes "require") own (c.lines.room - 1) rs (cursor c.in_ok-requirement.after)) (sym (ap (map view.requirement) c.in_ok-push.ensures.items ∙ map_push view.requirement c.lines.requirements.items c.in_ok-requirement.requirement)))

pub returns : goal.returns
returns c =
    let own = meaning.requirement_line c.args.has_products (map parameter c.args.parameters.now) in
    c.lines.invariant ∙ several_over (codes "require") own c.lines.room (view.requirements c.lines.requirements) (cursor c.lines.rest) (sym c.lines-test.ensures)
