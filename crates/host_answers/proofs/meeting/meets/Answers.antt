use Rattle.std.proofs.Common.{◌≡◌, Ok, refl}
use Rattle.host_answers.specs.Options.{devices_by, is_held}
use Rattle.host_answers.specs.declared.answer.Answer.{Answer}
use Rattle.host_answers.proofs.Telling.{met, unmet}
use Rattle.host_answers.proofs.meeting.meets.Goals as goal

pub returns-in-Ok-allowed-clause-met : goal.returns-in-Ok-allowed-clause-met
returns-in-Ok-allowed-clause-met c = λ zero.
    met (devices_by c.args.options) c.args.kernel.now c.args.conditions.now c.args.range.now c.args.arguments.now (is_held c.args.options) c.in-Ok.reading
    (Ok c.in-Ok-allowed.field-0) c.in-Ok.ensures.read c.in-Ok-allowed.ensures refl

pub returns-clause-unmet : goal.returns-clause-unmet
returns-clause-unmet c = λ some.
    let e = c.in-Err-allowed.refusal in
    let a : Answer = record { number = e.number; column = 0; place = e.place } in
    unmet (devices_by c.args.options) c.args.kernel.now c.args.conditions.now c.args.range.now c.args.arguments.now (is_held c.args.options) c.in-Ok.reading e a
    c.in-Ok.ensures.read c.in-Err-allowed.ensures (record { number = refl; place = refl; column = refl })
