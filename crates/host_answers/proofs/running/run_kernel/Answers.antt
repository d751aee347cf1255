use Rattle.std.proofs.Common.{subst}
use Rattle.host_answers.specs.Putting.{IsPut}
use Rattle.host_answers.proofs.running.run_kernel.Goals as goal

pub returns-in-Ok-clause-ran : goal.returns-in-Ok-clause-ran
returns-in-Ok-clause-ran c = λ _.
    (c.in-Ok.text.items, c.in-Ok.ensures.ran, subst (λ text. IsPut text c.args.room.now c.put.new.room c.put.result) c.deref.ensures.value c.put.ensures)
