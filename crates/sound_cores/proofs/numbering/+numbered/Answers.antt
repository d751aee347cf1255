use Rattle.std.proofs.Common.{ap, ◌∙◌, arith}
use Rattle.std.proofs.lemmas.Grind.{common_steps}
use Rattle.core_code.specs.View.{statement}
use Rattle.core_code.proofs.Rows.{seen_if, seen_loop}
use Rattle.sound_cores.proofs.numbering.+numbered.Goals as goal

pub numbered-returns-in_err-between-in-If : goal.numbered-returns-in_err-between-in-If
numbered-returns-in_err-between-in-If t c =
    rw (ap statement c.in-If.is ∙ seen_if c.in-If.number c.in-If.test c.in-If.taken c.in-If.skipped) (grind (arith, common_steps))

pub numbered-returns-in_err-between-in-Loop : goal.numbered-returns-in_err-between-in-Loop
numbered-returns-in_err-between-in-Loop t c =
    rw (ap statement c.in-Loop.is ∙ seen_loop c.in-Loop.number c.in-Loop.test c.in-Loop.body c.in-Loop.update) (grind (arith, common_steps))

pub numbered-returns-in_ok-between-in-If : goal.numbered-returns-in_ok-between-in-If
numbered-returns-in_ok-between-in-If t c =
    rw (ap statement c.in-If.is ∙ seen_if c.in-If.number c.in-If.test c.in-If.taken c.in-If.skipped) (grind (arith, common_steps))

pub numbered-returns-in_ok-between-in-Loop : goal.numbered-returns-in_ok-between-in-Loop
numbered-returns-in_ok-between-in-Loop t c =
    rw (ap statement c.in-Loop.is ∙ seen_loop c.in-Loop.number c.in-Loop.test c.in-Loop.body c.in-Loop.update) (grind (arith, common_steps))
