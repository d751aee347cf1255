use Rattle.std.proofs.Common.{rules, ◌<◌, ◌≤◌, sym, ◌∙◌, subst, length, refl}
use Rattle.semantics.specs.World.{Step}
use Rattle.machine.specs.Worlds.{setup, world, Answers}
use Rattle.machine.proofs.Moves.{not_there, no_move, move_answers}
use Rattle.machine.proofs.world.World.step.Goals as goal

pub returns-then-number-len-clause-answer : goal.returns-then-number-len-clause-answer
returns-then-number-len-clause-answer c =
    let w = c.args.self.now in
    let e = c.len.ensures ∙ w.items.ok.0 ∙ c.requires.sound.count in
    (not_there (setup w) (world w) c.args.number (subst (λ n. n ≤ c.args.number) e c.if-number-len.true), refl)

pub returns-then-not-is_move-clause-answer : goal.returns-then-not-is_move-clause-answer
returns-then-not-is_move-clause-answer c =
    let w = c.args.self.now in
    let l : c.args.number < length w.items.items = search rules in
    (no_move (setup w) (world w) c.args.number c.asked-asked.result (subst (λ n. c.args.number < n) c.requires.sound.count l) c.asked-asked.ensures.asked (sym c.is_move.ensures ∙ c.if-not-is_move.true), refl)

pub returns-clause-answer : goal.returns-clause-answer
returns-clause-answer c =
    let w = c.args.self.now in
    let l : c.args.number < length w.items.items = search rules in
    subst (Answers (setup w) (Step c.args.number) (world w) (world c.take_step.new.self)) (sym c.told.ensures)
    (move_answers (setup w) (world w) (world c.take_step.new.self) c.args.number c.asked-asked.result (subst (λ n. c.args.number < n) c.requires.sound.count l) c.asked-asked.ensures.asked
    (sym c.is_move.ensures ∙ c.if-not-is_move.false) c.in_ok-take_step.ensures.done)
