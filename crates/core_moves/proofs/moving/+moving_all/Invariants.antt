use Rattle.std.proofs.Common.{◌≡◌, drop}
use Rattle.core_code.specs.View.{statements}
use Rattle.core_moves.specs.Moving.{moved_behind}
use Rattle.core_moves.specs.View.{move}
use Rattle.core_moves.proofs.moving.+moving_all.Given as goal

abbrev pub invariant-push_moved-loop-statement : goal.invariant-push_moved-loop-statement
invariant-push_moved-loop-statement l =
    moved_behind (move l.by) (statements l.all.items) (statements (drop l.statement-index l.of)) ≡ moved_behind (move l.by) (statements l.initial.all.items) (statements l.of)
