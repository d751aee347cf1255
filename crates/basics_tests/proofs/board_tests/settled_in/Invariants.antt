use Rattle.board.specs.Calls.{IsSeatOf}
use Rattle.basics_tests.proofs.board_tests.settled_in.Given as goal

abbrev pub invariant-loop : goal.invariant-loop
invariant-loop l = IsSeatOf l.fn.board l.seat
