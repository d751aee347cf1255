use Rattle.shown_kernels.proofs.Noted.{noted_turns, noted_are_limits}
use Rattle.shown_kernels.proofs.ranked.noted_rankings_have_their_turns.Goals as goal

pub returns-clause-turns : goal.returns-clause-turns
returns-clause-turns c = noted_turns

pub returns-clause-limits : goal.returns-clause-limits
returns-clause-limits c = noted_are_limits
