use Rattle.std.proofs.Common.{sym}
use Rattle.arrival_claims.proofs.EachSlot.{many_terms}
use Rattle.arrival_claims.proofs.slots.is_argument_term.Goals as goal

pub returns-in-len2-up : goal.returns-in-len2-up
returns-in-len2-up c = sym (many_terms c.args.slot c.args.terms.now c.in-len2-up.len_at_least)
