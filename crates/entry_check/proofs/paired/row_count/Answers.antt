use Rattle.std.proofs.Common.{◌≡◌, length, subst, sym}
use Rattle.entry_check.specs.Rows.{held_rows}
use Rattle.entry_check.proofs.paired.row_count.Goals as goal

pub returns-in-Ends : goal.returns-in-Ends
returns-in-Ends g c = subst (λ k. c.end_count.result ≡ length (held_rows k c.args.met.now)) (sym c.in-Ends.is) c.end_count.ensures.seen

pub returns-in-Accesses : goal.returns-in-Accesses
returns-in-Accesses g c = subst (λ k. c.access_count.result ≡ length (held_rows k c.args.met.now)) (sym c.in-Accesses.is) c.access_count.ensures.seen
