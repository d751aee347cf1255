use Rattle.std.proofs.Common.{arith, ◌≡◌, ◌<◌, length, ap, subst, sym, ◌∙◌}
use Rattle.obligations.specs.Meetings.{is_rest}
use Rattle.two_thread.specs.View.{met_accesses, met_ends}
use Rattle.two_thread.proofs.Nth.{length_met}
use Rattle.two_thread.proofs.NthEnd.{length_met_ends}
use Rattle.entry_check.specs.Rows.{held_has_pairs, held_rows}
use Rattle.entry_check.proofs.paired.has_pairs_at.Goals as goal

pub stop_of-requires : goal.stop_of-requires
stop_of-requires g c =
    let h : c.args.i < length (met_ends c.args.met.now) = subst (λ k. c.args.i < length (held_rows k c.args.met.now)) c.in-Ends.is c.requires in
    omega (arith, h, length_met_ends c.args.met.now)

pub is_of-requires : goal.is_of-requires
is_of-requires g c =
    let h : c.args.i < length (met_accesses c.args.met.now) = subst (λ k. c.args.i < length (held_rows k c.args.met.now)) c.in-Accesses.is c.requires in
    omega (arith, h, length_met c.args.met.now)

pub returns-in-Ends : goal.returns-in-Ends
returns-in-Ends g c = subst (λ k. c.is_rest.result ≡ held_has_pairs k c.args.met.now c.args.i) (sym c.in-Ends.is) (c.is_rest.ensures ∙ ap is_rest c.stop_of.ensures)

pub returns-in-Accesses : goal.returns-in-Accesses
returns-in-Accesses g c = subst (λ k. c.is_of.result ≡ held_has_pairs k c.args.met.now c.args.i) (sym c.in-Accesses.is) c.is_of.ensures
