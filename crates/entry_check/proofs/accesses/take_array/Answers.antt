use Rattle.std.proofs.Common.{◌≡◌, ◌++◌, [], refl, ap, sym, subst}
use Rattle.core_code.specs.View.{space}
use Rattle.facts.proofs.Unmade.{passed}
use Rattle.walk_trees.specs.Pairs.{Within, Across}
use Rattle.obligations.specs.Crossings.{array, crossings_in}
use Rattle.obligations.specs.Fitting.{crossing_fits}
use Rattle.two_thread.specs.Paths.{all_accesses}
use Rattle.two_thread.specs.View.{met_accesses}
use Rattle.walk.specs.Cursors.{conditions_of, kernel_of, left_accesses}
use Rattle.entry_check.specs.Hand.{crossing_owed}
use Rattle.entry_check.specs.Pairs.{crossings_of_array}
use Rattle.entry_check.specs.Tallies.{Fails, Takes}
use Rattle.entry_check.specs.View.{said}
use Rattle.entry_check.proofs.Holding.{of_begins, of_buffer, of_local}
use Rattle.entry_check.proofs.Taking.{fails_front, fails_then, takes_front, takes_same, takes_then}
use Rattle.entry_check.proofs.accesses.take_array.Goals as goal

pub returns-in_err-take_pairs-clause-fails : goal.returns-in_err-take_pairs-clause-fails
returns-in_err-take_pairs-clause-fails g c =
    let t = c.args.terrain.now in
    let us = met_accesses c.args.met.now ++ left_accesses g.D.Domain t c.args.behind.now in
    let sp = space c.args.space in
    let n = c.args.number in
    let whole = crossings_of_array t c.args.fenced us sp n in
    let one = crossings_in (kernel_of t).sizes (conditions_of t) c.args.fenced (array sp n) Within us in
    let two = crossings_in (kernel_of t).sizes (conditions_of t) c.args.fenced (array sp n) Across us in
    let a = c.args.tally.now in
    let b = c.take_pairs.new.tally in
    let z = c.in_err-take_pairs.field-0.0 in
    let m = of_begins (kernel_of t).sizes (conditions_of t) c.args.fenced us n sp in
    passed c.from_residual.result z (Fails g.D.Domain t (said c.args.asked.now.said.now) (crossing_owed g.D.Domain c.args.asked.now.premises) crossing_fits whole a) c.from_residual.ensures.1
    (subst (λ l. Fails g.D.Domain t (said c.args.asked.now.said.now) (crossing_owed g.D.Domain c.args.asked.now.premises) crossing_fits l a z) (sym m.1) (fails_front (said c.args.asked.now.said.now) (crossing_owed g.D.Domain c.args.asked.now.premises) crossing_fits g.D.Domain t one m.0 a z c.in_err-take_pairs.ensures.fails))

pub returns-in_err-take_pairs-2-clause-fails : goal.returns-in_err-take_pairs-2-clause-fails
returns-in_err-take_pairs-2-clause-fails g c =
    let t = c.args.terrain.now in
    let us = met_accesses c.args.met.now ++ left_accesses g.D.Domain t c.args.behind.now in
    let sp = space c.args.space in
    let n = c.args.number in
    let whole = crossings_of_array t c.args.fenced us sp n in
    let one = crossings_in (kernel_of t).sizes (conditions_of t) c.args.fenced (array sp n) Within us in
    let two = crossings_in (kernel_of t).sizes (conditions_of t) c.args.fenced (array sp n) Across us in
    let a = c.args.tally.now in
    let b = c.take_pairs.new.tally in
    let same : (crossings_in (kernel_of t).sizes (conditions_of t) c.args.fenced (array sp n) Across ((met_accesses c.take_pairs.new.met) ++ left_accesses g.D.Domain t c.args.behind.now)) ≡ two = ap (λ l. crossings_in (kernel_of t).sizes (conditions_of t) c.args.fenced (array sp n) Across (l ++ left_accesses g.D.Domain t c.args.behind.now)) (ap all_accesses c.in_ok-take_pairs.ensures.held) in
    let e : whole ≡ one ++ two = of_buffer (kernel_of t).sizes (conditions_of t) c.args.fenced us n c.args.space c.in-Global.is in
    let first = takes_same (said c.args.asked.now.said.now) (crossing_owed g.D.Domain c.args.asked.now.premises) crossing_fits (one ++ two) whole two two a b (sym e) refl (takes_front (said c.args.asked.now.said.now) (crossing_owed g.D.Domain c.args.asked.now.premises) crossing_fits one two a b c.in_ok-take_pairs.ensures.takes) in
    let z = c.in_err-take_pairs-2.field-0.0 in
    passed c.from_residual-in_err-take_pairs-2.result z (Fails g.D.Domain t (said c.args.asked.now.said.now) (crossing_owed g.D.Domain c.args.asked.now.premises) crossing_fits whole a) c.from_residual-in_err-take_pairs-2.ensures.1
    (fails_then (said c.args.asked.now.said.now) (crossing_owed g.D.Domain c.args.asked.now.premises) crossing_fits g.D.Domain t whole two a b z first (subst (λ l. Fails g.D.Domain t (said c.args.asked.now.said.now) (crossing_owed g.D.Domain c.args.asked.now.premises) crossing_fits l b z) same c.in_err-take_pairs-2.ensures.fails))

pub returns-in_ok-take_pairs-2-clause-takes : goal.returns-in_ok-take_pairs-2-clause-takes
returns-in_ok-take_pairs-2-clause-takes g c =
    let t = c.args.terrain.now in
    let us = met_accesses c.args.met.now ++ left_accesses g.D.Domain t c.args.behind.now in
    let sp = space c.args.space in
    let n = c.args.number in
    let whole = crossings_of_array t c.args.fenced us sp n in
    let one = crossings_in (kernel_of t).sizes (conditions_of t) c.args.fenced (array sp n) Within us in
    let two = crossings_in (kernel_of t).sizes (conditions_of t) c.args.fenced (array sp n) Across us in
    let a = c.args.tally.now in
    let b = c.take_pairs.new.tally in
    let same : (crossings_in (kernel_of t).sizes (conditions_of t) c.args.fenced (array sp n) Across ((met_accesses c.take_pairs.new.met) ++ left_accesses g.D.Domain t c.args.behind.now)) ≡ two = ap (λ l. crossings_in (kernel_of t).sizes (conditions_of t) c.args.fenced (array sp n) Across (l ++ left_accesses g.D.Domain t c.args.behind.now)) (ap all_accesses c.in_ok-take_pairs.ensures.held) in
    let e : whole ≡ one ++ two = of_buffer (kernel_of t).sizes (conditions_of t) c.args.fenced us n c.args.space c.in-Global.is in
    let first = takes_same (said c.args.asked.now.said.now) (crossing_owed g.D.Domain c.args.asked.now.premises) crossing_fits (one ++ two) whole two two a b (sym e) refl (takes_front (said c.args.asked.now.said.now) (crossing_owed g.D.Domain c.args.asked.now.premises) crossing_fits one two a b c.in_ok-take_pairs.ensures.takes) in
    let d = c.take_pairs-in-Global.new.tally in
    takes_then (said c.args.asked.now.said.now) (crossing_owed g.D.Domain c.args.asked.now.premises) crossing_fits whole two [] a b d first (subst (λ l. Takes (said c.args.asked.now.said.now) (crossing_owed g.D.Domain c.args.asked.now.premises) crossing_fits l [] b d) same c.in_ok-take_pairs-2.ensures.takes)

pub returns-in_default-clause-takes : goal.returns-in_default-clause-takes
returns-in_default-clause-takes g c =
    let t = c.args.terrain.now in
    let us = met_accesses c.args.met.now ++ left_accesses g.D.Domain t c.args.behind.now in
    let sp = space c.args.space in
    let n = c.args.number in
    let whole = crossings_of_array t c.args.fenced us sp n in
    let one = crossings_in (kernel_of t).sizes (conditions_of t) c.args.fenced (array sp n) Within us in
    let two = crossings_in (kernel_of t).sizes (conditions_of t) c.args.fenced (array sp n) Across us in
    let a = c.args.tally.now in
    let b = c.take_pairs.new.tally in
    let e : whole ≡ one = of_local (kernel_of t).sizes (conditions_of t) c.args.fenced us n c.args.space c.in_default.not-Global in
    takes_same (said c.args.asked.now.said.now) (crossing_owed g.D.Domain c.args.asked.now.premises) crossing_fits one whole [] [] a b (sym e) refl c.in_ok-take_pairs.ensures.takes
