use Rattle.std.proofs.Common.{◌≡◌, ◌++◌, [], refl, ap, subst, ◌∙◌}
use Rattle.core_code.specs.View.{local_array, statements}
use Rattle.facts.proofs.Unmade.{passed}
use Rattle.obligations.specs.Crossings.{crossings, crossings_from, is_fenced}
use Rattle.obligations.specs.Fitting.{crossing_fits}
use Rattle.two_thread.specs.Paths.{all_accesses}
use Rattle.two_thread.specs.View.{met_accesses}
use Rattle.walk.specs.Cursors.{conditions_of, kernel_of, left_accesses}
use Rattle.entry_check.specs.Hand.{crossing_owed}
use Rattle.entry_check.specs.Pairs.{crossings_of_arrays}
use Rattle.entry_check.specs.Tallies.{Fails, Takes}
use Rattle.entry_check.specs.View.{said}
use Rattle.semantics.specs.Core.{Global, Local}
use Rattle.words.specs.View.{kind}
use Rattle.two_thread.proofs.ArrayLists.{space_is}
use Rattle.entry_check.proofs.Taking.{fails_front, fails_then, takes_front, takes_same, takes_then}
use Rattle.entry_check.proofs.Unshown.{mapped, ok_mapped}
use Rattle.entry_check.proofs.accesses.take_all_accesses.Goals as goal

pub returns-in_err-take_arrays-clause-fails : goal.returns-in_err-take_arrays-clause-fails
returns-in_err-take_arrays-clause-fails g c =
    let t = c.args.terrain.now in
    let k = kernel_of t in
    let cs = conditions_of t in
    let L = left_accesses g.D.Domain t c.args.behind.now in
    let us = met_accesses c.args.met.now ++ L in
    let whole = crossings k cs us in
    let one = crossings_of_arrays t c.is_fenced-global.result us Global 0 c.as_slice-buffers.result.now in
    let two = crossings_from k.sizes cs (is_fenced k.body) us Local 0 k.arrays in
    let d : one ≡ crossings_from k.sizes cs (is_fenced k.body) us Global 0 k.buffers = space_is k.sizes cs us kind c.is_fenced-global.result (is_fenced k.body) Global c.as_slice-buffers.result.now t.core.now.buffers.items c.as_slice-buffers.ensures.value (c.is_fenced-global.ensures ∙ ap (λ b. is_fenced (statements b) Global) c.as_slice-body.ensures.value) in
    let e : one ++ two ≡ whole = ap (λ l. l ++ two) d in
    let a = c.args.tally.now in
    let b = c.take_arrays.new.tally in
    let z = c.in_err-take_arrays.field-0.0 in
    passed c.from_residual.result z (Fails g.D.Domain t (said c.args.asked.now.said.now) (crossing_owed g.D.Domain c.args.asked.now.premises) crossing_fits whole a) c.from_residual.ensures.1
    (subst (λ l. Fails g.D.Domain t (said c.args.asked.now.said.now) (crossing_owed g.D.Domain c.args.asked.now.premises) crossing_fits l a z) e (fails_front (said c.args.asked.now.said.now) (crossing_owed g.D.Domain c.args.asked.now.premises) crossing_fits g.D.Domain t one two a z c.in_err-take_arrays.ensures.fails))

pub returns-clause-takes : goal.returns-clause-takes
returns-clause-takes g c =
    let t = c.args.terrain.now in
    let k = kernel_of t in
    let cs = conditions_of t in
    let L = left_accesses g.D.Domain t c.args.behind.now in
    let us = met_accesses c.args.met.now ++ L in
    let whole = crossings k cs us in
    let one = crossings_of_arrays t c.is_fenced-global.result us Global 0 c.as_slice-buffers.result.now in
    let two = crossings_from k.sizes cs (is_fenced k.body) us Local 0 k.arrays in
    let d : one ≡ crossings_from k.sizes cs (is_fenced k.body) us Global 0 k.buffers = space_is k.sizes cs us kind c.is_fenced-global.result (is_fenced k.body) Global c.as_slice-buffers.result.now t.core.now.buffers.items c.as_slice-buffers.ensures.value (c.is_fenced-global.ensures ∙ ap (λ b. is_fenced (statements b) Global) c.as_slice-body.ensures.value) in
    let e : one ++ two ≡ whole = ap (λ l. l ++ two) d in
    let a = c.args.tally.now in
    let b = c.take_arrays.new.tally in
    let same : (crossings_of_arrays t c.is_fenced-local.result ((met_accesses c.take_arrays.new.met) ++ L) Local 0 c.as_slice-arrays.result.now) ≡ two = ap (λ l. crossings_of_arrays t c.is_fenced-local.result (l ++ L) Local 0 c.as_slice-arrays.result.now) (ap all_accesses c.in_ok-take_arrays.ensures.held) ∙ space_is k.sizes cs us local_array c.is_fenced-local.result (is_fenced k.body) Local c.as_slice-arrays.result.now t.core.now.arrays.items c.as_slice-arrays.ensures.value (c.is_fenced-local.ensures ∙ ap (λ b. is_fenced (statements b) Local) c.as_slice-body.ensures.value) in
    let first = takes_same (said c.args.asked.now.said.now) (crossing_owed g.D.Domain c.args.asked.now.premises) crossing_fits (one ++ two) whole two two a b e refl (takes_front (said c.args.asked.now.said.now) (crossing_owed g.D.Domain c.args.asked.now.premises) crossing_fits one two a b c.in_ok-take_arrays.ensures.takes) in
    ok_mapped c.take_arrays-2.result _ _ (λ _ h. takes_then (said c.args.asked.now.said.now) (crossing_owed g.D.Domain c.args.asked.now.premises) crossing_fits whole two [] a b c.take_arrays-2.new.tally first (subst (λ l. Takes (said c.args.asked.now.said.now) (crossing_owed g.D.Domain c.args.asked.now.premises) crossing_fits l [] b c.take_arrays-2.new.tally) same h)) c.take_arrays-2.ensures.takes

pub returns-clause-fails : goal.returns-clause-fails
returns-clause-fails g c =
    let t = c.args.terrain.now in
    let k = kernel_of t in
    let cs = conditions_of t in
    let L = left_accesses g.D.Domain t c.args.behind.now in
    let us = met_accesses c.args.met.now ++ L in
    let whole = crossings k cs us in
    let one = crossings_of_arrays t c.is_fenced-global.result us Global 0 c.as_slice-buffers.result.now in
    let two = crossings_from k.sizes cs (is_fenced k.body) us Local 0 k.arrays in
    let d : one ≡ crossings_from k.sizes cs (is_fenced k.body) us Global 0 k.buffers = space_is k.sizes cs us kind c.is_fenced-global.result (is_fenced k.body) Global c.as_slice-buffers.result.now t.core.now.buffers.items c.as_slice-buffers.ensures.value (c.is_fenced-global.ensures ∙ ap (λ b. is_fenced (statements b) Global) c.as_slice-body.ensures.value) in
    let e : one ++ two ≡ whole = ap (λ l. l ++ two) d in
    let a = c.args.tally.now in
    let b = c.take_arrays.new.tally in
    let same : (crossings_of_arrays t c.is_fenced-local.result ((met_accesses c.take_arrays.new.met) ++ L) Local 0 c.as_slice-arrays.result.now) ≡ two = ap (λ l. crossings_of_arrays t c.is_fenced-local.result (l ++ L) Local 0 c.as_slice-arrays.result.now) (ap all_accesses c.in_ok-take_arrays.ensures.held) ∙ space_is k.sizes cs us local_array c.is_fenced-local.result (is_fenced k.body) Local c.as_slice-arrays.result.now t.core.now.arrays.items c.as_slice-arrays.ensures.value (c.is_fenced-local.ensures ∙ ap (λ b. is_fenced (statements b) Local) c.as_slice-body.ensures.value) in
    let first = takes_same (said c.args.asked.now.said.now) (crossing_owed g.D.Domain c.args.asked.now.premises) crossing_fits (one ++ two) whole two two a b e refl (takes_front (said c.args.asked.now.said.now) (crossing_owed g.D.Domain c.args.asked.now.premises) crossing_fits one two a b c.in_ok-take_arrays.ensures.takes) in
    mapped c.take_arrays-2.result _ _ (λ z h. fails_then (said c.args.asked.now.said.now) (crossing_owed g.D.Domain c.args.asked.now.premises) crossing_fits g.D.Domain t whole two a b z first (subst (λ l. Fails g.D.Domain t (said c.args.asked.now.said.now) (crossing_owed g.D.Domain c.args.asked.now.premises) crossing_fits l b z) same h)) c.take_arrays-2.ensures.fails
