use Rattle.std.proofs.Common.{◌≤◌, ◌<◌, ◌⊎◌, ◌∷◌, length, get_or, inl, inr, arith, rules}
use Rattle.std.proofs.lemmas.List.{take_rest}
use Rattle.std.proofs.lemmas.Int.{to_z-of_z}
use Rattle.linear.specs.Exact.{put}
use Rattle.linear.specs.Terms.{term, terms}
use Rattle.linear.proofs.Lists.{no_term, taken, unfit_both, unfit_right, merge_left, merge_both, merge_right, merged_rest, fits_rest}
use Rattle.linear.proofs.merge.combine_terms.Goals as goal
use Rattle.linear.proofs.merge.combine_terms.Goals.{else-i-a-via-then-i-a+else-a-i, else-i-a-via-else-i-a, else-i-a-2-via-then-i-a-2+else-a-i-2, else-i-a-2-via-else-i-a-2}

pub loop-j-preserved-then-a-i : goal.loop-j-preserved-then-a-i
loop-j-preserved-then-a-i c =
    let fk = c.ranges.k in
    let e = simp to_z-of_z at c.loop-j.invariant.same in
    let m = merge_left c.args.k c.args.a.now c.args.b.now c.loop-j.i c.loop-j.j c.requires.right c.if-i-a.true c.loop-j-test.true c.if-a-i.true in
    record {
      left = omega arith;
      right = c.loop-j.invariant.right;
      same = simp to_z-of_z (taken (λ ts. term (get_or c.args.a.now c.loop-j.i no_term) ∷ ts) (terms c.loop-j.out.terms.items) (terms c.keep.new.out.terms.items) _ _ _ c.in_ok-keep.ensures.kept m e);
      fits = c.in_ok-keep.ensures.fits c.loop-j.invariant.fits;
    }

pub loop-j-preserved-then-a-i-2 : goal.loop-j-preserved-then-a-i-2
loop-j-preserved-then-a-i-2 c =
    let fk = c.ranges.k in
    let e = simp to_z-of_z at c.loop-j.invariant.same in
    let k = simp to_z-of_z at c.in_ok-keep_sum.ensures.kept in
    let m = merge_both c.args.k c.args.a.now c.args.b.now c.loop-j.i c.loop-j.j c.requires.left c.requires.right c.if-i-a-2.true c.loop-j-test.true c.if-a-i-2.true in
    record {
      left = omega arith;
      right = omega arith;
      same = simp to_z-of_z (taken (put _ _) (terms c.loop-j.out.terms.items) (terms c.keep_sum.new.out.terms.items) _ _ _ k m e);
      fits = c.in_ok-keep_sum.ensures.fits c.loop-j.invariant.fits;
    }

pub returns-in_err-keep_sum-clause-too_large : goal.returns-in_err-keep_sum-clause-too_large
returns-in_err-keep_sum-clause-too_large c =
    let fk = c.ranges.k in
    let e = simp to_z-of_z at c.loop-j.invariant.same in
    λ h. unfit_both c.args.k c.args.a.now c.args.b.now c.loop-j.i c.loop-j.j c.requires.left c.requires.right c.if-i-a-2.true c.loop-j-test.true c.if-a-i-2.true (terms c.loop-j.out.terms.items) _ e (simp to_z-of_z at (c.in_err-keep_sum.ensures.too_large (search rules)))

pub loop-j-preserved : goal.loop-j-preserved
loop-j-preserved c =
    let fk = c.ranges.k in
    let e = simp to_z-of_z at c.loop-j.invariant.same in
    let k = simp to_z-of_z at c.in_ok-keep_multiple.ensures.kept in
    let h : (length c.args.a.now ≤ c.loop-j.i) ⊎ ((get_or c.args.b.now c.loop-j.j no_term).symbol.number < (get_or c.args.a.now c.loop-j.i no_term).symbol.number) =
    elim c.else-i-a-2.branch as (λ _. (length c.args.a.now ≤ c.loop-j.i) ⊎ ((get_or c.args.b.now c.loop-j.j no_term).symbol.number < (get_or c.args.a.now c.loop-j.i no_term).symbol.number)) [
      | else-i-a-2-via-else-i-a-2 w ↦ inl (omega arith)
      | else-i-a-2-via-then-i-a-2+else-a-i-2 w ↦ elim c.else-i-a.branch as (λ _. (length c.args.a.now ≤ c.loop-j.i) ⊎ ((get_or c.args.b.now c.loop-j.j no_term).symbol.number < (get_or c.args.a.now c.loop-j.i no_term).symbol.number)) [
        | else-i-a-via-else-i-a u ↦ inl (omega arith)
        | else-i-a-via-then-i-a+else-a-i u ↦ inr (omega arith)
      ]
    ] in
    let m = merge_right c.args.k c.args.a.now c.args.b.now c.loop-j.i c.loop-j.j c.loop-j-test.true h in
    record {
      left = c.loop-j.invariant.left;
      right = omega arith;
      same = simp to_z-of_z (taken (put _ _) (terms c.loop-j.out.terms.items) (terms c.keep_multiple.new.out.terms.items) _ _ _ k m e);
      fits = c.in_ok-keep_multiple.ensures.fits c.loop-j.invariant.fits;
    }

pub returns-in_err-keep_multiple-clause-too_large : goal.returns-in_err-keep_multiple-clause-too_large
returns-in_err-keep_multiple-clause-too_large c =
    let fk = c.ranges.k in
    let e = simp to_z-of_z at c.loop-j.invariant.same in
    let h : (length c.args.a.now ≤ c.loop-j.i) ⊎ ((get_or c.args.b.now c.loop-j.j no_term).symbol.number < (get_or c.args.a.now c.loop-j.i no_term).symbol.number) =
    elim c.else-i-a-2.branch as (λ _. (length c.args.a.now ≤ c.loop-j.i) ⊎ ((get_or c.args.b.now c.loop-j.j no_term).symbol.number < (get_or c.args.a.now c.loop-j.i no_term).symbol.number)) [
      | else-i-a-2-via-else-i-a-2 w ↦ inl (omega arith)
      | else-i-a-2-via-then-i-a-2+else-a-i-2 w ↦ elim c.else-i-a.branch as (λ _. (length c.args.a.now ≤ c.loop-j.i) ⊎ ((get_or c.args.b.now c.loop-j.j no_term).symbol.number < (get_or c.args.a.now c.loop-j.i no_term).symbol.number)) [
        | else-i-a-via-else-i-a u ↦ inl (omega arith)
        | else-i-a-via-then-i-a+else-a-i u ↦ inr (omega arith)
      ]
    ] in
    λ u. unfit_right c.args.k c.args.a.now c.args.b.now c.loop-j.i c.loop-j.j c.loop-j-test.true h (terms c.loop-j.out.terms.items) _ e (simp to_z-of_z at (c.in_err-keep_multiple.ensures.too_large (search rules)))

pub returns-clause-exact : goal.returns-clause-exact
returns-clause-exact c =
    let fk = c.ranges.k in
    let e = simp to_z-of_z at c.loop-j.invariant.same in
    merged_rest c.args.k c.loop-j.out.terms.items _ c.args.a.now c.args.b.now c.loop-j.i c.loop-j.j _ (rw take_rest at c.in_ok-extend_from_slice.ensures) c.loop-j-test.false e

pub returns-clause-fits : goal.returns-clause-fits
returns-clause-fits c = fits_rest c.loop-j.out.terms.items _ c.args.a.now c.loop-j.i (rw take_rest at c.in_ok-extend_from_slice.ensures) c.loop-j.invariant.fits c.requires.left_fits
