use Rattle.std.proofs.Common.{◌≡◌, ◌+◌, ◌-◌, ◌≤◌, ◌++◌, true, length, drop}
use Rattle.linear.specs.Exact.{merge, multiples, fits_terms}
use Rattle.linear.specs.Terms.{terms}
use Rattle.linear.proofs.merge.combine_terms.Given as goal

abbrev pub invariant-loop-j : goal.invariant-loop-j
invariant-loop-j l = record {
  left : l.i ≤ length l.a;
  right : l.j ≤ length l.b;
  same : terms l.out.terms.items ++ merge (terms (drop l.i l.a)) (multiples l.k (terms (drop l.j l.b))) ≡ merge (terms l.a) (multiples l.k (terms l.b));
  fits : fits_terms (terms l.out.terms.items) ≡ true;
}

abbrev pub decreases-loop-j : goal.decreases-loop-j
decreases-loop-j l = (length l.a - l.i) + (length l.b - l.j)
