use Rattle.std.proofs.Common.{◌≡◌, ◌++◌, true, drop}
use Rattle.linear.specs.Exact.{all_divide, quotients, fits_terms}
use Rattle.linear.specs.Terms.{terms}
use Rattle.linear.proofs.merge.divide_terms.Given as goal

abbrev pub invariant-loop-t : goal.invariant-loop-t
invariant-loop-t l = record {
  same : terms l.out.terms.items ++ quotients l.divisor (terms (drop l.t-index l.a)) ≡ quotients l.divisor (terms l.a);
  divide : all_divide l.divisor (terms l.a) ≡ all_divide l.divisor (terms (drop l.t-index l.a));
  fits : fits_terms (terms l.out.terms.items) ≡ true;
}
