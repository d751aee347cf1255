use Rattle.std.proofs.Common.{◌≡◌, ◌++◌, true, drop}
use Rattle.linear.specs.Exact.{without, fits_terms}
use Rattle.linear.specs.Terms.{terms}
use Rattle.linear.proofs.merge.without_symbol.Given as goal

abbrev pub invariant-loop-t : goal.invariant-loop-t
invariant-loop-t l = record {
  same : terms l.out.terms.items ++ without l.symbol.number (terms (drop l.t-index l.a)) ≡ without l.symbol.number (terms l.a);
  fits : fits_terms (terms l.out.terms.items) ≡ true;
}
