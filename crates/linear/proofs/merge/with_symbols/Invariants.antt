use Rattle.std.proofs.Common.{◌≡◌, ◌++◌, true, drop}
use Rattle.linear.specs.Exact.{over, fits_terms}
use Rattle.linear.specs.Terms.{terms, numbers}
use Rattle.linear.proofs.merge.with_symbols.Given as goal

abbrev pub invariant-loop-i : goal.invariant-loop-i
invariant-loop-i l = record {
  same : terms l.out.terms.items ++ over (numbers (drop l.i l.symbols)) (terms (drop l.i l.a)) ≡ over (numbers l.symbols) (terms l.a);
  fits : fits_terms (terms l.out.terms.items) ≡ true;
}
