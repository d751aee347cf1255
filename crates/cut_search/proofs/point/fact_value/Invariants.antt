use Rattle.std.proofs.Common.{◌≡◌, ◌+ℤ◌, drop}
use Rattle.linear.specs.Linear.{terms_value, value_of}
use Rattle.linear.specs.Terms.{terms}
use Rattle.linear.specs.Forms.{form}
use Rattle.cut_search.specs.Answers.{value_at}
use Rattle.cut_search.proofs.point.fact_value.Given as goal

abbrev pub invariant-loop-term : goal.invariant-loop-term
invariant-loop-term l = l.partial.sum +ℤ terms_value (value_at l.point) (terms (drop l.term-index l.term-items)) ≡ value_of (value_at l.point) (form l.fact)
