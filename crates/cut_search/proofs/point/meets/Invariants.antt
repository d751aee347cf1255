use Rattle.std.proofs.Common.{drop}
use Rattle.std.specs.List.{All}
use Rattle.linear.specs.Linear.{IsMet}
use Rattle.linear.specs.Forms.{forms}
use Rattle.cut_search.specs.Answers.{value_at}
use Rattle.cut_search.proofs.point.meets.Given as goal

abbrev pub invariant-loop-fact : goal.invariant-loop-fact
invariant-loop-fact l = All (IsMet (value_at l.point)) (forms (drop l.fact-index l.facts)) → All (IsMet (value_at l.point)) (forms l.facts)
