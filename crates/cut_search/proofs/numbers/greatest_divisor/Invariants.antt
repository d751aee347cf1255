use Rattle.cut_search.proofs.numbers.greatest_divisor.Given as goal

abbrev pub decreases-loop-y : goal.decreases-loop-y
decreases-loop-y l = l.y
