use Rattle.proof_search.proofs.shortfall.push_suspects.Goals as goal

pub loop-one-preserved : goal.loop-one-preserved
loop-one-preserved c = λ t o h. c.in_ok-push_suspect.ensures t o (c.loop-one.invariant t o h)
