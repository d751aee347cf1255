use Rattle.two_thread.proofs.seconds.+second_factors.Given as goal

abbrev pub decreases-second_factors : goal.decreases-second_factors
decreases-second_factors l = l.most
