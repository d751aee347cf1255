use Rattle.shown_kernels.proofs.ranked.noted_rankings_are_limits.Goals as goal

pub returns-clause-limits : goal.returns-clause-limits
returns-clause-limits c =
    let h = rw c.as_slice.ensures.value at c.reads_numbers.ensures in
    λ entries. c.noted_rankings_have_their_turns.ensures.limits c.args.notes.now entries h
