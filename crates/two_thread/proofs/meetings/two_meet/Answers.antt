use Rattle.two_thread.proofs.meetings.two_meet.Goals as goal

pub returns-in_ok-owed_of-clause-inside : goal.returns-in_ok-owed_of-clause-inside
returns-in_ok-owed_of-clause-inside g c = λ a. c.in_ok-owed_of.ensures.inside _ (c.requires.first, c.requires.second) a
