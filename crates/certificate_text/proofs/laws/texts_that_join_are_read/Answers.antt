use Rattle.certificate_text.proofs.ExamplesOfFour as examples
use Rattle.certificate_text.proofs.laws.texts_that_join_are_read.Goals as goal

pub returns-clause-joined : goal.returns-clause-joined
returns-clause-joined c = examples.joined

pub returns-clause-unused : goal.returns-clause-unused
returns-clause-unused c = examples.unused

pub returns-clause-bad : goal.returns-clause-bad
returns-clause-bad c = examples.bad

pub returns-clause-twice : goal.returns-clause-twice
returns-clause-twice c = examples.joined_twice

pub returns-clause-late : goal.returns-clause-late
returns-clause-late c = examples.behind_table

pub returns-clause-with_word : goal.returns-clause-with_word
returns-clause-with_word c = examples.with_word

pub returns-clause-without_end : goal.returns-clause-without_end
returns-clause-without_end c = examples.without_end

pub returns-clause-in_two : goal.returns-clause-in_two
returns-clause-in_two c = examples.join_in_two

pub returns-clause-in_one : goal.returns-clause-in_one
returns-clause-in_one c = examples.join_in_one
