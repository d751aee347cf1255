use Rattle.certificate_text.proofs.ExamplesOfFour as examples
use Rattle.certificate_text.proofs.laws.texts_with_lemmas_are_read.Goals as goal

pub returns-clause-lemma : goal.returns-clause-lemma
returns-clause-lemma c = examples.lemma

pub returns-clause-not_ended : goal.returns-clause-not_ended
returns-clause-not_ended c = examples.not_ended

pub returns-clause-not_asked : goal.returns-clause-not_asked
returns-clause-not_asked c = examples.not_asked

pub returns-clause-twice : goal.returns-clause-twice
returns-clause-twice c = examples.twice

pub returns-clause-late : goal.returns-clause-late
returns-clause-late c = examples.late

pub returns-clause-lemma_in_two : goal.returns-clause-lemma_in_two
returns-clause-lemma_in_two c = examples.lemma_in_two

pub returns-clause-step_in_one : goal.returns-clause-step_in_one
returns-clause-step_in_one c = examples.step_in_one
