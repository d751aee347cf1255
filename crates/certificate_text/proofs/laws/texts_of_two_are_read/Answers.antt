use Rattle.certificate_text.proofs.Examples as examples
use Rattle.certificate_text.proofs.laws.texts_of_two_are_read.Goals as goal

pub returns-clause-says : goal.returns-clause-says
returns-clause-says c = examples.read

pub returns-clause-exchanged : goal.returns-clause-exchanged
returns-clause-exchanged c = examples.exchanged

pub returns-clause-unused : goal.returns-clause-unused
returns-clause-unused c = examples.unused

pub returns-clause-repeated : goal.returns-clause-repeated
returns-clause-repeated c = examples.repeated

pub returns-clause-nought : goal.returns-clause-nought
returns-clause-nought c = examples.nought

pub returns-clause-past : goal.returns-clause-past
returns-clause-past c = examples.past

pub returns-clause-written_out : goal.returns-clause-written_out
returns-clause-written_out c = examples.written_out

pub returns-clause-late : goal.returns-clause-late
returns-clause-late c = examples.late

pub returns-clause-early : goal.returns-clause-early
returns-clause-early c = examples.early

pub returns-clause-of_one : goal.returns-clause-of_one
returns-clause-of_one c = examples.of_one

pub returns-clause-without : goal.returns-clause-without
returns-clause-without c = examples.without

pub returns-clause-shared : goal.returns-clause-shared
returns-clause-shared c = examples.shared
