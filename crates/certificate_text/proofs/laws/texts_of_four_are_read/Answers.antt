use Rattle.certificate_text.proofs.Examples as examples
use Rattle.certificate_text.proofs.laws.texts_of_four_are_read.Goals as goal

pub returns-clause-doubled : goal.returns-clause-doubled
returns-clause-doubled c = examples.doubled

pub returns-clause-any : goal.returns-clause-any
returns-clause-any c = examples.any_doubled

pub returns-clause-from_nought : goal.returns-clause-from_nought
returns-clause-from_nought c = examples.doubled_from_nought

pub returns-clause-in_two : goal.returns-clause-in_two
returns-clause-in_two c = examples.doubled_in_two

pub returns-clause-in_one : goal.returns-clause-in_one
returns-clause-in_one c = examples.doubled_in_one

pub returns-clause-of_two : goal.returns-clause-of_two
returns-clause-of_two c = examples.two_in_four

pub returns-clause-of_three : goal.returns-clause-of_three
returns-clause-of_three c = examples.three_in_four

pub returns-clause-three : goal.returns-clause-three
returns-clause-three c = examples.three_in_any

pub returns-clause-five : goal.returns-clause-five
returns-clause-five c = examples.five_in_any
