use Rattle.certificate_text.proofs.ExamplesOfFour as examples
use Rattle.certificate_text.proofs.laws.texts_with_products_are_read.Goals as goal

pub returns-clause-product : goal.returns-clause-product
returns-clause-product c = examples.product

pub returns-clause-three : goal.returns-clause-three
returns-clause-three c = examples.three

pub returns-clause-second : goal.returns-clause-second
returns-clause-second c = examples.second

pub returns-clause-out_of_order : goal.returns-clause-out_of_order
returns-clause-out_of_order c = examples.out_of_order

pub returns-clause-too_many : goal.returns-clause-too_many
returns-clause-too_many c = examples.too_many

pub returns-clause-product_in_two : goal.returns-clause-product_in_two
returns-clause-product_in_two c = examples.product_in_two

pub returns-clause-second_in_one : goal.returns-clause-second_in_one
returns-clause-second_in_one c = examples.second_in_one

pub returns-clause-multiple : goal.returns-clause-multiple
returns-clause-multiple c = examples.multiple

pub returns-clause-multiple_in_two : goal.returns-clause-multiple_in_two
returns-clause-multiple_in_two c = examples.multiple_in_two
