-- What texts of version 4 say of products, multiples and lemmas, by computation.
use Rattle.std.proofs.Common.{◌≡◌, true, false, [], ◌∷◌, None, Ok, Err, refl}
use Rattle.std.specs.Prelude.{pos, codes}
use Rattle.lines.specs.Lines.{natural_of, integer_of}
use Rattle.certificate_text.specs.Certificate.{Variable, Argument, Group, Second, Product, Barrier, Show, Given, BadLine}
use Rattle.certificate_text.specs.Forms.{weighted, form, form_of, name_of, dimensional_of}
use Rattle.certificate_text.specs.Lines.{congruence_of, multiple_of, bound_of, entry_of, sum_of, item_of}
use Rattle.certificate_text.specs.Drafts.{wide_certificate, add}
use Rattle.certificate_text.specs.Reading.{certificate_of}
use Rattle.certificate_text.specs.NumberedReading.{certificate_of_two, certificate_of_four}

pub product : certificate_of_four (codes "certificate 4\nform 1*x*y + 0\nplace b3\nfact 1\nend\n") ≡ Ok (wide_certificate false (record { spot = record { anchor = Barrier 3; head = None }; same = []; facts = form (weighted (pos 1) (Product (Variable (codes "x")) (Variable (codes "y"))) ∷ []) (pos 0) ∷ []; congruences = []; multiples = [] } ∷ []) [] [])
unfolding item_of congruence_of multiple_of bound_of entry_of sum_of form_of name_of dimensional_of natural_of integer_of add
product = refl

pub three : certificate_of_four (codes "certificate 4\nform 3*arg.w*group.1*group.1 + 0\nplace b3\nfact 1\nend\n") ≡ Ok (wide_certificate false (record { spot = record { anchor = Barrier 3; head = None }; same = []; facts = form (weighted (pos 3) (Product (Argument (codes "w")) (Product (Group Second) (Group Second))) ∷ []) (pos 0) ∷ []; congruences = []; multiples = [] } ∷ []) [] [])
unfolding item_of congruence_of multiple_of bound_of entry_of sum_of form_of name_of dimensional_of natural_of integer_of add
three = refl

pub second : certificate_of_four (codes "certificate 4\nform 1*x'*y + 0\nplace b3\nfact 1\nend\n") ≡ Ok (wide_certificate false (record { spot = record { anchor = Barrier 3; head = None }; same = []; facts = form (weighted (pos 1) (Product (Second (Variable (codes "x"))) (Variable (codes "y"))) ∷ []) (pos 0) ∷ []; congruences = []; multiples = [] } ∷ []) [] [])
unfolding item_of congruence_of multiple_of bound_of entry_of sum_of form_of name_of dimensional_of natural_of integer_of add
second = refl

pub out_of_order : certificate_of_four (codes "certificate 4\nform 1*y*x + 0\nplace b3\nfact 1\nend\n") ≡ Err (BadLine 2)
unfolding item_of congruence_of multiple_of bound_of entry_of sum_of form_of name_of dimensional_of natural_of integer_of add
out_of_order = refl

pub too_many : certificate_of_four (codes "certificate 4\nform 1*x*x*x*x + 0\nplace b3\nfact 1\nend\n") ≡ Err (BadLine 2)
unfolding item_of congruence_of multiple_of bound_of entry_of sum_of form_of name_of dimensional_of natural_of integer_of add
too_many = refl

pub product_in_two : certificate_of_two (codes "certificate 2\nform 1*x*y + 0\nplace b3\nfact 1\nend\n") ≡ Err (BadLine 2)
unfolding item_of congruence_of multiple_of bound_of entry_of sum_of form_of name_of dimensional_of natural_of integer_of add
product_in_two = refl

pub second_in_one : certificate_of (codes "certificate 1\nplace b3\nfact 1*x' + 0\nend\n") ≡ Err (BadLine 3)
unfolding item_of congruence_of multiple_of bound_of entry_of sum_of form_of name_of dimensional_of natural_of integer_of add
second_in_one = refl

pub multiple : certificate_of_four (codes "certificate 4\nform 1*x + 0\nplace b3\nmultiple 1 of 1\nend\n") ≡ Ok (wide_certificate false (record { spot = record { anchor = Barrier 3; head = None }; same = []; facts = []; congruences = []; multiples = record { of = form (weighted (pos 1) (Variable (codes "x")) ∷ []) (pos 0); form = form (weighted (pos 1) (Variable (codes "x")) ∷ []) (pos 0) } ∷ [] } ∷ []) [] [])
unfolding item_of congruence_of multiple_of bound_of entry_of sum_of form_of name_of dimensional_of natural_of integer_of add
multiple = refl

pub multiple_in_two : certificate_of_two (codes "certificate 2\nform 1*x + 0\nplace b3\nmultiple 1 of 1\nend\n") ≡ Err (BadLine 4)
unfolding item_of congruence_of multiple_of bound_of entry_of sum_of form_of name_of dimensional_of natural_of integer_of add
multiple_in_two = refl

pub lemma : certificate_of_four (codes "certificate 4\nform 1*x + 0\nob 2 show\nl 1\ng 1\nm\np 1 2\nend\n") ≡ Ok (wide_certificate false [] [] (record { obligation = 2; sort = Show; lemmas = record { form = form (weighted (pos 1) (Variable (codes "x")) ∷ []) (pos 0); steps = Given (pos 1) ∷ [] } ∷ []; steps = Product (pos 1) (pos 2) ∷ [] } ∷ []))
unfolding item_of congruence_of multiple_of bound_of entry_of sum_of form_of name_of dimensional_of natural_of integer_of add
lemma = refl

pub not_ended : certificate_of_four (codes "certificate 4\nform 1*x + 0\nob 2 show\nl 1\ng 1\nend\n") ≡ Err (BadLine 6)
unfolding item_of congruence_of multiple_of bound_of entry_of sum_of form_of name_of dimensional_of natural_of integer_of add
not_ended = refl

pub not_asked : certificate_of_four (codes "certificate 4\nob 2 show\nm\ng 1\nend\n") ≡ Err (BadLine 3)
unfolding item_of congruence_of multiple_of bound_of entry_of sum_of form_of name_of dimensional_of natural_of integer_of add
not_asked = refl

pub twice : certificate_of_four (codes "certificate 4\nform 1*x + 0\nob 2 show\nl 1\nm\nm\nend\n") ≡ Err (BadLine 6)
unfolding item_of congruence_of multiple_of bound_of entry_of sum_of form_of name_of dimensional_of natural_of integer_of add
twice = refl

pub late : certificate_of_four (codes "certificate 4\nform 1*x + 0\nob 2 show\ng 1\nl 1\nm\nend\n") ≡ Err (BadLine 5)
unfolding item_of congruence_of multiple_of bound_of entry_of sum_of form_of name_of dimensional_of natural_of integer_of add
late = refl

pub lemma_in_two : certificate_of_two (codes "certificate 2\nform 1*x + 0\nob 2 show\nl 1\nm\nend\n") ≡ Err (BadLine 4)
unfolding item_of congruence_of multiple_of bound_of entry_of sum_of form_of name_of dimensional_of natural_of integer_of add
lemma_in_two = refl

pub step_in_one : certificate_of (codes "certificate 1\nob 2 show\np 1 2\nend\n") ≡ Err (BadLine 3)
unfolding item_of congruence_of multiple_of bound_of entry_of sum_of form_of name_of dimensional_of natural_of integer_of add
step_in_one = refl

pub joined : certificate_of_four (codes "certificate 4\njoin\nplace b3\nsame x\nend\n") ≡ Ok (wide_certificate true (record { spot = record { anchor = Barrier 3; head = None }; same = codes "x" ∷ []; facts = []; congruences = []; multiples = [] } ∷ []) [] [])
unfolding item_of congruence_of multiple_of bound_of entry_of sum_of form_of name_of dimensional_of natural_of integer_of add
joined = refl

pub unused : certificate_of_four (codes "certificate 4\njoin\nform 1\nplace b3\nsame x\nend\n") ≡ Err (BadLine 3)
unfolding item_of congruence_of multiple_of bound_of entry_of sum_of form_of name_of dimensional_of natural_of integer_of add
unused = refl

pub bad : certificate_of_four (codes "certificate 4\njoin\nplace b3\nend\n") ≡ Err (BadLine 4)
unfolding item_of congruence_of multiple_of bound_of entry_of sum_of form_of name_of dimensional_of natural_of integer_of add
bad = refl

pub joined_twice : certificate_of_four (codes "certificate 4\njoin\njoin\nend\n") ≡ Err (BadLine 3)
unfolding item_of congruence_of multiple_of bound_of entry_of sum_of form_of name_of dimensional_of natural_of integer_of add
joined_twice = refl

pub behind_table : certificate_of_four (codes "certificate 4\nplace b3\nsame x\njoin\nend\n") ≡ Err (BadLine 4)
unfolding item_of congruence_of multiple_of bound_of entry_of sum_of form_of name_of dimensional_of natural_of integer_of add
behind_table = refl

pub with_word : certificate_of_four (codes "certificate 4\njoin 1\nend\n") ≡ Err (BadLine 2)
unfolding item_of congruence_of multiple_of bound_of entry_of sum_of form_of name_of dimensional_of natural_of integer_of add
with_word = refl

pub without_end : certificate_of_four (codes "certificate 4\njoin") ≡ Err (BadLine 2)
unfolding item_of congruence_of multiple_of bound_of entry_of sum_of form_of name_of dimensional_of natural_of integer_of add
without_end = refl

pub join_in_two : certificate_of_two (codes "certificate 2\njoin\nplace b3\nsame x\nend\n") ≡ Err (BadLine 2)
unfolding item_of congruence_of multiple_of bound_of entry_of sum_of form_of name_of dimensional_of natural_of integer_of add
join_in_two = refl

pub join_in_one : certificate_of (codes "certificate 1\njoin\nplace b3\nsame x\nend\n") ≡ Err (BadLine 2)
unfolding item_of congruence_of multiple_of bound_of entry_of sum_of form_of name_of dimensional_of natural_of integer_of add
join_in_one = refl
