-- Texts of versions 2 and 4 and what they say, by computation.
use Rattle.std.proofs.Common.{◌≡◌, ℕ, false, not, ◌||◌, List, [], ◌∷◌, ◌++◌, Ok, Err, refl, ap, ◌∙◌, arith}
use Rattle.std.specs.Prelude.{pos, negsuc, codes, bytes_eq}
use Rattle.std.specs.Fmt.{decimal}
use Rattle.std.proofs.lemmas.Fmt.{decimal_digit}
use Rattle.linear.specs.Linear.{Form}
use Rattle.lines.specs.Lines.{pieces, natural_of, integer_of}
use Rattle.certificate_text.specs.Certificate.{First, Name, Variable, Local, Double, BadLine, OtherVersion}
use Rattle.certificate_text.specs.Text.{term_text, form_text}
use Rattle.certificate_text.specs.Forms.{when, weighted, form, form_of, name_of, dimensional_of}
use Rattle.certificate_text.specs.Lines.{congruence_of, bound_of, entry_of, sum_of, item_of}
use Rattle.certificate_text.specs.Drafts.{wide_certificate, add}
use Rattle.certificate_text.specs.Reading.{Read, certificate_of}
use Rattle.certificate_text.specs.Versions.{certificate_any}
use Rattle.certificate_text.specs.FormTables.{has_form}
use Rattle.certificate_text.specs.NumberedReading.{go_to, read_table, certificate_of_two, certificate_of_four}
use Rattle.certificate_text.proofs.Tables.{form_itself}

abbrev pub below : Form Name
below = form (weighted (negsuc 0) (Variable (codes "lid")) ∷ weighted (pos 1) (Local First) ∷ []) (pos 0)

abbrev pub above : Form Name
above = form (weighted (pos 1) (Variable (codes "lid")) ∷ weighted (negsuc 0) (Local First) ∷ []) (pos 0)

apart : has_form (below ∷ []) above ≡ false
apart = ap (λ d. bytes_eq (((d ++ (codes "*" ++ (codes "lid" ++ codes " + "))) ++ (term_text (weighted (negsuc 0) (Local First)) ++ [])) ++ decimal 0) (form_text below) || false) (decimal_digit 1 (omega arith))

abbrev one : Form Name
one = form [] (pos 1)

one_apart : has_form (below ∷ above ∷ []) one ≡ false
one_apart = ap (λ d. bytes_eq d (form_text below) || (bytes_eq d (((d ++ (codes "*" ++ (codes "lid" ++ codes " + "))) ++ (term_text (weighted (negsuc 0) (Local First)) ++ [])) ++ decimal 0) || false)) (decimal_digit 1 (omega arith))

-- behind two lines of the table
from_two : (rest : List ℕ) (answer : Read) → read_table false false (below ∷ above ∷ []) 4 (pieces 10 rest) ≡ answer → go_to 3 (when (not (has_form (below ∷ []) above)) (below ∷ above ∷ [])) (λ more. read_table false false more 4 (pieces 10 rest)) ≡ answer
from_two rest answer e = ap (λ b. go_to 3 (when (not b) (below ∷ above ∷ [])) (λ more. read_table false false more 4 (pieces 10 rest))) apart ∙ e

pub exchanged : certificate_of_two (codes "certificate 2\nform -1*lid + 1*local.0 + 0\nform 1*lid + -1*local.0 + 0\nplace b3\nfact 2\nfact 1\nend\n") ≡ Err (BadLine 5)
unfolding item_of congruence_of bound_of entry_of sum_of form_of name_of dimensional_of natural_of integer_of add
exchanged = from_two (codes "place b3\nfact 2\nfact 1\nend\n") (Err (BadLine 5)) refl

pub read : certificate_of_two (codes "certificate 2\nform -1*lid + 1*local.0 + 0\nform 1*lid + -1*local.0 + 0\nplace b3\nfact 1\nfact 2\nend\n") ≡ certificate_of (codes "certificate 1\nplace b3\nfact -1*lid + 1*local.0 + 0\nfact 1*lid + -1*local.0 + 0\nend\n")
unfolding item_of congruence_of bound_of entry_of sum_of form_of name_of dimensional_of natural_of integer_of add
read = from_two (codes "place b3\nfact 1\nfact 2\nend\n") (certificate_of (codes "certificate 1\nplace b3\nfact -1*lid + 1*local.0 + 0\nfact 1*lid + -1*local.0 + 0\nend\n")) refl

pub unused : certificate_of_two (codes "certificate 2\nform -1*lid + 1*local.0 + 0\nform 1*lid + -1*local.0 + 0\nform 1\nplace b3\nfact 1\nfact 2\nend\n") ≡ Err (BadLine 4)
unfolding item_of congruence_of bound_of entry_of sum_of form_of name_of dimensional_of natural_of integer_of add
unused = from_two (codes "form 1\nplace b3\nfact 1\nfact 2\nend\n") (Err (BadLine 4)) (ap (λ b. go_to 4 (when (not b) (below ∷ above ∷ one ∷ [])) (λ more. read_table false false more 5 (pieces 10 (codes "place b3\nfact 1\nfact 2\nend\n")))) one_apart)

pub repeated : certificate_of_two (codes "certificate 2\nform 1*lid + -1*local.0 + 0\nform 1*lid + -1*local.0 + 0\nplace b3\nfact 1\nfact 2\nend\n") ≡ Err (BadLine 3)
unfolding item_of congruence_of bound_of entry_of sum_of form_of name_of dimensional_of natural_of integer_of add
repeated = ap (λ b. go_to 3 (when (not (b || false)) (above ∷ above ∷ [])) (λ more. read_table false false more 4 (pieces 10 (codes "place b3\nfact 1\nfact 2\nend\n")))) (form_itself above)

pub nought : certificate_of_two (codes "certificate 2\nform 1\nplace b3\nfact 0\nend\n") ≡ Err (BadLine 4)
unfolding item_of congruence_of bound_of entry_of sum_of form_of name_of dimensional_of natural_of integer_of add
nought = refl

pub past : certificate_of_two (codes "certificate 2\nform 1\nplace b3\nfact 1\nfact 2\nend\n") ≡ Err (BadLine 5)
unfolding item_of congruence_of bound_of entry_of sum_of form_of name_of dimensional_of natural_of integer_of add
past = refl

pub written_out : certificate_of_two (codes "certificate 2\nform 1\nplace b3\nfact 1*lid + 0\nend\n") ≡ Err (BadLine 4)
unfolding item_of congruence_of bound_of entry_of sum_of form_of name_of dimensional_of natural_of integer_of add
written_out = refl

pub early : certificate_of_two (codes "certificate 2\nform 1\n") ≡ Err (BadLine 3)
unfolding item_of congruence_of bound_of entry_of sum_of form_of name_of dimensional_of natural_of integer_of add
early = refl

pub late : certificate_of_two (codes "certificate 2\nplace b3\nsame x\nform 1\nend\n") ≡ Err (BadLine 4)
unfolding item_of congruence_of bound_of entry_of sum_of form_of name_of dimensional_of natural_of integer_of add
late = refl

pub of_one : certificate_of_two (codes "certificate 1\nplace b3\nsame x\nend\n") ≡ Err OtherVersion
unfolding item_of congruence_of bound_of entry_of sum_of form_of name_of dimensional_of natural_of integer_of add
of_one = refl

pub without : certificate_of_two (codes "certificate 2\nplace b3\nsame x\nend\n") ≡ certificate_of (codes "certificate 1\nplace b3\nsame x\nend\n")
unfolding item_of congruence_of bound_of entry_of sum_of form_of name_of dimensional_of natural_of integer_of add
without = refl

pub shared : certificate_of_two (codes "certificate 2\nform 1*n + -1\nplace b3\nfact 1\nloop 3 down 1 64 1\nob 2 quot 1\ng 0\nend\n") ≡ certificate_of (codes "certificate 1\nplace b3\nfact 1*n + -1\nloop 3 down 1 64 1*n + -1\nob 2 quot 1*n + -1\ng 0\nend\n")
unfolding item_of congruence_of bound_of entry_of sum_of form_of name_of dimensional_of natural_of integer_of add
shared = refl

pub doubled : certificate_of_four (codes "certificate 4\nform 1*n + -1\nloop 3 double 2 64 1\nend\n") ≡ Ok (wide_certificate false [] (record { loop = 3; descent = Double 2; most = pos 64; form = form (weighted (pos 1) (Variable (codes "n")) ∷ []) (negsuc 0) } ∷ []) [])
unfolding item_of congruence_of bound_of entry_of sum_of form_of name_of dimensional_of natural_of integer_of add
doubled = refl

pub any_doubled : certificate_any (codes "certificate 4\nform 1*n + -1\nloop 3 double 2 64 1\nend\n") ≡ certificate_of_four (codes "certificate 4\nform 1*n + -1\nloop 3 double 2 64 1\nend\n")
unfolding item_of congruence_of bound_of entry_of sum_of form_of name_of dimensional_of natural_of integer_of add
any_doubled = refl

pub doubled_from_nought : certificate_of_four (codes "certificate 4\nform 1*n + -1\nloop 3 double 0 64 1\nend\n") ≡ Err (BadLine 3)
unfolding item_of congruence_of bound_of entry_of sum_of form_of name_of dimensional_of natural_of integer_of add
doubled_from_nought = refl

pub doubled_in_two : certificate_of_two (codes "certificate 2\nform 1*n + -1\nloop 3 double 2 64 1\nend\n") ≡ Err (BadLine 3)
unfolding item_of congruence_of bound_of entry_of sum_of form_of name_of dimensional_of natural_of integer_of add
doubled_in_two = refl

pub doubled_in_one : certificate_of (codes "certificate 1\nloop 3 double 2 64 1*n + -1\nend\n") ≡ Err (BadLine 2)
unfolding item_of congruence_of bound_of entry_of sum_of form_of name_of dimensional_of natural_of integer_of add
doubled_in_one = refl

pub two_in_four : certificate_of_four (codes "certificate 2\nplace b3\nsame x\nend\n") ≡ Err OtherVersion
unfolding item_of congruence_of bound_of entry_of sum_of form_of name_of dimensional_of natural_of integer_of add
two_in_four = refl

pub three_in_four : certificate_of_four (codes "certificate 3\nplace b3\nsame x\nend\n") ≡ Err OtherVersion
unfolding item_of congruence_of bound_of entry_of sum_of form_of name_of dimensional_of natural_of integer_of add
three_in_four = refl

pub three_in_any : certificate_any (codes "certificate 3\nplace b3\nsame x\nend\n") ≡ Err OtherVersion
unfolding item_of congruence_of bound_of entry_of sum_of form_of name_of dimensional_of natural_of integer_of add
three_in_any = refl

pub five_in_any : certificate_any (codes "certificate 5\nplace b3\nsame x\nend\n") ≡ Err OtherVersion
unfolding item_of congruence_of bound_of entry_of sum_of form_of name_of dimensional_of natural_of integer_of add
five_in_any = refl
