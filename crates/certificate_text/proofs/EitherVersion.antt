-- What a text says in any version.
use Rattle.std.proofs.Common.{◌≡◌, ℕ, ◌≤◌, Bool, true, false, List, [], ◌∷◌, length, Some, Ok, Err, refl, ap, sym, ◌∙◌}
use Rattle.std.specs.Prelude.{nat_lt}
use Rattle.std.proofs.lemmas.Bool.{cond-false, cond_both}
use Rattle.lines.specs.Lines.{is_empty, line_feed, pieces, words}
use Rattle.certificate_text.specs.Certificate.{Certificate, BadLine, OtherVersion}
use Rattle.certificate_text.specs.Drafts.{nothing_yet}
use Rattle.certificate_text.specs.Reading.{Read, read_lines, head_of_version, head_fault, version_of, unless, read_text, certificate_limit, certificate_of}
use Rattle.certificate_text.specs.NumberedReading.{read_behind, numbered_head, read_numbered_text, numbered_certificate, certificate_of_two, certificate_of_four}
use Rattle.certificate_text.specs.Migrated.{written, migrated}
use Rattle.certificate_text.specs.Versions.{unless_other, certificate_in, certificate_any}
use Rattle.certificate_text.proofs.Read.{unless_back}
use Rattle.certificate_text.proofs.FirstLines.{number_of_version}
use Rattle.certificate_text.proofs.NumberedRead.{version_back}
use Rattle.certificate_text.proofs.Migration.{migrated_back}

one_other : (is_wide : Bool) → head_of_version (Some (number_of_version is_wide)) ≡ Some OtherVersion
one_other false = refl
one_other true = refl

-- what says a certificate in version 2 or 4 is of another version than 1
other_lines : (is_wide : Bool) (ls : List (List ℕ)) (c : Certificate) → read_numbered_text is_wide ls ≡ Ok c → read_text ls ≡ Err OtherVersion
other_lines is_wide [] c = λ q. absurd cc
other_lines is_wide (line ∷ others) c =
    cond_both (is_empty others) (Err (BadLine 1)) (unless (numbered_head is_wide (version_of (words line))) (read_behind is_wide others)) (λ r. r ≡ Ok c → read_text (line ∷ others) ≡ Err OtherVersion)
    (λ e q. absurd cc)
    (λ e q.
    let u = unless_back (numbered_head is_wide (version_of (words line))) (read_behind is_wide others) c q in
    cond-false (is_empty others) (Err (BadLine 1)) (unless (head_fault (words line)) (read_lines 2 nothing_yet others)) e
    ∙ ap (λ v. unless (head_of_version v) (read_lines 2 nothing_yet others)) (version_back is_wide (version_of (words line)) u.0)
    ∙ ap (λ f. unless f (read_lines 2 nothing_yet others)) (one_other is_wide))

other_version : (is_wide : Bool) (text : List ℕ) (c : Certificate) → numbered_certificate is_wide text ≡ Ok c → certificate_of text ≡ Err OtherVersion
other_version is_wide text c =
    cond_both (nat_lt certificate_limit (length text)) (Err (BadLine 1)) (read_numbered_text is_wide (pieces line_feed text)) (λ r. r ≡ Ok c → certificate_of text ≡ Err OtherVersion)
    (λ e q. absurd cc)
    (λ e q. cond-false (nat_lt certificate_limit (length text)) (Err (BadLine 1)) (read_text (pieces line_feed text)) e ∙ other_lines is_wide (pieces line_feed text) c q)

-- and what says one in version 4 is of another version than 2
not_two : (ls : List (List ℕ)) (c : Certificate) → read_numbered_text true ls ≡ Ok c → read_numbered_text false ls ≡ Err OtherVersion
not_two [] c = λ q. absurd cc
not_two (line ∷ others) c =
    cond_both (is_empty others) (Err (BadLine 1)) (unless (numbered_head true (version_of (words line))) (read_behind true others)) (λ r. r ≡ Ok c → read_numbered_text false (line ∷ others) ≡ Err OtherVersion)
    (λ e q. absurd cc)
    (λ e q.
    let u = unless_back (numbered_head true (version_of (words line))) (read_behind true others) c q in
    cond-false (is_empty others) (Err (BadLine 1)) (unless (numbered_head false (version_of (words line))) (read_behind false others)) e
    ∙ ap (λ v. unless (numbered_head false v) (read_behind false others)) (version_back true (version_of (words line)) u.0))

no_two : (text : List ℕ) (c : Certificate) → certificate_of_four text ≡ Ok c → certificate_of_two text ≡ Err OtherVersion
no_two text c =
    cond_both (nat_lt certificate_limit (length text)) (Err (BadLine 1)) (read_numbered_text true (pieces line_feed text)) (λ r. r ≡ Ok c → certificate_of_two text ≡ Err OtherVersion)
    (λ e q. absurd cc)
    (λ e q. cond-false (nat_lt certificate_limit (length text)) (Err (BadLine 1)) (read_numbered_text false (pieces line_feed text)) e ∙ not_two (pieces line_feed text) c q)

pub in_one : (text : List ℕ) (c : Certificate) → certificate_of text ≡ Ok c → certificate_in text ≡ Ok c
in_one text c e = ap (λ r. unless_other r (certificate_of_two text)) e

pub in_two : (text : List ℕ) (c : Certificate) → certificate_of_two text ≡ Ok c → certificate_in text ≡ Ok c
in_two text c e = ap (λ r. unless_other r (certificate_of_two text)) (other_version false text c e) ∙ e

migrated_reads : (text two : List ℕ) (r : Read) → certificate_of text ≡ r → migrated text ≡ Ok two → length two ≤ certificate_limit → certificate_in two ≡ certificate_in text
migrated_reads text two (Ok c) e w l = in_two two c (migrated_back text two w l ∙ e) ∙ sym (in_one text c e)
migrated_reads text two (Err f) e w l = absurd (let q : written (Err f) ≡ Ok two = ap written (sym e) ∙ w in cc)

pub same_in_either : (text two : List ℕ) → migrated text ≡ Ok two → length two ≤ certificate_limit → certificate_in two ≡ certificate_in text
same_in_either text two w l = migrated_reads text two (certificate_of text) refl w l

-- a text of version 1 or 2 says the same to the reader of all three
pub in_any : (text : List ℕ) (c : Certificate) → certificate_in text ≡ Ok c → certificate_any text ≡ Ok c
in_any text c e = ap (λ r. unless_other r (certificate_of_four text)) e

pub fault_in_any : (text : List ℕ) (n : ℕ) → certificate_in text ≡ Err (BadLine n) → certificate_any text ≡ Err (BadLine n)
fault_in_any text n e = ap (λ r. unless_other r (certificate_of_four text)) e

pub other_in_any : (text : List ℕ) → certificate_in text ≡ Err OtherVersion → certificate_any text ≡ certificate_of_four text
other_in_any text e = ap (λ r. unless_other r (certificate_of_four text)) e

pub one_in_any : (text : List ℕ) (c : Certificate) → certificate_of text ≡ Ok c → certificate_any text ≡ Ok c
one_in_any text c e = in_any text c (in_one text c e)

pub two_in_any : (text : List ℕ) (c : Certificate) → certificate_of_two text ≡ Ok c → certificate_any text ≡ Ok c
two_in_any text c e = in_any text c (in_two text c e)

pub four_in_any : (text : List ℕ) (c : Certificate) → certificate_of_four text ≡ Ok c → certificate_any text ≡ Ok c
four_in_any text c e =
    other_in_any text (ap (λ r. unless_other r (certificate_of_two text)) (other_version true text c e) ∙ no_two text c e) ∙ e
