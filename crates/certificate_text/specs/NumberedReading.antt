-- Reading a certificate of version 2, or a wide one of version 4: the table of its forms, then line by line, to its end or its first fault.
use Rattle.std.specs.Prelude.{ℕ, suc, ◌+◌, max, ℤ, pos, negsuc, List, [], ◌∷◌, ◌++◌, length, Bool, true, false, cond, not, nat_eq, nat_le, nat_lt, ◌&&◌, ◌||◌, Option, None, Some, Ok, Err, bytes_eq, codes}
use Rattle.std.specs.Ordering.{int_eq}
use Rattle.linear.specs.Linear.{Form}
use Rattle.lines.specs.Lines.{is_empty, line_feed, pieces, words}
use Rattle.certificate_text.specs.Certificate.{Name, CertificateFault, BadLine, OtherVersion}
use Rattle.certificate_text.specs.Forms.{then, when, form_of}
use Rattle.certificate_text.specs.Lines.{Item, item_of}
use Rattle.certificate_text.specs.Items.{line_forms, put_forms}
use Rattle.certificate_text.specs.FormTables.{FormTable, has_form, form_at}
use Rattle.certificate_text.specs.Drafts.{Draft, begun}
use Rattle.certificate_text.specs.Reading.{Read, add_fitting, is_ended, version_of, unless, certificate_limit}
use Rattle.certificate_text.specs.Rules.{is_narrow_form}

abbrev pub whole_number : ℤ → Option ℕ
whole_number (pos n) = Some n
whole_number (negsuc n) = None

-- the number that a form is: one without terms, and not below 0
abbrev pub number_in : Form Name → Option ℕ
number_in f = cond (is_empty f.terms) (whole_number f.constant) None

-- the form of a number, which is at most one above the largest that was used
abbrev pub allowed_form : FormTable → (used n : ℕ) → Option (Form Name)
allowed_form forms used n = cond (nat_le n (used + 1)) (form_at forms n) None

-- the form of the number that stands for it, and the largest number that is used then
abbrev pub form_by : FormTable → (used : ℕ) → (number : Form Name) → Option (ℕ × Form Name)
form_by forms used number = then (number_in number) (λ n. then (allowed_form forms used n) (λ f. Some (max used n, f)))

-- the forms of numbers, one after the other
abbrev pub forms_by : FormTable → (used : ℕ) → (numbers : List (Form Name)) → Option (ℕ × List (Form Name))
forms_by forms used [] = Some (used, [])
forms_by forms used (number ∷ numbers) = then (form_by forms used number) (λ f. then (forms_by forms f.0 numbers) (λ fs. Some (fs.0, f.1 ∷ fs.1)))

-- a line with the forms of its numbers in place of the numbers, and the largest number that is used then
abbrev pub filled : FormTable → (used : ℕ) → Item → Option (ℕ × Item)
filled forms used item = then (forms_by forms used (line_forms item)) (λ fs. Some (fs.0, put_forms fs.1 item))

-- what was read, and the largest number that was used
pub record NumberedDraft : Type 0 where
  pub used : ℕ
  pub read : Draft

abbrev pub numbered_draft : ℕ → Draft → NumberedDraft
numbered_draft used d = record { used = used; read = d }

abbrev pub add_filled : Draft → ℕ × Item → Option NumberedDraft
add_filled d line = then (add_fitting d line.1) (λ e. Some (numbered_draft line.0 e))

abbrev pub add_numbered : FormTable → NumberedDraft → List ℕ → Option NumberedDraft
add_numbered forms d line = then (item_of (words line)) (λ item. then (filled forms d.used item) (add_filled d.read))

-- the line of the first form: behind the first line, and the line `join` of a certificate that joins
abbrev pub table_start : (joins : Bool) → ℕ
table_start false = 2
table_start true = 3

-- each form was used: the first one that was not is at fault, at its line
abbrev pub all_used : FormTable → NumberedDraft → Read
all_used forms d = cond (nat_eq d.used (length forms)) (Ok d.read.settled) (Err (BadLine (d.used + table_start d.read.settled.joins)))

abbrev pub finish_numbered : FormTable → ℕ → NumberedDraft → List ℕ → Read
finish_numbered forms n d rest = cond (is_ended d.read.opened && is_empty rest) (all_used forms d) (Err (BadLine n))

abbrev pub go_to : {A : Type 0} → ℕ → Option A → (A → Read) → Read
go_to n None go = Err (BadLine n)
go_to n (Some a) go = go a

-- the lines behind the table
abbrev pub read_numbered : FormTable → ℕ → NumberedDraft → List (List ℕ) → Read
read_numbered forms n d [] = Err (BadLine n)
read_numbered forms n d (line ∷ others) =
    cond (is_empty others) (finish_numbered forms n d line) (go_to n (add_numbered forms d line) (λ e. read_numbered forms (suc n) e others))

-- the words behind `form`, where a line begins with it
abbrev pub table_words : List (List ℕ) → Option (List (List ℕ))
table_words [] = None
table_words (word ∷ others) = when (bytes_eq word (codes "form")) others

-- one form more, which is not there yet, of names that the certificate may have
abbrev pub add_form : (is_wide : Bool) → FormTable → List (List ℕ) → Option FormTable
add_form is_wide forms words = then (form_of [] words) (λ f. when ((is_wide || is_narrow_form f) && not (has_form forms f)) (forms ++ f ∷ []))

abbrev pub by_table_words : Option (List (List ℕ)) → Read → (List (List ℕ) → Read) → Read
by_table_words None read go = read
by_table_words (Some words) read go = go words

-- the lines of the table, and all others
abbrev pub read_table : (is_wide joins : Bool) → FormTable → ℕ → List (List ℕ) → Read
read_table is_wide joins forms n [] = Err (BadLine n)
read_table is_wide joins forms n (line ∷ others) =
    cond (is_empty others) (Err (BadLine n)) (by_table_words (table_words (words line))
    (read_numbered forms n (numbered_draft 0 (begun is_wide joins)) (line ∷ others))
    (λ ws. go_to n (add_form is_wide forms ws) (λ more. read_table is_wide joins more (suc n) others)))

abbrev pub is_version : (is_wide : Bool) → ℤ → Bool
is_version false version = int_eq version (pos 2)
is_version true version = int_eq version (pos 4)

-- `certificate 2`, or `certificate 4` of a wide one, begins a text: with another number that is of another version
abbrev pub numbered_head : (is_wide : Bool) → Option ℤ → Option CertificateFault
numbered_head is_wide None = Some (BadLine 1)
numbered_head is_wide (Some version) = cond (is_version is_wide version) None (Some OtherVersion)

-- the line `join`, which a wide certificate may have; what follows the last line feed is no line
abbrev pub is_join : (is_wide : Bool) → (line : List ℕ) → (others : List (List ℕ)) → Bool
is_join is_wide line others = is_wide && (bytes_eq line (codes "join") && not (is_empty others))

-- behind the first line
abbrev pub read_behind : (is_wide : Bool) → List (List ℕ) → Read
read_behind is_wide [] = Err (BadLine 2)
read_behind is_wide (line ∷ others) =
    cond (is_join is_wide line others) (read_table is_wide true [] (table_start true) others) (read_table is_wide false [] (table_start false) (line ∷ others))

abbrev pub read_numbered_text : (is_wide : Bool) → List (List ℕ) → Read
read_numbered_text is_wide [] = Err (BadLine 1)
read_numbered_text is_wide (line ∷ others) =
    cond (is_empty others) (Err (BadLine 1)) (unless (numbered_head is_wide (version_of (words line))) (read_behind is_wide others))

abbrev pub numbered_certificate : (is_wide : Bool) → List ℕ → Read
numbered_certificate is_wide text =
    cond (nat_lt certificate_limit (length text)) (Err (BadLine 1)) (read_numbered_text is_wide (pieces line_feed text))

-- what a text of version 2 says: its certificate, or its first fault
abbrev pub certificate_of_two : List ℕ → Read
certificate_of_two text = numbered_certificate false text

-- what a text of version 4 says: its certificate, which is wide, or its first fault
abbrev pub certificate_of_four : List ℕ → Read
certificate_of_four text = numbered_certificate true text
