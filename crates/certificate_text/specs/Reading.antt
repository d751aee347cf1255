-- Reading a certificate, line by line, to its end or its first fault.
use Rattle.std.specs.Prelude.{ℕ, suc, ℤ, pos, List, [], ◌∷◌, length, Bool, true, false, cond, nat_lt, ◌&&◌, ◌||◌, Option, None, Some, Result, Ok, Err, bytes_eq, codes}
use Rattle.std.specs.Ordering.{int_eq}
use Rattle.lines.specs.Lines.{is_empty, two, line_feed, pieces, words, integer_of}
use Rattle.certificate_text.specs.Certificate.{Certificate, CertificateFault, BadLine, OtherVersion}
use Rattle.certificate_text.specs.Lines.{Item, item_of}
use Rattle.certificate_text.specs.Forms.{then, number}
use Rattle.certificate_text.specs.Drafts.{Open, Draft, nothing_yet, add, Ended}
use Rattle.certificate_text.specs.Rules.{is_narrow_item}

abbrev pub Read : Type 0
Read = Result Certificate CertificateFault

-- nothing stands behind the line `end`
abbrev pub is_ended : Open → Bool
is_ended Ended = true
is_ended o = false

abbrev pub finish : ℕ → Draft → List ℕ → Read
finish n d rest = cond (is_ended d.opened && is_empty rest) (Ok d.settled) (Err (BadLine n))

abbrev pub go_on : ℕ → Option Draft → (Draft → Read) → Read
go_on n None go = Err (BadLine n)
go_on n (Some d) go = go d

-- one more line, which a certificate that is not wide may have
abbrev pub add_fitting : Draft → Item → Option Draft
add_fitting d item = cond (d.settled.is_wide || is_narrow_item item) (add d item) None

abbrev pub add_line : Draft → List ℕ → Option Draft
add_line d line = then (item_of (words line)) (add_fitting d)

-- line after line, each with its number; what follows the last line feed is no line
abbrev pub read_lines : ℕ → Draft → List (List ℕ) → Read
read_lines n d [] = Err (BadLine n)
read_lines n d (line ∷ others) =
    cond (is_empty others) (finish n d line) (go_on n (add_line d line) (λ e. read_lines (suc n) e others))

-- `certificate 1` begins a text: with another number that is of another version
abbrev pub head_of_version : Option ℤ → Option CertificateFault
head_of_version None = Some (BadLine 1)
head_of_version (Some version) = cond (int_eq version (pos 1)) None (Some OtherVersion)

abbrev pub version_of : List (List ℕ) → Option ℤ
version_of words = then (two words) (λ w. cond (bytes_eq w.0 (codes "certificate")) (number (integer_of w.1)) None)

abbrev pub head_fault : List (List ℕ) → Option CertificateFault
head_fault words = head_of_version (version_of words)

abbrev pub unless : Option CertificateFault → Read → Read
unless None read = read
unless (Some fault) read = Err fault

abbrev pub read_text : List (List ℕ) → Read
read_text [] = Err (BadLine 1)
read_text (line ∷ others) = cond (is_empty others) (Err (BadLine 1)) (unless (head_fault (words line)) (read_lines 2 nothing_yet others))

-- the longest text of a certificate, in bytes
abbrev pub certificate_limit : ℕ
certificate_limit = 16777216

-- what a text says: its certificate, or its first fault
abbrev pub certificate_of : List ℕ → Read
certificate_of text = cond (nat_lt certificate_limit (length text)) (Err (BadLine 1)) (read_text (pieces line_feed text))
