-- What a text says, of what stands before its entries and of those that are left: for code.
use Rattle.std.proofs.Common.{◌≡◌, ℕ, suc, ◌+◌, ◌<◌, Bool, true, false, cond, ◌&&◌, List, [], ◌∷◌, ◌++◌, length, map, Option, None, Some, Ok, Err, refl, ap, sym, subst, ◌∙◌, append_assoc, arith}
use Rattle.std.specs.Prelude.{Result, IsErr, IsErrAnd, IfErr, nat_eq}
use Rattle.std.proofs.lemmas.Bool.{cond_both}
use Rattle.std.proofs.lemmas.List.{append-nil, map-append}
use Rattle.lines.specs.Lines.{is_empty}
use Rattle.certificate_text.specs.Certificate.{Entry, Certificate, CertificateFault, BadLine, OtherVersion}
use Rattle.certificate_text.specs.FormTables.{FormTable}
use Rattle.certificate_text.specs.Reading.{Read, is_ended, unless}
use Rattle.certificate_text.specs.NumberedReading.{NumberedDraft, table_start}
use Rattle.certificate_text.specs.Versions.{unless_other}
use Rattle.certificate.specs.Certificates.{Refuses, Says}
use Rattle.certificate.specs.EntriesLeft.{Left, ends, with_first, whole_of, with_entries, add_row, finish_rows, emptied, fault_of, go_on, entries_left, gathered}
use Rattle.certificate.specs.EntryAnswers.{Ceases, Stops}
use Rattle.certificate.specs.EntryCursors.{front, left, stopped, Answers, Opens}
use Rattle.certificate.specs.declared.tree.Entry.{Entry as EntryCode}
use Rattle.certificate.specs.View.{entry}
use Rattle.certificate.specs.declared.entry_reader.Entries.{Entries}
use Rattle.certificate.specs.declared.error.CertError.{CertError}
use Rattle.certificate.specs.declared.error.CertError.TheVariants.{Refused, Memory}
use Rattle.certificate.specs.declared.error.CertFault.TheVariants.{BadLine as Bad}
use Rattle.certificate.specs.declared.line_error.LineError.{LineError}
use Rattle.certificate.specs.declared.line_error.LineError.TheVariants.{Bad as BadRow}
use Rattle.certificate.specs.declared.certificate.Certificate.{Certificate as CertificateCode}
use Rattle.certificate.specs.Numbers.{numbered_draft}
use Rattle.certificate.specs.Tables.{table}
use Rattle.certificate.specs.WordAnswers.{Fails}
use Rattle.lines.specs.Left.{left as lines_left}

abbrev left_with : List Entry → Option CertificateFault → Left
left_with es f = record { entries = es; fault = f }

-- no fault, or one of a line
abbrev is_of_line : Option CertificateFault → Bool
is_of_line None = true
is_of_line (Some (BadLine n)) = true
is_of_line (Some OtherVersion) = false

ended_of_line : (b : Bool) (c : Certificate) (n : ℕ) → is_of_line (fault_of (cond b (Ok c) (Err (BadLine n)))) ≡ true
ended_of_line true c n = refl
ended_of_line false c n = refl

used_of_line : (a b : Bool) (c : Certificate) (n m : ℕ) → is_of_line (fault_of (cond a (cond b (Ok c) (Err (BadLine n))) (Err (BadLine m)))) ≡ true
used_of_line true b c n m = ended_of_line b c n
used_of_line false b c n m = refl

finish_of_line : (b : Bool) (forms : FormTable) (n : ℕ) (d : NumberedDraft) (rest : List ℕ) → is_of_line (fault_of (finish_rows b forms n d rest)) ≡ true
finish_of_line false forms n d rest = ended_of_line (is_ended d.read.opened && is_empty rest) d.read.settled n
finish_of_line true forms n d rest =
    used_of_line (is_ended d.read.opened && is_empty rest) (nat_eq d.used (length forms)) d.read.settled (d.used + table_start d.read.settled.joins) n

go_of_line : (n : ℕ) (o : Option NumberedDraft) (go : NumberedDraft → Left) → ((d : NumberedDraft) → is_of_line (go d).fault ≡ true) → is_of_line (go_on n o go).fault ≡ true
go_of_line n None go h = refl
go_of_line n (Some d) go h = h (emptied d)

left_of_line : (b : Bool) (forms : FormTable) (n : ℕ) (d : NumberedDraft) (ls : List (List ℕ)) → is_of_line (entries_left b forms n d ls).fault ≡ true
left_of_line b forms n d [] = refl
left_of_line b forms n d (line ∷ others) =
    cond_both (is_empty others) (ends (fault_of (finish_rows b forms n d line))) (go_on n (add_row b forms d line) (λ e. entries_left b forms (suc n) e others)) (λ (l : Left). is_of_line l.fault ≡ true)
    (λ _. finish_of_line b forms n d line) (λ _. go_of_line n (add_row b forms d line) (λ e. entries_left b forms (suc n) e others) (λ e. left_of_line b forms (suc n) e others))

own_fault : (f : Option CertificateFault) (es : List Entry) (c : Certificate) (two : Read) → is_of_line f ≡ true → unless_other (gathered c (left_with es f)) two ≡ gathered c (left_with es f)
own_fault None es c two h = refl
own_fault (Some (BadLine n)) es c two h = refl
own_fault (Some OtherVersion) es c two h = absurd cc

-- behind the first line no fault is that of another version
own : (b : Bool) (forms : FormTable) (n : ℕ) (d : NumberedDraft) (ls : List (List ℕ)) (c : Certificate) (two : Read) → unless_other (gathered c (entries_left b forms n d ls)) two ≡ gathered c (entries_left b forms n d ls)
own b forms n d ls c two =
    let l = entries_left b forms n d ls in
    own_fault l.fault l.entries c two (left_of_line b forms n d ls)

pub own_opened : (b : Bool) (forms : FormTable) (n : ℕ) (d : NumberedDraft) (ls : List (List ℕ)) (c : Certificate) (one two : Read) → one ≡ gathered c (entries_left b forms n d ls) → unless_other one two ≡ gathered c (entries_left b forms n d ls)
own_opened b forms n d ls c one two p = ap (λ r. unless_other r two) p ∙ own b forms n d ls c two

-- a line that says nothing
pub no_row : {A : Type 0} (e : LineError) (meaning : Option A) → e ≡ BadRow → Fails e meaning → meaning ≡ None
no_row e meaning p f = subst (λ x. Fails x meaning) p f

-- a line at fault is answered
pub bad_line : (e : CertError) (n : ℕ) (answer : Read) → e ≡ Refused (Bad n) → answer ≡ Err (BadLine n) → Refuses e answer
bad_line e n answer p q = subst (λ x. Refuses x answer) (sym p) q

pub bad_stop : (e : CertError) (n : ℕ) (before : Left) → e ≡ Refused (Bad n) → before ≡ ends (Some (BadLine n)) → Stops e before
bad_stop e n before p q = subst (λ x. Stops x before) (sym p) q

-- what is opened of an answer is opened of an equal one
pub opens_as : (r : Result Entries CertError) (one two : Read) → Opens r one → two ≡ one → Opens r two
opens_as r one two o p = subst (Opens r) (sym p) o

-- what is opened is no text of another version
pub own_opens : (es : Entries) (one two : Read) → Opens (Ok es) one → Opens (Ok es) (unless_other one two)
own_opens es one two o =
    opens_as (Ok es) one (unless_other one two) o (own_opened es.is_numbered (table es.table) es.cursor.number (numbered_draft es.cursor.draft) (lines_left es.cursor.rest) (front es) one two o.0 ∙ sym o.0)

pub says_as : (r : Result CertificateCode CertError) (one two : Read) → Says r one → two ≡ one → Says r two
says_as r one two s p = subst (Says r) (sym p) s

-- one entry more was given
pub one_given : {A : Type 0} (view : A → Entry) (whole rest behind : Left) (given : List A) (e : A) → whole ≡ with_first (map view given) rest → rest ≡ with_first (view e ∷ []) behind → whole ≡ with_first (map view (given ++ e ∷ [])) behind
one_given view whole rest behind given e p q =
    p ∙ ap (with_first (map view given)) q
    ∙ ap (λ es. left_with es behind.fault) (sym (append_assoc (map view given) (view e ∷ []) behind.entries) ∙ ap (λ es. es ++ behind.entries) (sym (map-append view given (e ∷ []))))

pub fewer_left : (rest behind : Left) (e : Entry) → rest ≡ with_first (e ∷ []) behind → length behind.entries < length rest.entries
fewer_left rest behind e q = omega (arith, ap (λ (l : Left). length l.entries) q)

-- what an answer gave, by its cases
pub gave : (before behind : Entries) (r : Option EntryCode) (e : EntryCode) → r ≡ Some e → Answers before (Ok r) behind → (left before ≡ with_first (entry e ∷ []) (left behind)) × (stopped behind ≡ None)
gave before behind r e p a = subst (λ x. Answers before (Ok x) behind) p a

ended_before : (before behind : Entries) → Answers before (Ok None) behind → left before ≡ ends None
ended_before before behind a = a.0.0

pub gave_none : (before behind : Entries) (r : Option EntryCode) → r ≡ None → Answers before (Ok r) behind → left before ≡ ends None
gave_none before behind r p a = ended_before before behind (subst (λ x. Answers before (Ok x) behind) p a)

-- all entries were given
pub all_given : (whole rest : Left) (es : List Entry) → whole ≡ with_first es rest → rest ≡ ends None → whole ≡ whole_of es
all_given whole rest es p q = p ∙ ap (with_first es) q ∙ ap whole_of (append-nil es)

-- what is left is refused
pub given_refused : (error : CertError) (whole rest : Left) (es : List Entry) → whole ≡ with_first es rest → Stops error rest → Ceases error whole
given_refused (Refused f) whole rest es p s = ap (λ (l : Left). l.fault) p ∙ ap (λ (l : Left). l.fault) s
given_refused Memory whole rest es p s = tt

-- an error handed on as it is
pub handed_on : {T : Type 0} (r : Result T CertError) (e : CertError) (Q : CertError → Type 0) → IsErr r × IsErrAnd r (λ x. x ≡ e) → Q e → IfErr r Q
handed_on (Ok x) e Q h q = absurd h.1
handed_on (Err x) e Q h q = subst Q (sym h.1) q

pub refused_text : (error : CertError) (c : Certificate) (whole : Left) → Ceases error whole → Refuses error (gathered c whole)
refused_text (Refused f) c whole s = ap (λ x. unless x (Ok (with_entries whole.entries c))) s
refused_text Memory c whole s = tt

pub whole_text : (c : Certificate) (whole : Left) (es : List Entry) → whole ≡ whole_of es → gathered c whole ≡ Ok (with_entries es c)
whole_text c whole es p = ap (gathered c) p
