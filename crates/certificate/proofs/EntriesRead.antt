-- The reader of lines, behind the line of the first entry: what it reads is what stood before, and the entries that are left.
use Rattle.std.proofs.Common.{◌≡◌, ℕ, suc, ◌+◌, Bool, true, false, cond, ◌&&◌, ◌||◌, List, [], ◌∷◌, ◌++◌, length, Option, None, Some, Ok, Err, refl, ap, sym, ◌∙◌, append_assoc}
use Rattle.std.specs.Prelude.{nat_lt, nat_eq}
use Rattle.std.proofs.lemmas.List.{append-nil}
use Rattle.lines.specs.Lines.{is_empty, follows, words}
use Rattle.certificate_text.specs.Certificate.{Place, Bound, Entry, BadLine}
use Rattle.certificate_text.specs.Forms.{then, when}
use Rattle.certificate_text.specs.FormTables.{FormTable}
use Rattle.certificate_text.specs.Lines.{Item, PlaceItem, SameItem, FactItem, CongruenceItem, MultipleItem, BoundItem, EntryItem, LemmaItem, MainItem, StepItem, EndItem, item_of}
use Rattle.certificate_text.specs.Drafts.{Open, Nothing, InPlace, InEntry, InLemma, Ended, Draft, draft, certificate_with, entry_is_behind, place_is_behind, place_at, entry_at, with_step, with_lemma, lemma_at, lemma_with_step, add}
use Rattle.certificate_text.specs.Reading.{Read, add_fitting, add_line, finish, is_ended, unless, go_on as go_to_draft, read_lines}
use Rattle.certificate_text.specs.NumberedReading.{NumberedDraft, numbered_draft, filled, add_filled, table_start, go_to}
use Rattle.certificate_text.specs.Rules.{is_narrow_item}
use Rattle.certificate.specs.EntriesLeft.{Left, ends, add_row, read_rows, finish_rows, fault_of, go_on, entries_left, has_begun, gathered}

-- with these places, bounds and entries, and with none, a draft gets the same line, and settles the same entries
data Adds (w j : Bool) (ps : List Place) (bs : List Bound) (es : List Entry) (whole lean : Option Draft) : Type 0 where
  Refuses : whole ≡ None → lean ≡ None → Adds w j ps bs es whole lean
  Goes : (xs : List Entry) (o : Open) → whole ≡ Some (draft (certificate_with w j ps bs (es ++ xs)) o) → lean ≡ Some (draft (certificate_with w j [] [] xs) o) → has_begun o ≡ true → Adds w j ps bs es whole lean

last_there : (es : List Entry) (e : Entry) → is_empty (es ++ e ∷ []) ≡ false
last_there [] e = refl
last_there (x ∷ es) e = refl

no_other : {A : Type 0} (xs : List A) (es : List Entry) (e : Entry) → (is_empty xs && is_empty (es ++ e ∷ [])) ≡ false
no_other [] es e = last_there es e
no_other (x ∷ xs) es e = refl

follows_last : (es : List Entry) (e : Entry) (n : ℕ) → follows entry_is_behind (es ++ e ∷ []) n ≡ nat_lt e.obligation n
follows_last [] e n = refl
follows_last (a ∷ []) e n = refl
follows_last (a ∷ b ∷ es) e n = follows_last (b ∷ es) e n

-- nothing is settled
same_open : (w j : Bool) (ps : List Place) (bs : List Bound) (es : List Entry) (o : Open) → has_begun o ≡ true → Adds w j ps bs es (Some (draft (certificate_with w j ps bs es) o)) (Some (draft (certificate_with w j [] [] []) o))
same_open w j ps bs es o h = Goes [] o (ap (λ xs. Some (draft (certificate_with w j ps bs xs) o)) (sym (append-nil es))) refl h

-- a test that both ask
tested : (w j : Bool) (ps : List Place) (bs : List Bound) (es xs : List Entry) (o : Open) (b : Bool) → has_begun o ≡ true → Adds w j ps bs es (when b (draft (certificate_with w j ps bs (es ++ xs)) o)) (when b (draft (certificate_with w j [] [] xs) o))
tested w j ps bs es xs o true h = Goes xs o refl refl h
tested w j ps bs es xs o false h = Refuses refl refl

-- a test that only an open lemma or entry asks
tested_open : (w j : Bool) (ps : List Place) (bs : List Bound) (es : List Entry) (o : Open) (b : Bool) → has_begun o ≡ true → Adds w j ps bs es (then (when b o) (λ p. Some (draft (certificate_with w j ps bs es) p))) (then (when b o) (λ p. Some (draft (certificate_with w j [] [] []) p)))
tested_open w j ps bs es o true h = same_open w j ps bs es o h
tested_open w j ps bs es o false h = Refuses refl refl

add_begun : (w j : Bool) (ps : List Place) (bs : List Bound) (es : List Entry) (o : Open) (i : Item) → has_begun o ≡ true → Adds w j ps bs es (add (draft (certificate_with w j ps bs es) o) i) (add (draft (certificate_with w j [] [] []) o) i)
unfolding add
add_begun w j ps bs es Nothing i h = absurd cc
add_begun w j ps bs es (InPlace p) i h = absurd cc
add_begun w j ps bs es (InEntry e) (PlaceItem s) h = Refuses (ap (λ b. when (b && follows place_is_behind ps s) (draft (certificate_with w j ps bs (es ++ e ∷ [])) (InPlace (place_at s)))) (no_other bs es e)) refl
add_begun w j ps bs es (InEntry e) (BoundItem b) h = Refuses (rw (last_there es e) refl) refl
add_begun w j ps bs es (InEntry e) (EntryItem n s) h = rw (follows_last es e n) (tested w j ps bs es (e ∷ []) (InEntry (entry_at n s)) (nat_lt e.obligation n) refl)
add_begun w j ps bs es (InEntry e) EndItem h = Goes (e ∷ []) Ended refl refl refl
add_begun w j ps bs es (InEntry e) (SameItem n) h = Refuses refl refl
add_begun w j ps bs es (InEntry e) (FactItem f) h = Refuses refl refl
add_begun w j ps bs es (InEntry e) (CongruenceItem c) h = Refuses refl refl
add_begun w j ps bs es (InEntry e) (MultipleItem m) h = Refuses refl refl
add_begun w j ps bs es (InEntry e) (LemmaItem f) h = tested_open w j ps bs es (InLemma e (lemma_at f)) (is_empty e.lemmas && is_empty e.steps) refl
add_begun w j ps bs es (InEntry e) MainItem h = Refuses refl refl
add_begun w j ps bs es (InEntry e) (StepItem s) h = same_open w j ps bs es (InEntry (with_step e s)) refl
add_begun w j ps bs es (InLemma e l) (PlaceItem s) h = Refuses refl refl
add_begun w j ps bs es (InLemma e l) (BoundItem b) h = Refuses refl refl
add_begun w j ps bs es (InLemma e l) (EntryItem n s) h = Refuses refl refl
add_begun w j ps bs es (InLemma e l) EndItem h = Refuses refl refl
add_begun w j ps bs es (InLemma e l) (SameItem n) h = Refuses refl refl
add_begun w j ps bs es (InLemma e l) (FactItem f) h = Refuses refl refl
add_begun w j ps bs es (InLemma e l) (CongruenceItem c) h = Refuses refl refl
add_begun w j ps bs es (InLemma e l) (MultipleItem m) h = Refuses refl refl
add_begun w j ps bs es (InLemma e l) (LemmaItem f) h = same_open w j ps bs es (InLemma (with_lemma e l) (lemma_at f)) refl
add_begun w j ps bs es (InLemma e l) MainItem h = same_open w j ps bs es (InEntry (with_lemma e l)) refl
add_begun w j ps bs es (InLemma e l) (StepItem s) h = same_open w j ps bs es (InLemma e (lemma_with_step l s)) refl
add_begun w j ps bs es Ended (PlaceItem s) h = Refuses refl refl
add_begun w j ps bs es Ended (BoundItem b) h = Refuses refl refl
add_begun w j ps bs es Ended (EntryItem n s) h = Refuses refl refl
add_begun w j ps bs es Ended EndItem h = Refuses refl refl
add_begun w j ps bs es Ended (SameItem n) h = Refuses refl refl
add_begun w j ps bs es Ended (FactItem f) h = Refuses refl refl
add_begun w j ps bs es Ended (CongruenceItem c) h = Refuses refl refl
add_begun w j ps bs es Ended (MultipleItem m) h = Refuses refl refl
add_begun w j ps bs es Ended (LemmaItem f) h = Refuses refl refl
add_begun w j ps bs es Ended MainItem h = Refuses refl refl
add_begun w j ps bs es Ended (StepItem s) h = Refuses refl refl

fitting_by : (w j : Bool) (ps : List Place) (bs : List Bound) (es : List Entry) (b : Bool) (whole lean : Option Draft) → Adds w j ps bs es whole lean → Adds w j ps bs es (cond b whole None) (cond b lean None)
fitting_by w j ps bs es true whole lean a = a
fitting_by w j ps bs es false whole lean a = Refuses refl refl

fitting_begun : (w j : Bool) (ps : List Place) (bs : List Bound) (es : List Entry) (o : Open) (i : Item) → has_begun o ≡ true → Adds w j ps bs es (add_fitting (draft (certificate_with w j ps bs es) o) i) (add_fitting (draft (certificate_with w j [] [] []) o) i)
fitting_begun w j ps bs es o i h = fitting_by w j ps bs es (w || is_narrow_item i) _ _ (add_begun w j ps bs es o i h)

-- the same of rows
data Rows (w j : Bool) (ps : List Place) (bs : List Bound) (es : List Entry) (whole lean : Option NumberedDraft) : Type 0 where
  RefusesRow : whole ≡ None → lean ≡ None → Rows w j ps bs es whole lean
  GoesOn : (u : ℕ) (xs : List Entry) (o : Open) → whole ≡ Some (numbered_draft u (draft (certificate_with w j ps bs (es ++ xs)) o)) → lean ≡ Some (numbered_draft u (draft (certificate_with w j [] [] xs) o)) → has_begun o ≡ true → Rows w j ps bs es whole lean

row_by : (w j : Bool) (ps : List Place) (bs : List Bound) (es : List Entry) (u : ℕ) (whole lean : Option Draft) → Adds w j ps bs es whole lean → Rows w j ps bs es (then whole (λ e. Some (numbered_draft u e))) (then lean (λ e. Some (numbered_draft u e)))
row_by w j ps bs es u whole lean (Refuses p q) = RefusesRow (ap (λ o. then o (λ e. Some (numbered_draft u e))) p) (ap (λ o. then o (λ e. Some (numbered_draft u e))) q)
row_by w j ps bs es u whole lean (Goes xs o p q h) = GoesOn u xs o (ap (λ r. then r (λ e. Some (numbered_draft u e))) p) (ap (λ r. then r (λ e. Some (numbered_draft u e))) q) h

plain_row : (w j : Bool) (ps : List Place) (bs : List Bound) (es : List Entry) (u : ℕ) (o : Open) (i : Option Item) → has_begun o ≡ true → Rows w j ps bs es (then (then i (add_fitting (draft (certificate_with w j ps bs es) o))) (λ e. Some (numbered_draft u e))) (then (then i (add_fitting (draft (certificate_with w j [] [] []) o))) (λ e. Some (numbered_draft u e)))
plain_row w j ps bs es u o None h = RefusesRow refl refl
plain_row w j ps bs es u o (Some i) h = row_by w j ps bs es u _ _ (fitting_begun w j ps bs es o i h)

filled_row : (w j : Bool) (ps : List Place) (bs : List Bound) (es : List Entry) (o : Open) (r : Option (ℕ × Item)) → has_begun o ≡ true → Rows w j ps bs es (then r (add_filled (draft (certificate_with w j ps bs es) o))) (then r (add_filled (draft (certificate_with w j [] [] []) o)))
filled_row w j ps bs es o None h = RefusesRow refl refl
filled_row w j ps bs es o (Some r) h = row_by w j ps bs es r.0 _ _ (fitting_begun w j ps bs es o r.1 h)

numbered_row : (w j : Bool) (ps : List Place) (bs : List Bound) (es : List Entry) (forms : FormTable) (u : ℕ) (o : Open) (i : Option Item) → has_begun o ≡ true → Rows w j ps bs es (then i (λ item. then (filled forms u item) (add_filled (draft (certificate_with w j ps bs es) o)))) (then i (λ item. then (filled forms u item) (add_filled (draft (certificate_with w j [] [] []) o))))
numbered_row w j ps bs es forms u o None h = RefusesRow refl refl
numbered_row w j ps bs es forms u o (Some i) h = filled_row w j ps bs es o (filled forms u i) h

row_begun : (b w j : Bool) (ps : List Place) (bs : List Bound) (es : List Entry) (forms : FormTable) (u : ℕ) (o : Open) (line : List ℕ) → has_begun o ≡ true → Rows w j ps bs es (add_row b forms (numbered_draft u (draft (certificate_with w j ps bs es) o)) line) (add_row b forms (numbered_draft u (draft (certificate_with w j [] [] []) o)) line)
row_begun false w j ps bs es forms u o line h = plain_row w j ps bs es u o (item_of (words line)) h
row_begun true w j ps bs es forms u o line h = numbered_row w j ps bs es forms u o (item_of (words line)) h

-- the reader of lines, a line at a time
gone_on : (n : ℕ) (u : ℕ) (o : Option Draft) (others : List (List ℕ)) → go_to_draft n o (λ e. read_lines (suc n) e others) ≡ go_to n (then o (λ e. Some (numbered_draft u e))) (λ e. read_lines (suc n) e.read others)
gone_on n u None others = refl
gone_on n u (Some d) others = refl

pub one_more : (b : Bool) (forms : FormTable) (n : ℕ) (d : NumberedDraft) (line : List ℕ) (others : List (List ℕ)) → read_rows b forms n d (line ∷ others) ≡ cond (is_empty others) (finish_rows b forms n d line) (go_to n (add_row b forms d line) (λ e. read_rows b forms (suc n) e others))
one_more false forms n d line others = ap (cond (is_empty others) (finish n d.read line)) (gone_on n d.used (add_line d.read line) others)
one_more true forms n d line others = refl

-- what is read with these entries before those that are left
abbrev joined : (w j : Bool) → List Place → List Bound → List Entry → Left → Read
joined w j ps bs es l = unless l.fault (Ok (certificate_with w j ps bs (es ++ l.entries)))

ended_by : (w j : Bool) (ps : List Place) (bs : List Bound) (es : List Entry) (b : Bool) (n : ℕ) → cond b (Ok (certificate_with w j ps bs es)) (Err (BadLine n)) ≡ joined w j ps bs es (ends (fault_of (cond b (Ok (certificate_with w j [] [] [])) (Err (BadLine n)))))
ended_by w j ps bs es true n = ap (λ xs. Ok (certificate_with w j ps bs xs)) (sym (append-nil es))
ended_by w j ps bs es false n = refl

ended_used : (w j : Bool) (ps : List Place) (bs : List Bound) (es : List Entry) (b used : Bool) (n m : ℕ) → cond b (cond used (Ok (certificate_with w j ps bs es)) (Err (BadLine m))) (Err (BadLine n)) ≡ joined w j ps bs es (ends (fault_of (cond b (cond used (Ok (certificate_with w j [] [] [])) (Err (BadLine m))) (Err (BadLine n)))))
ended_used w j ps bs es true used n m = ended_by w j ps bs es used m
ended_used w j ps bs es false used n m = refl

finish_joined : (b w j : Bool) (ps : List Place) (bs : List Bound) (es : List Entry) (forms : FormTable) (n u : ℕ) (o : Open) (rest : List ℕ) → finish_rows b forms n (numbered_draft u (draft (certificate_with w j ps bs es) o)) rest ≡ joined w j ps bs es (ends (fault_of (finish_rows b forms n (numbered_draft u (draft (certificate_with w j [] [] []) o)) rest)))
finish_joined false w j ps bs es forms n u o rest = ended_by w j ps bs es (is_ended o && is_empty rest) n
finish_joined true w j ps bs es forms n u o rest = ended_used w j ps bs es (is_ended o && is_empty rest) (nat_eq u (length forms)) n (u + table_start j)

chosen : (w j : Bool) (ps : List Place) (bs : List Bound) (es : List Entry) (last : Bool) (one two : Read) (three four : Left) → one ≡ joined w j ps bs es three → two ≡ joined w j ps bs es four → cond last one two ≡ joined w j ps bs es (cond last three four)
chosen w j ps bs es true one two three four p q = p
chosen w j ps bs es false one two three four p q = q

-- a line behind which others stand
more_joined : (b w j : Bool) (ps : List Place) (bs : List Bound) (es : List Entry) (forms : FormTable) (n : ℕ) (others : List (List ℕ)) (whole lean : Option NumberedDraft) → Rows w j ps bs es whole lean → ((u : ℕ) (xs : List Entry) (o : Open) → has_begun o ≡ true → read_rows b forms (suc n) (numbered_draft u (draft (certificate_with w j ps bs xs) o)) others ≡ joined w j ps bs xs (entries_left b forms (suc n) (numbered_draft u (draft (certificate_with w j [] [] []) o)) others)) → go_to n whole (λ e. read_rows b forms (suc n) e others) ≡ joined w j ps bs es (go_on n lean (λ e. entries_left b forms (suc n) e others))
more_joined b w j ps bs es forms n others whole lean (RefusesRow p q) next = rw (p, q) refl
more_joined b w j ps bs es forms n others whole lean (GoesOn u xs o p q h) next =
    let l = entries_left b forms (suc n) (numbered_draft u (draft (certificate_with w j [] [] []) o)) others in
    ap (λ r. go_to n r (λ e. read_rows b forms (suc n) e others)) p ∙ next u (es ++ xs) o h
    ∙ ap (λ ys. unless l.fault (Ok (certificate_with w j ps bs ys))) (append_assoc es xs l.entries)
    ∙ ap (λ r. joined w j ps bs es (go_on n r (λ e. entries_left b forms (suc n) e others))) (sym q)

nothing_left : (b w j : Bool) (ps : List Place) (bs : List Bound) (es : List Entry) (forms : FormTable) (n : ℕ) (d : NumberedDraft) → read_rows b forms n d [] ≡ joined w j ps bs es (ends (Some (BadLine n)))
nothing_left false w j ps bs es forms n d = refl
nothing_left true w j ps bs es forms n d = refl

left_joined : (b w j : Bool) (ps : List Place) (bs : List Bound) (es : List Entry) (forms : FormTable) (n u : ℕ) (o : Open) (ls : List (List ℕ)) → has_begun o ≡ true → read_rows b forms n (numbered_draft u (draft (certificate_with w j ps bs es) o)) ls ≡ joined w j ps bs es (entries_left b forms n (numbered_draft u (draft (certificate_with w j [] [] []) o)) ls)
left_joined b w j ps bs es forms n u o [] h = nothing_left b w j ps bs es forms n (numbered_draft u (draft (certificate_with w j ps bs es) o))
left_joined b w j ps bs es forms n u o (line ∷ others) h =
    let d = numbered_draft u (draft (certificate_with w j ps bs es) o) in
    let e = numbered_draft u (draft (certificate_with w j [] [] []) o) in
    one_more b forms n d line others
    ∙ chosen w j ps bs es (is_empty others) (finish_rows b forms n d line) (go_to n (add_row b forms d line) (λ x. read_rows b forms (suc n) x others)) (ends (fault_of (finish_rows b forms n e line))) (go_on n (add_row b forms e line) (λ x. entries_left b forms (suc n) x others))
    (finish_joined b w j ps bs es forms n u o line)
    (more_joined b w j ps bs es forms n others (add_row b forms d line) (add_row b forms e line) (row_begun b w j ps bs es forms u o line h) (λ v xs p g. left_joined b w j ps bs xs forms (suc n) v p others g))

-- behind the line of the first entry, what is read is what stood before, and the entries that are left
pub rows_left : (b w j : Bool) (ps : List Place) (bs : List Bound) (forms : FormTable) (n u : ℕ) (o : Open) (ls : List (List ℕ)) → has_begun o ≡ true → read_rows b forms n (numbered_draft u (draft (certificate_with w j ps bs []) o)) ls ≡ gathered (certificate_with w j ps bs []) (entries_left b forms n (numbered_draft u (draft (certificate_with w j [] [] []) o)) ls)
rows_left b w j ps bs forms n u o ls h = left_joined b w j ps bs [] forms n u o ls h
