-- The entries that are left, a line at a time: for code.
use Rattle.std.proofs.Common.{◌≡◌, ℕ, suc, ◌+◌, ◌≤◌, Bool, true, false, List, [], ◌∷◌, ◌++◌, length, map, Option, None, Some, refl, ap, sym, subst, ◌∙◌, arith}
use Rattle.std.specs.Prelude.{MatchOption, option_to_list, is_some}
use Rattle.std.specs.Option.{option_map}
use Rattle.std.proofs.lemmas.Bool.{cond-true, cond-false}
use Rattle.std.proofs.lemmas.List.{length-map}
use Rattle.lines.specs.Lines.{is_empty}
use Rattle.certificate_text.specs.Certificate.{Place, Bound, Entry, CertificateFault, BadLine}
use Rattle.certificate_text.specs.Drafts.{Open, draft, certificate_with}
use Rattle.certificate_text.specs.FormTables.{FormTable}
use Rattle.certificate_text.specs.NumberedReading.{NumberedDraft, numbered_draft}
use Rattle.certificate_text.proofs.PartsRead.{same}
use Rattle.certificate.specs.EntriesLeft.{Left, ends, with_first, add_row, finish_rows, fault_of, go_on, entries_left}
use Rattle.certificate.specs.EntryAnswers.{settled_first, given, Gives}
use Rattle.certificate.specs.declared.tree.Entry.{Entry as EntryCode}
use Rattle.certificate.proofs.RowsKept.{row_few, row_within}

-- the text ends here
pub at_end : (b : Bool) (forms : FormTable) (n : ℕ) (d : NumberedDraft) (ls : List (List ℕ)) (line : List ℕ) (others : List (List ℕ)) → ls ≡ line ∷ others → is_empty others ≡ true → entries_left b forms n d ls ≡ ends (fault_of (finish_rows b forms n d line))
at_end b forms n d ls line others p q =
    ap (entries_left b forms n d) p
    ∙ cond-true (is_empty others) (ends (fault_of (finish_rows b forms n d line))) (go_on n (add_row b forms d line) (λ e. entries_left b forms (suc n) e others)) q

gone_on : (n : ℕ) (o : Option NumberedDraft) (xs : List Entry) (e : NumberedDraft) (go : NumberedDraft → Left) → option_map settled_first o ≡ Some (xs, e) → go_on n o go ≡ with_first xs (go e)
gone_on n None xs e go q = absurd cc
gone_on n (Some d) xs e go q = ap (λ (r : List Entry × NumberedDraft). with_first r.0 (go r.1)) (same (settled_first d) (xs, e) q)

refused : (n : ℕ) (o : Option NumberedDraft) (go : NumberedDraft → Left) → option_map settled_first o ≡ None → go_on n o go ≡ ends (Some (BadLine n))
refused n None go q = refl
refused n (Some d) go q = absurd cc

-- a line settles entries
pub turn : (b : Bool) (forms : FormTable) (n : ℕ) (d : NumberedDraft) (ls : List (List ℕ)) (line : List ℕ) (others : List (List ℕ)) (xs : List Entry) (e : NumberedDraft) → ls ≡ line ∷ others → is_empty others ≡ false → option_map settled_first (add_row b forms d line) ≡ Some (xs, e) → entries_left b forms n d ls ≡ with_first xs (entries_left b forms (n + 1) e others)
turn b forms n d ls line others xs e p q a =
    ap (entries_left b forms n d) p
    ∙ cond-false (is_empty others) (ends (fault_of (finish_rows b forms n d line))) (go_on n (add_row b forms d line) (λ x. entries_left b forms (suc n) x others)) q
    ∙ gone_on n (add_row b forms d line) xs e (λ x. entries_left b forms (suc n) x others) a ∙ ap (λ m. with_first xs (entries_left b forms m e others)) (omega arith)

-- a line is at fault
pub turn_fault : (b : Bool) (forms : FormTable) (n : ℕ) (d : NumberedDraft) (ls : List (List ℕ)) (line : List ℕ) (others : List (List ℕ)) → ls ≡ line ∷ others → is_empty others ≡ false → option_map settled_first (add_row b forms d line) ≡ None → entries_left b forms n d ls ≡ ends (Some (BadLine n))
turn_fault b forms n d ls line others p q a =
    ap (entries_left b forms n d) p
    ∙ cond-false (is_empty others) (ends (fault_of (finish_rows b forms n d line))) (go_on n (add_row b forms d line) (λ x. entries_left b forms (suc n) x others)) q
    ∙ refused n (add_row b forms d line) (λ x. entries_left b forms (suc n) x others) a

-- what one line leaves
pub record Turned (forms : FormTable) (xs : List Entry) (e : NumberedDraft) : Type 0 where
  pub few : length xs ≤ 1
  pub used : e.used ≤ length forms
  pub settled : is_empty e.read.settled.entries ≡ true

turned_by : (b : Bool) (forms : FormTable) (d : NumberedDraft) (line : List ℕ) (o : Option NumberedDraft) (xs : List Entry) (e : NumberedDraft) → is_empty d.read.settled.entries ≡ true → d.used ≤ length forms → add_row b forms d line ≡ o → option_map settled_first o ≡ Some (xs, e) → Turned forms xs e
turned_by b forms d line None xs e h l a q = absurd cc
turned_by b forms d line (Some x) xs e h l a q =
    let f = row_few b forms d line x h a in
    let u = row_within b forms d line x l a in
    subst (λ (r : List Entry × NumberedDraft). Turned forms r.0 r.1) (same (settled_first x) (xs, e) q) (record { few = f.few; used = u; settled = refl })

pub turned : (b : Bool) (forms : FormTable) (d : NumberedDraft) (line : List ℕ) (xs : List Entry) (e : NumberedDraft) → is_empty d.read.settled.entries ≡ true → d.used ≤ length forms → option_map settled_first (add_row b forms d line) ≡ Some (xs, e) → Turned forms xs e
turned b forms d line xs e h l q = turned_by b forms d line (add_row b forms d line) xs e h l refl q

-- the last of one at most, taken off
nothing : {A : Type 0} (xs : List A) → length xs ≡ 0 → xs ≡ []
nothing [] h = refl
nothing (x ∷ xs) h = absurd (omega (arith, h))

pub popped : {A B : Type 0} (view : A → B) (before after : List A) (last : Option A) (n m : ℕ) → n ≡ length before → m ≡ length after → before ≡ after ++ option_to_list last → length (map view before) ≤ 1 → MatchOption last ((n ≡ 0) × (m ≡ 0)) (λ _. m + 1 ≡ n) → (option_to_list (option_map view last) ≡ map view before) × (map view after ≡ [])
popped view before after None n m e f p l h = (sym (ap (map view) (nothing before (sym e ∙ h.0))), ap (map view) (nothing after (sym f ∙ h.1)))
popped view before after (Some x) n m e f p l h =
    let q = nothing after (omega (arith, l, h, e, f, length-map before view)) in
    (sym (ap (map view) (p ∙ ap (λ ys. ys ++ x ∷ []) q)), ap (map view) q)

-- the one entry that was settled is taken out
pub taken_off : (u : ℕ) (w j : Bool) (ps : List Place) (bs : List Bound) (o : Open) (xs given rest : List Entry) → given ≡ xs → rest ≡ [] → Some (settled_first (numbered_draft u (draft (certificate_with w j ps bs xs) o))) ≡ Some (given, numbered_draft u (draft (certificate_with w j ps bs rest) o))
taken_off u w j ps bs o xs given rest p q = rw (p, q) refl

-- the end, where nothing is at fault, and where something is
pub over : (b : Bool) (forms : FormTable) (n : ℕ) (d : NumberedDraft) (ls : List (List ℕ)) (line : List ℕ) (others : List (List ℕ)) (f : Option CertificateFault) → ls ≡ line ∷ others → is_empty others ≡ true → f ≡ fault_of (finish_rows b forms n d line) → entries_left b forms n d ls ≡ ends f
over b forms n d ls line others f p q e = at_end b forms n d ls line others p q ∙ ap ends (sym e)

pub no_line : (b : Bool) (forms : FormTable) (n : ℕ) (d : NumberedDraft) (ls : List (List ℕ)) → ls ≡ [] → entries_left b forms n d ls ≡ ends (Some (BadLine n))
no_line b forms n d ls p = ap (entries_left b forms n d) p

-- a line that settles nothing, and one that settles an entry
pub nothing_given : (e : Option EntryCode) → is_some e ≡ false → given e ≡ []
nothing_given None h = refl
nothing_given (Some x) h = absurd cc

pub gives : (before behind : Left) (e : Option EntryCode) → is_some e ≡ true → before ≡ with_first (given e) behind → Gives before e behind
gives before behind None h p = absurd cc
gives before behind (Some x) h p = p
