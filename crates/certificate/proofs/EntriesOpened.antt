-- The reader of lines, a line at a time, up to the line of the first entry: for code.
use Rattle.std.proofs.Common.{◌≡◌, ℕ, suc, ◌+◌, Bool, true, false, cond, ◌&&◌, List, [], ◌∷◌, None, Some, Ok, Err, refl, ap, sym, ◌∙◌, arith}
use Rattle.std.proofs.lemmas.Bool.{cond-true, cond-false}
use Rattle.lines.specs.Lines.{is_empty}
use Rattle.certificate_text.specs.Certificate.{Place, Bound, Entry, BadLine}
use Rattle.certificate_text.specs.FormTables.{FormTable}
use Rattle.certificate_text.specs.Drafts.{Open, Nothing, InPlace, InEntry, InLemma, Ended, draft, certificate_with}
use Rattle.certificate_text.specs.Reading.{is_ended}
use Rattle.certificate_text.specs.NumberedReading.{NumberedDraft, numbered_draft, all_used, go_to}
use Rattle.certificate.specs.EntriesLeft.{add_row, read_rows, finish_rows, has_begun, gathered, entries_left}
use Rattle.certificate.proofs.EntriesRead.{one_more, rows_left}

pub row_read : (b : Bool) (forms : FormTable) (n : ℕ) (d : NumberedDraft) (ls : List (List ℕ)) (line : List ℕ) (others : List (List ℕ)) (e : NumberedDraft) → ls ≡ line ∷ others → is_empty others ≡ false → add_row b forms d line ≡ Some e → read_rows b forms n d ls ≡ read_rows b forms (n + 1) e others
row_read b forms n d ls line others e p q a =
    ap (read_rows b forms n d) p ∙ one_more b forms n d line others
    ∙ cond-false (is_empty others) (finish_rows b forms n d line) (go_to n (add_row b forms d line) (λ x. read_rows b forms (suc n) x others)) q
    ∙ ap (λ o. go_to n o (λ x. read_rows b forms (suc n) x others)) a ∙ ap (λ k. read_rows b forms k e others) (omega arith)

pub row_refused : (b : Bool) (forms : FormTable) (n : ℕ) (d : NumberedDraft) (ls : List (List ℕ)) (line : List ℕ) (others : List (List ℕ)) → ls ≡ line ∷ others → is_empty others ≡ false → add_row b forms d line ≡ None → read_rows b forms n d ls ≡ Err (BadLine n)
row_refused b forms n d ls line others p q a =
    ap (read_rows b forms n d) p ∙ one_more b forms n d line others
    ∙ cond-false (is_empty others) (finish_rows b forms n d line) (go_to n (add_row b forms d line) (λ x. read_rows b forms (suc n) x others)) q
    ∙ ap (λ o. go_to n o (λ x. read_rows b forms (suc n) x others)) a

not_ended : (o : Open) → has_begun o ≡ false → is_ended o ≡ false
not_ended Nothing h = refl
not_ended (InPlace p) h = refl
not_ended (InEntry e) h = refl
not_ended (InLemma e l) h = refl
not_ended Ended h = absurd cc

unfinished : (b : Bool) (forms : FormTable) (n : ℕ) (d : NumberedDraft) (rest : List ℕ) → has_begun d.read.opened ≡ false → finish_rows b forms n d rest ≡ Err (BadLine n)
unfinished false forms n d rest h = ap (λ e. cond (e && is_empty rest) (Ok d.read.settled) (Err (BadLine n))) (not_ended d.read.opened h)
unfinished true forms n d rest h = ap (λ e. cond (e && is_empty rest) (all_used forms d) (Err (BadLine n))) (not_ended d.read.opened h)

pub row_last : (b : Bool) (forms : FormTable) (n : ℕ) (d : NumberedDraft) (ls : List (List ℕ)) (line : List ℕ) (others : List (List ℕ)) → ls ≡ line ∷ others → is_empty others ≡ true → has_begun d.read.opened ≡ false → read_rows b forms n d ls ≡ Err (BadLine n)
row_last b forms n d ls line others p q h =
    ap (read_rows b forms n d) p ∙ one_more b forms n d line others
    ∙ cond-true (is_empty others) (finish_rows b forms n d line) (go_to n (add_row b forms d line) (λ x. read_rows b forms (suc n) x others)) q ∙ unfinished b forms n d line h

no_line : (b : Bool) (forms : FormTable) (n : ℕ) (d : NumberedDraft) → read_rows b forms n d [] ≡ Err (BadLine n)
no_line false forms n d = refl
no_line true forms n d = refl

pub row_none : (b : Bool) (forms : FormTable) (n : ℕ) (d : NumberedDraft) (ls : List (List ℕ)) → ls ≡ [] → read_rows b forms n d ls ≡ Err (BadLine n)
row_none b forms n d ls p = ap (read_rows b forms n d) p ∙ no_line b forms n d

pub behind_left : (b w j : Bool) (ps : List Place) (bs : List Bound) (es : List Entry) (forms : FormTable) (n u : ℕ) (o : Open) (ls : List (List ℕ)) → es ≡ [] → has_begun o ≡ true → read_rows b forms n (numbered_draft u (draft (certificate_with w j ps bs es) o)) ls ≡ gathered (certificate_with w j ps bs es) (entries_left b forms n (numbered_draft u (draft (certificate_with w j [] [] []) o)) ls)
behind_left b w j ps bs es forms n u o ls p h = ap (λ xs. read_rows b forms n (numbered_draft u (draft (certificate_with w j ps bs xs) o)) ls) p ∙ rows_left b w j ps bs forms n u o ls h

-- the same, with empty lists for what was taken out
pub behind_of : (b w j : Bool) (ps xs : List Place) (bs ys : List Bound) (es zs : List Entry) (forms : FormTable) (n u : ℕ) (o : Open) (ls : List (List ℕ)) → es ≡ [] → has_begun o ≡ true → xs ≡ [] → ys ≡ [] → zs ≡ [] → read_rows b forms n (numbered_draft u (draft (certificate_with w j ps bs es) o)) ls ≡ gathered (certificate_with w j ps bs es) (entries_left b forms n (numbered_draft u (draft (certificate_with w j xs ys zs) o)) ls)
behind_of b w j ps xs bs ys es zs forms n u o ls p h f g k =
    behind_left b w j ps bs es forms n u o ls p h
    ∙ ap (λ v. gathered (certificate_with w j ps bs es) (entries_left b forms n (numbered_draft u (draft (certificate_with w j v [] []) o)) ls)) (sym f)
    ∙ ap (λ v. gathered (certificate_with w j ps bs es) (entries_left b forms n (numbered_draft u (draft (certificate_with w j xs v []) o)) ls)) (sym g)
    ∙ ap (λ v. gathered (certificate_with w j ps bs es) (entries_left b forms n (numbered_draft u (draft (certificate_with w j xs ys v) o)) ls)) (sym k)
