-- What one more line leaves of a draft: how many entries it settles, and which numbers of forms were used.
use Rattle.std.proofs.Common.{◌≡◌, ℕ, ◌+◌, ◌≤◌, Bool, true, false, ◌||◌, List, [], ◌∷◌, ◌++◌, length, Some, ap, sym, subst, ◌∙◌, arith}
use Rattle.std.specs.Prelude.{max, nat_le}
use Rattle.std.proofs.lemmas.Option.{slice_get_within}
use Rattle.std.proofs.Math.Nat.{max-le}
use Rattle.linear.specs.Linear.{Form}
use Rattle.lines.specs.Lines.{is_empty, words}
use Rattle.certificate_text.specs.Certificate.{Name, Spot, Bound, EntrySort, Entry, Certificate}
use Rattle.certificate_text.specs.FormTables.{FormTable, form_at}
use Rattle.certificate_text.specs.Items.{line_forms, put_forms}
use Rattle.certificate_text.specs.Lines.{Item, PlaceItem, SameItem, FactItem, CongruenceItem, MultipleItem, BoundItem, EntryItem, LemmaItem, MainItem, StepItem, EndItem, item_of}
use Rattle.certificate_text.specs.Drafts.{Open, Nothing, InPlace, InEntry, InLemma, Ended, Draft, draft, has_line, settle, place_fits, bound_fits, entry_fits, place_at, entry_at, add_to, add_place, add_bound, add_entry, add_end, add_within, add}
use Rattle.certificate_text.specs.Reading.{add_fitting, add_line}
use Rattle.certificate_text.specs.NumberedReading.{NumberedDraft, numbered_draft, number_in, allowed_form, form_by, forms_by, filled, add_filled}
use Rattle.certificate_text.specs.Rules.{is_narrow_item}
use Rattle.certificate_text.proofs.Cuts.{then_back, when_back, cond_back, none_left}
use Rattle.certificate_text.proofs.PartsRead.{same}
use Rattle.certificate_text.proofs.Tables.{at_place}
use Rattle.certificate.specs.EntriesLeft.{add_row, has_begun}

-- one entry is settled at most, and none before the line of the first
pub record Few (o : Open) (es : List Entry) : Type 0 where
  pub few : length es ≤ 1
  pub none : has_begun o ≡ false → is_empty es ≡ true

few_in : (o : Open) (es fs : List Entry) → is_empty es ≡ true → es ≡ fs → Few o fs
few_in o es fs h q = let p = none_left es h in record { few = omega (arith, ap length (sym p ∙ q)); none = λ _. ap is_empty (sym q ∙ p) }

one_entry : (es : List Entry) (e : Entry) → is_empty es ≡ true → length (es ++ e ∷ []) ≤ 1
one_entry [] e h = omega arith
one_entry (x ∷ es) e h = absurd cc

settle_few : (c : Certificate) (o : Open) (d : Certificate) → is_empty c.entries ≡ true → settle c o ≡ Some d → Few o d.entries
settle_few c Nothing d h q = few_in Nothing c.entries d.entries h (ap (λ (x : Certificate). x.entries) (same c d q))
settle_few c (InPlace p) d h q = let w = when_back (has_line p) _ d q in few_in (InPlace p) c.entries d.entries h (ap (λ (x : Certificate). x.entries) w.1)
settle_few c (InEntry e) d h q =
    let made : Certificate = record c { entries = c.entries ++ e ∷ [] } in
    let p : c.entries ++ e ∷ [] ≡ d.entries = ap (λ (x : Certificate). x.entries) (same made d q) in
    let one = one_entry c.entries e h in
    record { few = omega (arith, ap length p, one); none = λ g. absurd cc }
settle_few c (InLemma e l) d h q = absurd cc
settle_few c Ended d h q = absurd cc

few_on : (o : Open) (c : Certificate) (e : Draft) → Few o c.entries → c.entries ≡ e.settled.entries → Few o e.settled.entries
few_on o c e f q = subst (Few o) q f

within_few : (d : Draft) (i : Item) (e : Draft) → is_empty d.settled.entries ≡ true → add_within d i ≡ Some e → Few d.opened e.settled.entries
within_few d i e h q =
    let o = then_back (add_to d.opened i) (λ o. Some (draft d.settled o)) e q in
    few_in d.opened d.settled.entries e.settled.entries h (ap (λ (x : Draft). x.settled.entries) (same (draft d.settled o.0) e o.2))

place_few : (d : Draft) (s : Spot) (e : Draft) → is_empty d.settled.entries ≡ true → add_place d s ≡ Some e → Few d.opened e.settled.entries
place_few d s e h q =
    let c = then_back (settle d.settled d.opened) _ e q in
    let w = when_back (place_fits c.0 s) (draft c.0 (InPlace (place_at s))) e c.2 in
    few_on d.opened c.0 e (settle_few d.settled d.opened c.0 h c.1) (ap (λ (x : Draft). x.settled.entries) w.1)

bound_few : (d : Draft) (b : Bound) (e : Draft) → is_empty d.settled.entries ≡ true → add_bound d b ≡ Some e → Few d.opened e.settled.entries
bound_few d b e h q =
    let c = then_back (settle d.settled d.opened) _ e q in
    let next : Certificate = record c.0 { bounds = c.0.bounds ++ b ∷ [] } in
    let w = when_back (bound_fits c.0 b) (draft next Nothing) e c.2 in
    few_on d.opened c.0 e (settle_few d.settled d.opened c.0 h c.1) (ap (λ (x : Draft). x.settled.entries) w.1)

entry_few : (d : Draft) (n : ℕ) (s : EntrySort) (e : Draft) → is_empty d.settled.entries ≡ true → add_entry d n s ≡ Some e → Few d.opened e.settled.entries
entry_few d n s e h q =
    let c = then_back (settle d.settled d.opened) _ e q in
    let w = when_back (entry_fits c.0 n) (draft c.0 (InEntry (entry_at n s))) e c.2 in
    few_on d.opened c.0 e (settle_few d.settled d.opened c.0 h c.1) (ap (λ (x : Draft). x.settled.entries) w.1)

end_few : (d e : Draft) → is_empty d.settled.entries ≡ true → add_end d ≡ Some e → Few d.opened e.settled.entries
end_few d e h q =
    let c = then_back (settle d.settled d.opened) _ e q in
    few_on d.opened c.0 e (settle_few d.settled d.opened c.0 h c.1) (ap (λ (x : Draft). x.settled.entries) (same (draft c.0 Ended) e c.2))

add_few : (d : Draft) (i : Item) (e : Draft) → is_empty d.settled.entries ≡ true → add d i ≡ Some e → Few d.opened e.settled.entries
unfolding add
add_few d (PlaceItem s) e h q = place_few d s e h q
add_few d (BoundItem b) e h q = bound_few d b e h q
add_few d (EntryItem n s) e h q = entry_few d n s e h q
add_few d EndItem e h q = end_few d e h q
add_few d (SameItem n) e h q = within_few d (SameItem n) e h q
add_few d (FactItem f) e h q = within_few d (FactItem f) e h q
add_few d (CongruenceItem c) e h q = within_few d (CongruenceItem c) e h q
add_few d (MultipleItem m) e h q = within_few d (MultipleItem m) e h q
add_few d (LemmaItem f) e h q = within_few d (LemmaItem f) e h q
add_few d MainItem e h q = within_few d MainItem e h q
add_few d (StepItem s) e h q = within_few d (StepItem s) e h q

fitting_few : (d : Draft) (i : Item) (e : Draft) → is_empty d.settled.entries ≡ true → add_fitting d i ≡ Some e → Few d.opened e.settled.entries
fitting_few d i e h q = add_few d i e h (cond_back (d.settled.is_wide || is_narrow_item i) (add d i) e q).1

pub row_few : (b : Bool) (forms : FormTable) (d : NumberedDraft) (line : List ℕ) (e : NumberedDraft) → is_empty d.read.settled.entries ≡ true → add_row b forms d line ≡ Some e → Few d.read.opened e.read.settled.entries
row_few false forms d line e h q =
    let r = then_back (add_line d.read line) (λ x. Some (numbered_draft d.used x)) e q in
    let i = then_back (item_of (words line)) (add_fitting d.read) r.0 r.1 in
    subst (λ (x : NumberedDraft). Few d.read.opened x.read.settled.entries) (same (numbered_draft d.used r.0) e r.2) (fitting_few d.read i.0 r.0 h i.2)
row_few true forms d line e h q =
    let i = then_back (item_of (words line)) _ e q in
    let f = then_back (filled forms d.used i.0) (add_filled d.read) e i.2 in
    let a = then_back (add_fitting d.read f.0.1) _ e f.2 in
    subst (λ (x : NumberedDraft). Few d.read.opened x.read.settled.entries) (same (numbered_draft f.0.0 a.0) e a.2) (fitting_few d.read f.0.1 a.0 h a.1)

-- no number that was used is past the table
form_within : (forms : FormTable) (u : ℕ) (number : Form Name) (r : ℕ × Form Name) → u ≤ length forms → form_by forms u number ≡ Some r → r.0 ≤ length forms
form_within forms u number r l e =
    let n = then_back (number_in number) _ r e in
    let f = then_back (allowed_form forms u n.0) _ r n.2 in
    let c = cond_back (nat_le n.0 (u + 1)) (form_at forms n.0) f.0 f.1 in
    let k = at_place forms n.0 f.0 c.1 in
    let below = slice_get_within forms k.0 f.0 k.2 in
    subst (λ (p : ℕ × Form Name). p.0 ≤ length forms) (same (max u n.0, f.0) r f.2) (max-le l (omega (arith, k.1, below)))

forms_within : (forms : FormTable) (u : ℕ) (numbers : List (Form Name)) (r : ℕ × List (Form Name)) → u ≤ length forms → forms_by forms u numbers ≡ Some r → r.0 ≤ length forms
forms_within forms u [] r l e = subst (λ (p : ℕ × List (Form Name)). p.0 ≤ length forms) (same (u, []) r e) l
forms_within forms u (number ∷ numbers) r l e =
    let f = then_back (form_by forms u number) _ r e in
    let fs = then_back (forms_by forms f.0.0 numbers) _ r f.2 in
    subst (λ (p : ℕ × List (Form Name)). p.0 ≤ length forms) (same (fs.0.0, f.0.1 ∷ fs.0.1) r fs.2) (forms_within forms f.0.0 numbers fs.0 (form_within forms u number f.0 l f.1) fs.1)

pub row_within : (b : Bool) (forms : FormTable) (d : NumberedDraft) (line : List ℕ) (e : NumberedDraft) → d.used ≤ length forms → add_row b forms d line ≡ Some e → e.used ≤ length forms
row_within false forms d line e l q =
    let r = then_back (add_line d.read line) (λ x. Some (numbered_draft d.used x)) e q in
    subst (λ (x : NumberedDraft). x.used ≤ length forms) (same (numbered_draft d.used r.0) e r.2) l
row_within true forms d line e l q =
    let i = then_back (item_of (words line)) _ e q in
    let f = then_back (filled forms d.used i.0) (add_filled d.read) e i.2 in
    let a = then_back (add_fitting d.read f.0.1) _ e f.2 in
    let fs = then_back (forms_by forms d.used (line_forms i.0)) _ f.0 f.1 in
    let g : f.0.0 ≤ length forms = subst (λ (p : ℕ × Item). p.0 ≤ length forms) (same (fs.0.0, put_forms fs.0.1 i.0) f.0 fs.2) (forms_within forms d.used (line_forms i.0) fs.0 l fs.1) in
    subst (λ (x : NumberedDraft). x.used ≤ length forms) (same (numbered_draft f.0.0 a.0) e a.2) g
