-- Reading and writing versions 2 and 4, a step at a time: for code.
use Rattle.std.proofs.Common.{◌≡◌, ℕ, suc, ◌+◌, ◌≤◌, Bool, false, true, ◌&&◌, ◌||◌, List, [], ◌∷◌, ◌++◌, length, map, None, Some, Err, refl, ap, sym, subst, ◌∙◌, arith}
use Rattle.std.specs.Prelude.{ℤ, codes, fold, max, not, nat_le}
use Rattle.std.specs.List.{flat_map}
use Rattle.std.specs.Fmt.{decimal, signed_decimal}
use Rattle.std.proofs.lemmas.Bool.{cond-false}
use Rattle.std.proofs.lemmas.Grind.{flat_map-append, fold-append}
use Rattle.std.proofs.lemmas.List.{append-nil}
use Rattle.std.proofs.lemmas.Option.{slice_get_within}
use Rattle.std.proofs.Math.Nat.{max-le}
use Rattle.linear.specs.Linear.{Form}
use Rattle.lines.specs.Lines.{is_empty, words}
use Rattle.certificate_text.specs.Certificate.{Name, Congruence, Multiple, Double, Bound, Place, Quotient, Step, Lemma, Entry, BadLine}
use Rattle.certificate_text.specs.Text.{descent_text}
use Rattle.certificate_text.specs.Forms.{form_of}
use Rattle.certificate_text.specs.Lines.{Item, SameItem, FactItem, CongruenceItem, MultipleItem, BoundItem, EntryItem, LemmaItem, StepItem, item_of}
use Rattle.certificate_text.specs.Drafts.{begun}
use Rattle.certificate_text.specs.Reading.{add_fitting}
use Rattle.certificate_text.specs.Rules.{all, is_form, is_narrow_form}
use Rattle.certificate_text.specs.Items.{place_items, lemma_items, main_items, entry_items, line_forms, sort_forms, put_forms}
use Rattle.certificate_text.specs.FormTables.{FormTable, has_form, with_form, number_of, form_at}
use Rattle.certificate_text.specs.NumberedText.{forms_in, numbered_line}
use Rattle.certificate_text.specs.NumberedReading.{number_in, allowed_form, form_by, forms_by, filled, NumberedDraft, numbered_draft, add_filled, add_numbered, finish_numbered, go_to, read_numbered, table_words, add_form, by_table_words, read_table}
use Rattle.certificate_text.proofs.Cuts.{then_back, when_back, cond_back, all_push}
use Rattle.certificate_text.proofs.PartsRead.{is_part}
use Rattle.certificate_text.proofs.ItemsRead.{item_part, item_back}
use Rattle.certificate_text.proofs.PartsRead.{andt, same}
use Rattle.certificate_text.proofs.PartsRead.{whole_back}
use Rattle.certificate_text.proofs.DraftsRead.{IsRead, add_fitting_back}
use Rattle.certificate_text.proofs.Tables.{all_at, at_place}
use Rattle.certificate_text.proofs.FormsPut.{put_good}

-- a line of the table is read
pub table_row : (is_wide joins : Bool) (forms : FormTable) (n : ℕ) (ls : List (List ℕ)) (line : List ℕ) (others ws : List (List ℕ)) (more : FormTable) → ls ≡ line ∷ others → is_empty others ≡ false → table_words (words line) ≡ Some ws → add_form is_wide forms ws ≡ Some more → read_table is_wide joins forms n ls ≡ read_table is_wide joins more (n + 1) others
table_row is_wide joins forms n ls line others ws more p e w a =
    let body = read_numbered forms n (numbered_draft 0 (begun is_wide joins)) (line ∷ others) in
    ap (read_table is_wide joins forms n) p
    ∙ cond-false (is_empty others) (Err (BadLine n)) (by_table_words (table_words (words line)) body (λ v. go_to n (add_form is_wide forms v) (λ m. read_table is_wide joins m (suc n) others))) e
    ∙ ap (λ o. by_table_words o body (λ v. go_to n (add_form is_wide forms v) (λ m. read_table is_wide joins m (suc n) others))) w
    ∙ ap (λ o. go_to n o (λ m. read_table is_wide joins m (suc n) others)) a ∙ ap (λ k. read_table is_wide joins more k others) (omega arith)

-- a line of the table is at fault
pub table_fault : (is_wide joins : Bool) (forms : FormTable) (n : ℕ) (ls : List (List ℕ)) (line : List ℕ) (others ws : List (List ℕ)) → ls ≡ line ∷ others → is_empty others ≡ false → table_words (words line) ≡ Some ws → add_form is_wide forms ws ≡ None → read_table is_wide joins forms n ls ≡ Err (BadLine n)
table_fault is_wide joins forms n ls line others ws p e w a =
    let body = read_numbered forms n (numbered_draft 0 (begun is_wide joins)) (line ∷ others) in
    ap (read_table is_wide joins forms n) p
    ∙ cond-false (is_empty others) (Err (BadLine n)) (by_table_words (table_words (words line)) body (λ v. go_to n (add_form is_wide forms v) (λ m. read_table is_wide joins m (suc n) others))) e
    ∙ ap (λ o. by_table_words o body (λ v. go_to n (add_form is_wide forms v) (λ m. read_table is_wide joins m (suc n) others))) w
    ∙ ap (λ o. go_to n o (λ m. read_table is_wide joins m (suc n) others)) a

-- the table ends before a line that is none of it
pub table_over : (is_wide joins : Bool) (forms : FormTable) (n : ℕ) (ls : List (List ℕ)) (line : List ℕ) (others : List (List ℕ)) → ls ≡ line ∷ others → is_empty others ≡ false → table_words (words line) ≡ None → read_table is_wide joins forms n ls ≡ read_numbered forms n (numbered_draft 0 (begun is_wide joins)) ls
table_over is_wide joins forms n ls line others p e w =
    let body = read_numbered forms n (numbered_draft 0 (begun is_wide joins)) (line ∷ others) in
    ap (read_table is_wide joins forms n) p
    ∙ cond-false (is_empty others) (Err (BadLine n)) (by_table_words (table_words (words line)) body (λ v. go_to n (add_form is_wide forms v) (λ m. read_table is_wide joins m (suc n) others))) e
    ∙ ap (λ o. by_table_words o body (λ v. go_to n (add_form is_wide forms v) (λ m. read_table is_wide joins m (suc n) others))) w
    ∙ ap (read_numbered forms n (numbered_draft 0 (begun is_wide joins))) (sym p)

-- a line behind the table is read
pub numbered_row : (forms : FormTable) (n : ℕ) (d : NumberedDraft) (ls : List (List ℕ)) (line : List ℕ) (others : List (List ℕ)) (e : NumberedDraft) → ls ≡ line ∷ others → is_empty others ≡ false → add_numbered forms d line ≡ Some e → read_numbered forms n d ls ≡ read_numbered forms (n + 1) e others
numbered_row forms n d ls line others e p q a =
    ap (read_numbered forms n d) p
    ∙ cond-false (is_empty others) (finish_numbered forms n d line) (go_to n (add_numbered forms d line) (λ x. read_numbered forms (suc n) x others)) q
    ∙ ap (λ o. go_to n o (λ x. read_numbered forms (suc n) x others)) a ∙ ap (λ k. read_numbered forms k e others) (omega arith)

-- a table keeps that its forms can be written
pub add_form_keeps : (is_wide : Bool) (forms : FormTable) (ws : List (List ℕ)) (more : FormTable) → all is_form forms ≡ true → add_form is_wide forms ws ≡ Some more → all is_form more ≡ true
add_form_keeps is_wide forms ws more h q =
    let f = then_back (form_of [] ws) _ more q in
    let a = when_back ((is_wide || is_narrow_form f.0) && not (has_form forms f.0)) (forms ++ f.0 ∷ []) more f.2 in
    ap (all is_form) (sym a.1) ∙ all_push is_form forms f.0 h (whole_back ws f.0 f.1).1

-- a form of the table can be written, and no number is past the table
form_by_keeps : (forms : FormTable) (u : ℕ) (number : Form Name) (r : ℕ × Form Name) → all is_form forms ≡ true → u ≤ length forms → form_by forms u number ≡ Some r → (is_form r.1 ≡ true) × (r.0 ≤ length forms)
form_by_keeps forms u number r h l e =
    let n = then_back (number_in number) _ r e in
    let f = then_back (allowed_form forms u n.0) _ r n.2 in
    let c = cond_back (nat_le n.0 (u + 1)) (form_at forms n.0) f.0 f.1 in
    let k = at_place forms n.0 f.0 c.1 in
    let below = slice_get_within forms k.0 f.0 k.2 in
    subst (λ (p : ℕ × Form Name). (is_form p.1 ≡ true) × (p.0 ≤ length forms)) (same (max u n.0, f.0) r f.2) (all_at is_form forms k.0 f.0 h k.2, max-le l (omega (arith, k.1, below)))

forms_by_keeps : (forms : FormTable) (u : ℕ) (numbers : List (Form Name)) (r : ℕ × List (Form Name)) → all is_form forms ≡ true → u ≤ length forms → forms_by forms u numbers ≡ Some r → (all is_form r.1 ≡ true) × (r.0 ≤ length forms)
forms_by_keeps forms u [] r h l e = subst (λ (p : ℕ × List (Form Name)). (all is_form p.1 ≡ true) × (p.0 ≤ length forms)) (same (u, []) r e) (refl, l)
forms_by_keeps forms u (number ∷ numbers) r h l e =
    let f = then_back (form_by forms u number) _ r e in
    let fs = then_back (forms_by forms f.0.0 numbers) _ r f.2 in
    let x = form_by_keeps forms u number f.0 h l f.1 in
    let y = forms_by_keeps forms f.0.0 numbers fs.0 h x.1 fs.1 in
    subst (λ (p : ℕ × List (Form Name)). (all is_form p.1 ≡ true) × (p.0 ≤ length forms)) (same (fs.0.0, f.0.1 ∷ fs.0.1) r fs.2) (andt (is_form f.0.1) (all is_form fs.0.1) x.0 y.0, y.1)

-- a line that was filled can be written
filled_keeps : (forms : FormTable) (u : ℕ) (raw : Item) (r : ℕ × Item) → all is_form forms ≡ true → u ≤ length forms → is_part raw ≡ true → filled forms u raw ≡ Some r → (is_part r.1 ≡ true) × (r.0 ≤ length forms)
filled_keeps forms u raw r h l g e =
    let fs = then_back (forms_by forms u (line_forms raw)) _ r e in
    let x = forms_by_keeps forms u (line_forms raw) fs.0 h l fs.1 in
    subst (λ (p : ℕ × Item). (is_part p.1 ≡ true) × (p.0 ≤ length forms)) (same (fs.0.0, put_forms fs.0.1 raw) r fs.2) (put_good fs.0.1 raw x.0 g, x.1)

pub add_numbered_keeps : (forms : FormTable) (d : NumberedDraft) (line : List ℕ) (e : NumberedDraft) → all is_form forms ≡ true → IsRead d.read → d.used ≤ length forms → add_numbered forms d line ≡ Some e → IsRead e.read × (e.used ≤ length forms)
add_numbered_keeps forms d line e h w l q =
    let raw = then_back (item_of (words line)) _ e q in
    let r = then_back (filled forms d.used raw.0) (add_filled d.read) e raw.2 in
    let g = filled_keeps forms d.used raw.0 r.0 h l (item_part raw.0 (item_back line raw.0 raw.1).1) r.1 in
    let a = then_back (add_fitting d.read r.0.1) _ e r.2 in
    let x = add_fitting_back d.read r.0.1 a.0 w g.0 a.1 in
    subst (λ (n : NumberedDraft). IsRead n.read × (n.used ≤ length forms)) (same (numbered_draft r.0.0 a.0) e a.2) (x.read, g.1)

-- the forms of lines behind others
pub forms_on : (before items : List Item) → forms_in (before ++ items) ≡ fold with_form (forms_in before) (flat_map line_forms items)
forms_on before items =
    ap (fold with_form []) (flat_map-append line_forms before items) ∙ fold-append with_form [] (flat_map line_forms before) (flat_map line_forms items)

-- the forms of a place, of bounds and of entries, in the order of their lines
without : {A : Type 0} (make : A → Item) → ((a : A) → line_forms (make a) ≡ []) → (xs : List A) → flat_map line_forms (map make xs) ≡ []
without make e [] = refl
without make e (x ∷ xs) = ap (λ fs. fs ++ flat_map line_forms (map make xs)) (e x) ∙ without make e xs

with_each : {A : Type 0} (make : A → Item) (own : A → List (Form Name)) → ((a : A) → line_forms (make a) ≡ own a) → (xs : List A) → flat_map line_forms (map make xs) ≡ flat_map own xs
with_each make own e [] = refl
with_each make own e (x ∷ xs) = ap (λ fs. fs ++ flat_map line_forms (map make xs)) (e x) ∙ ap (λ fs. own x ++ fs) (with_each make own e xs)

one_each : {A : Type 0} (make : A → Item) (own : A → Form Name) → ((a : A) → line_forms (make a) ≡ own a ∷ []) → (xs : List A) → flat_map line_forms (map make xs) ≡ map own xs
one_each make own e [] = refl
one_each make own e (x ∷ xs) = ap (λ fs. fs ++ flat_map line_forms (map make xs)) (e x) ∙ ap (λ fs. own x ∷ fs) (one_each make own e xs)

itself : (fs : List (Form Name)) → map (λ f. f) fs ≡ fs
itself [] = refl
itself (f ∷ fs) = ap (λ gs. f ∷ gs) (itself fs)

abbrev pub multiple_forms : Multiple → List (Form Name)
multiple_forms m = m.form ∷ m.of ∷ []

pub place_forms_are : (p : Place) → flat_map line_forms (place_items p) ≡ p.facts ++ (map (λ (c : Congruence). c.form) p.congruences ++ flat_map multiple_forms p.multiples)
place_forms_are p =
    let late : List Item = map CongruenceItem p.congruences ++ map MultipleItem p.multiples in
    flat_map-append line_forms (map SameItem p.same) (map FactItem p.facts ++ late)
    ∙ ap (λ fs. fs ++ flat_map line_forms (map FactItem p.facts ++ late)) (without SameItem (λ _. refl) p.same)
    ∙ flat_map-append line_forms (map FactItem p.facts) late
    ∙ ap (λ fs. fs ++ flat_map line_forms late) (one_each FactItem (λ f. f) (λ _. refl) p.facts ∙ itself p.facts)
    ∙ ap (λ fs. p.facts ++ fs) (flat_map-append line_forms (map CongruenceItem p.congruences) (map MultipleItem p.multiples)
    ∙ ap (λ fs. fs ++ flat_map line_forms (map MultipleItem p.multiples)) (one_each CongruenceItem (λ (c : Congruence). c.form) (λ _. refl) p.congruences)
    ∙ ap (λ fs. map (λ (c : Congruence). c.form) p.congruences ++ fs) (with_each MultipleItem multiple_forms (λ _. refl) p.multiples))

pub bound_forms_are : (bounds : List Bound) → flat_map line_forms (map BoundItem bounds) ≡ map (λ (b : Bound). b.form) bounds
bound_forms_are bounds = one_each BoundItem (λ (b : Bound). b.form) (λ _. refl) bounds

lemma_forms : (l : Lemma) → flat_map line_forms (lemma_items l) ≡ l.form ∷ []
lemma_forms l = ap (λ fs. l.form ∷ fs) (without StepItem (λ _. refl) l.steps)

pub lemmas_forms : (ls : List Lemma) → flat_map line_forms (flat_map lemma_items ls) ≡ map (λ (l : Lemma). l.form) ls
lemmas_forms [] = refl
lemmas_forms (l ∷ ls) = flat_map-append line_forms (lemma_items l) (flat_map lemma_items ls) ∙ ap (λ fs. fs ++ flat_map line_forms (flat_map lemma_items ls)) (lemma_forms l) ∙ ap (λ fs. l.form ∷ fs) (lemmas_forms ls)

main_forms : (ls : List Lemma) (steps : List Step) → flat_map line_forms (main_items ls ++ map StepItem steps) ≡ []
main_forms [] steps = without StepItem (λ _. refl) steps
main_forms (l ∷ ls) steps = without StepItem (λ _. refl) steps

pub entry_forms_are : (e : Entry) → flat_map line_forms (entry_items e) ≡ sort_forms e.sort ++ map (λ (l : Lemma). l.form) e.lemmas
entry_forms_are e =
    ap (λ fs. sort_forms e.sort ++ fs) (flat_map-append line_forms (flat_map lemma_items e.lemmas) (main_items e.lemmas ++ map StepItem e.steps)
    ∙ ap (λ fs. fs ++ flat_map line_forms (main_items e.lemmas ++ map StepItem e.steps)) (lemmas_forms e.lemmas)
    ∙ ap (λ fs. map (λ (l : Lemma). l.form) e.lemmas ++ fs) (main_forms e.lemmas e.steps) ∙ append-nil (map (λ (l : Lemma). l.form) e.lemmas))

-- lines with a number
pub fact_numbered : (forms : FormTable) (f : Form Name) → numbered_line forms (FactItem f) ≡ codes "fact " ++ decimal (number_of forms f)
fact_numbered forms f = refl

pub congruence_numbered : (forms : FormTable) (c : Congruence) → numbered_line forms (CongruenceItem c) ≡ codes "mod " ++ (decimal c.modulus ++ (codes " " ++ decimal (number_of forms c.form)))
congruence_numbered forms c = refl

pub bound_numbered : (forms : FormTable) (b : Bound) → numbered_line forms (BoundItem b) ≡ codes "loop " ++ (decimal b.loop ++ (codes " " ++ (descent_text b.descent ++ (codes " " ++ (signed_decimal b.most ++ (codes " " ++ decimal (number_of forms b.form)))))))
bound_numbered forms b = refl

pub doubling_numbered : (forms : FormTable) (loop least : ℕ) (most : ℤ) (f : Form Name) → numbered_line forms (BoundItem (record { loop = loop; descent = Double least; most = most; form = f })) ≡ codes "loop " ++ (decimal loop ++ (codes " double " ++ (decimal least ++ (codes " " ++ (signed_decimal most ++ (codes " " ++ decimal (number_of forms f)))))))
doubling_numbered forms loop least most f = refl

pub quotient_numbered : (forms : FormTable) (n : ℕ) (f : Form Name) → numbered_line forms (EntryItem n (Quotient f)) ≡ codes "ob " ++ (decimal n ++ (codes " " ++ (codes "quot " ++ decimal (number_of forms f))))
quotient_numbered forms n f = refl

pub multiple_numbered : (forms : FormTable) (m : Multiple) → numbered_line forms (MultipleItem m) ≡ codes "multiple " ++ (decimal (number_of forms m.form) ++ (codes " of " ++ decimal (number_of forms m.of)))
multiple_numbered forms m = refl

pub lemma_numbered : (forms : FormTable) (f : Form Name) → numbered_line forms (LemmaItem f) ≡ codes "l " ++ decimal (number_of forms f)
lemma_numbered forms f = refl
