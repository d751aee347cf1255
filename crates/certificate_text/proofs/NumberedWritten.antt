-- A certificate is read of its text of version 2, and a wide one of version 4.
use Rattle.std.proofs.Common.{◌≡◌, ℕ, suc, ◌+◌, ◌≤◌, ◌^◌, Bool, true, false, not, ◌&&◌, ◌||◌, List, [], ◌∷◌, ◌++◌, length, map, None, Some, Ok, Err, refl, ap, sym, subst, ◌∙◌, append_assoc, arith, inl, inr}
use Rattle.std.specs.Prelude.{pos, codes, bytes_eq, nat_eq, nat_le, nat_lt, max, fold}
use Rattle.std.specs.List.{flat_map}
use Rattle.std.proofs.lemmas.Grind.{fold-append}
use Rattle.std.proofs.lemmas.Bool.{cond-true, cond-false, false≢true}
use Rattle.std.proofs.lemmas.Bool.Decides.{nat_tests}
use Rattle.std.proofs.lemmas.Fmt.{decimal_digit}
use Rattle.std.proofs.lemmas.List.{append-nil, length-append, length-map, map_push}
use Rattle.std.proofs.lemmas.Slice.Eq.{bytes_eq-Decides}
use Rattle.linear.specs.Linear.{Form}
use Rattle.lines.specs.Lines.{is_empty, is_natural, integer_of, pieces, words, text_of_lines}
use Rattle.certificate_text.specs.Certificate.{Name, EntrySort, Show, Positive, Negative, Quotient, Given, Sum, Divide, Product, Certificate, BadLine}
use Rattle.certificate_text.specs.Text.{form_text}
use Rattle.certificate_text.specs.Forms.{then, when, number}
use Rattle.certificate_text.specs.Lines.{Item, PlaceItem, SameItem, FactItem, CongruenceItem, MultipleItem, BoundItem, EntryItem, LemmaItem, MainItem, StepItem, EndItem, item_of}
use Rattle.certificate_text.specs.Drafts.{Ended, Draft, draft, begun, add}
use Rattle.certificate_text.specs.Reading.{Read, is_ended, unless, certificate_limit}
use Rattle.certificate_text.specs.Rules.{all, is_form, is_narrow_form, is_narrow_descent, is_narrow_sort, is_narrow_item, is_narrow, is_written, is_certificate, is_any_certificate, is_wide_certificate}
use Rattle.certificate_text.specs.Items.{items_of, item_line, sort_forms, line_forms, put_forms}
use Rattle.certificate_text.specs.FormTables.{FormTable, has_form, with_form, number_of, form_at}
use Rattle.certificate_text.specs.NumberedText.{forms_in, forms_of, number_for, numbered, numbered_line, table_line, text_of_two, text_of_four}
use Rattle.certificate_text.specs.NumberedReading.{allowed_form, form_by, forms_by, filled, numbered_draft, add_filled, add_numbered, all_used, finish_numbered, go_to, read_numbered, table_words, add_form, by_table_words, read_table, table_start, read_behind, numbered_head, read_numbered_text, numbered_certificate, certificate_of_two, certificate_of_four}
use Rattle.certificate_text.specs.Reading.{version_of}
use Rattle.lines.proofs.Fronts.{both}
use Rattle.lines.proofs.Decimals.{below_test, integer_forth}
use Rattle.certificate_text.proofs.Cuts.{then_back, all_push}
use Rattle.certificate_text.proofs.NamesWritten.{is_free, all_append}
use Rattle.certificate_text.proofs.FormsWritten.{form_forth, moved}
use Rattle.certificate_text.proofs.PartsRead.{is_constant, is_item, is_part}
use Rattle.certificate_text.proofs.PartsRead.{andt, same}
use Rattle.certificate_text.proofs.ItemsWritten.{item_forth}
use Rattle.certificate_text.proofs.Read.{nothing_read}
use Rattle.certificate_text.proofs.Narrowness.{fits_in, Fits, always, joins_where, items_fit}
use Rattle.certificate_text.proofs.DraftsRead.{IsDraft, add_back}
use Rattle.certificate_text.proofs.ItemsAdded.{add_all, all_added, fitting, end_fits}
use Rattle.certificate_text.proofs.Written.{form_line, item_free, some_more, pieces_of_lines, short}
use Rattle.certificate_text.proofs.Tables.{le_forth, told, denied, is_fresh, known_form, new_form, Numbers, numbers_forth, grows, fresh_fold}
use Rattle.certificate_text.proofs.FirstLines.{first_line, joined_lines, numbered_text}
use Rattle.certificate_text.proofs.ItemsNumbered.{items_good, number_constant}
use Rattle.certificate_text.proofs.FormsPut.{forms_put, put_back, raw_good}
use Rattle.certificate_text.proofs.ItemsNumbered.{forms_good as line_forms_good}
use Rattle.certificate_text.proofs.ItemsFilled.{forms_push}
use Rattle.certificate_text.proofs.NumberedRead.{numbered_lines}

number_sized : (n seen all_of : ℕ) → n ≤ seen + 1 → seen ≤ all_of → all_of ≤ certificate_limit → is_natural n ≡ true
number_sized n seen all_of a b c = below_test n (2 ^ 63) (omega arith)

long_front : (front back : FormTable) (all_of : FormTable) → all_of ≡ front ++ back → length front ≤ length all_of
long_front front back all_of e = omega (arith, ap length e, length-append front back)

-- forms are read of their numbers, with the table's forms that are used so far in front
record FormsFill (forms seen : FormTable) (fs : List (Form Name)) : Type 0 where
  good : all is_constant (map (number_for forms) fs) ≡ true
  filled_as : forms_by forms (length seen) (map (number_for forms) fs) ≡ Some (length (fold with_form seen fs), fs)

form_fills : (forms seen : FormTable) (f : Form Name) → Numbers forms seen f → form_by forms (length seen) (number_for forms f) ≡ Some (length (with_form seen f), f)
form_fills forms seen f r =
    let n : ℕ = number_of forms f in
    let at : allowed_form forms (length seen) n ≡ Some f = cond-true (nat_le n (length seen + 1)) (form_at forms n) None (le_forth n (length seen + 1) r.next) ∙ r.at in
    ap (λ p. then p (λ h. Some (max (length seen) n, h))) at ∙ ap (λ k. Some (k, f)) r.used

forms_fill : (forms seen left : FormTable) (fs : List (Form Name)) → all is_form forms ≡ true → length forms ≤ certificate_limit → all is_form fs ≡ true → forms ≡ fold with_form seen fs ++ left → length seen ≤ length forms → FormsFill forms seen fs
forms_fill forms seen left [] fine small good t l = record { good = refl; filled_as = refl }
forms_fill forms seen left (f ∷ fs) fine small good t l =
    let p = both (is_form f) (all is_form fs) good in
    let w = grows (with_form seen f) fs in
    let table : forms ≡ with_form seen f ++ (w.0 ++ left) = t ∙ ap (λ s. s ++ left) w.1 ∙ append_assoc (with_form seen f) w.0 left in
    let r = numbers_forth forms seen (w.0 ++ left) f fine p.0 table in
    let sized = number_sized (number_of forms f) (length seen) (length forms) r.next l small in
    let y = forms_fill forms (with_form seen f) left fs fine small p.1 t (long_front (with_form seen f) (w.0 ++ left) forms table) in
    record {
      good = andt (is_constant (number_for forms f)) _ (number_constant (number_of forms f) sized) y.good;
      filled_as = ap (λ o. then o (λ g. then (forms_by forms g.0 (map (number_for forms) fs)) (λ gs. Some (gs.0, g.1 ∷ gs.1)))) (form_fills forms seen f r)
          ∙ ap (λ o. then o (λ gs. Some (gs.0, f ∷ gs.1))) y.filled_as;
    }

-- an item with its numbers is read, and filled with its forms
record Fills (forms seen : FormTable) (i : Item) : Type 0 where
  good : is_item (numbered forms i) ≡ true
  filled_as : filled forms (length seen) (numbered forms i) ≡ Some (length (fold with_form seen (line_forms i)), i)

fills : (forms seen left : FormTable) (i : Item) → all is_form forms ≡ true → length forms ≤ certificate_limit → is_part i ≡ true → forms ≡ fold with_form seen (line_forms i) ++ left → length seen ≤ length forms → Fills forms seen i
fills forms seen left i fine small g t l =
    let x = forms_fill forms seen left (line_forms i) fine small (line_forms_good i g) t l in
    let numbers : List (Form Name) = map (number_for forms) (line_forms i) in
    let many = length-map (line_forms i) (number_for forms) in
    record {
      good = raw_good numbers i many x.good g;
      filled_as = ap (λ gs. then (forms_by forms (length seen) gs) (λ fs. Some (fs.0, put_forms fs.1 (numbered forms i)))) (forms_put numbers i many)
          ∙ ap (λ o. then o (λ fs. Some (fs.0, put_forms fs.1 (numbered forms i)))) x.filled_as ∙ ap (λ j. Some (length (fold with_form seen (line_forms i)), j)) (put_back numbers i);
    }

-- what comes behind an item uses what it used
uses_on : (seen : FormTable) (i : Item) (items : List Item) → fold with_form seen (flat_map line_forms (i ∷ items)) ≡ fold with_form (fold with_form seen (line_forms i)) (flat_map line_forms items)
uses_on seen i items = fold-append with_form seen (line_forms i) (flat_map line_forms items)

itself : (c : ℕ) → nat_eq c c ≡ true
itself c = grind (arith, nat_tests)

finished : (forms : FormTable) (m : ℕ) (u : ℕ) (d : Draft) (c : Certificate) → is_ended d.opened ≡ true → d.settled ≡ c → u ≡ length forms → finish_numbered forms m (numbered_draft u d) [] ≡ Ok c
finished forms m u d c e s l =
    cond-true (is_ended d.opened && true) (all_used forms (numbered_draft u d)) (Err (BadLine m)) (andt (is_ended d.opened) true e refl)
    ∙ cond-true (nat_eq u (length forms)) (Ok d.settled) (Err (BadLine (u + table_start d.settled.joins))) (ap (λ k. nat_eq k (length forms)) l ∙ itself (length forms)) ∙ ap Ok s

-- the items fill one after the other
first_fills : (forms seen : FormTable) (i : Item) (items : List Item) → all is_form forms ≡ true → length forms ≤ certificate_limit → is_part i ≡ true → forms ≡ fold with_form seen (flat_map line_forms (i ∷ items)) → Fills forms seen i
first_fills forms seen i items fine small g t =
    let w = grows (fold with_form seen (line_forms i)) (flat_map line_forms items) in
    let v = grows seen (flat_map line_forms (i ∷ items)) in
    fills forms seen w.0 i fine small g (t ∙ uses_on seen i items ∙ w.1) (long_front seen v.0 forms (t ∙ v.1))

-- lines with numbers, whose items may stand one behind the other, are read
numbered_go : (forms : FormTable) (m : ℕ) (d : Draft) (items : List Item) (seen : FormTable) (c : Certificate) → all is_form forms ≡ true → length forms ≤ certificate_limit → IsDraft d → all is_part items ≡ true → Fits d.settled.is_wide items → forms ≡ fold with_form seen (flat_map line_forms items) → add_all d items ≡ Some (draft c Ended) → read_numbered forms m (numbered_draft (length seen) d) (numbered_lines forms items ++ [] ∷ []) ≡ Ok c
numbered_go forms m d [] seen c fine small h good f t q =
    let e = same d (draft c Ended) q in
    finished forms m (length seen) d c (ap (λ (x : Draft). is_ended x.opened) e) (ap (λ (x : Draft). x.settled) e) (ap length (sym t))
numbered_go forms m d (i ∷ items) seen c fine small h good f t q =
    let p = both (is_part i) (all is_part items) good in
    let o = both (fits_in d.settled.is_wide i) (all (fits_in d.settled.is_wide) items) f in
    let g = then_back (add d i) (λ y. add_all y items) (draft c Ended) q in
    let a = add_back d i g.0 h p.0 g.1 in
    let x = first_fills forms seen i items fine small p.0 t in
    let used : FormTable = fold with_form seen (line_forms i) in
    let others : List (List ℕ) = numbered_lines forms items ++ [] ∷ [] in
    let goes : add_numbered forms (numbered_draft (length seen) d) (numbered_line forms i) ≡ Some (numbered_draft (length used) g.0) =
    ap (λ r. then r (λ item. then (filled forms (length seen) item) (add_filled d))) (item_forth (numbered forms i) x.good)
    ∙ ap (λ r. then r (add_filled d)) x.filled_as
    ∙ ap (λ r. then r (λ e. Some (numbered_draft (length used) e))) (fitting d i g.0 o.0 g.1)
    in
    cond-false (is_empty others) (finish_numbered forms m (numbered_draft (length seen) d) (numbered_line forms i)) (go_to m (add_numbered forms (numbered_draft (length seen) d) (numbered_line forms i)) (λ e. read_numbered forms (suc m) e others)) (some_more (numbered_lines forms items) ([] ∷ []) refl)
    ∙ ap (λ r. go_to m r (λ e. read_numbered forms (suc m) e others)) goes
    ∙ numbered_go forms (suc m) g.0 items used c fine small a.draft p.1 (subst (λ w. Fits w items) (sym a.kind) o.1) (t ∙ uses_on seen i items) g.2

numbered_good : (forms : FormTable) (items : List Item) (seen : FormTable) → all is_form forms ≡ true → length forms ≤ certificate_limit → all is_part items ≡ true → forms ≡ fold with_form seen (flat_map line_forms items) → all (is_free 10) (numbered_lines forms items) ≡ true
numbered_good forms [] seen fine small good t = refl
numbered_good forms (i ∷ items) seen fine small good t =
    let p = both (is_part i) (all is_part items) good in
    let x = first_fills forms seen i items fine small p.0 t in
    andt (is_free 10 (numbered_line forms i)) _ (item_free (numbered forms i) x.good) (numbered_good forms items (fold with_form seen (line_forms i)) fine small p.1 (t ∙ uses_on seen i items))

-- a line that says something behind the table is no line of the table
form_says_nothing : (ws : List (List ℕ)) → item_of (codes "form" ∷ ws) ≡ None
unfolding item_of
form_says_nothing ws = refl

no_table_words : (ws : List (List ℕ)) (i : Item) → item_of ws ≡ Some i → table_words ws ≡ None
no_table_words [] i e = refl
no_table_words (w ∷ ws) i e = elim (told (bytes_eq w (codes "form"))) [
  | inl h ↦ let q : item_of (codes "form" ∷ ws) ≡ Some i = ap (λ v. item_of (v ∷ ws)) (sym ((bytes_eq-Decides w (codes "form")).0 h)) ∙ e in absurd (let n = form_says_nothing ws in cc)
  | inr h ↦ cond-false (bytes_eq w (codes "form")) (Some ws) None h
]

-- the table ends
table_ends : (is_wide joins : Bool) (forms : FormTable) (n : ℕ) (i : Item) (others : List (List ℕ)) → is_item i ≡ true → is_empty others ≡ false → read_table is_wide joins forms n (item_line i ∷ others) ≡ read_numbered forms n (numbered_draft 0 (begun is_wide joins)) (item_line i ∷ others)
table_ends is_wide joins forms n i others g e =
    let read = read_numbered forms n (numbered_draft 0 (begun is_wide joins)) (item_line i ∷ others) in
    let go : List (List ℕ) → Read = λ ws. go_to n (add_form is_wide forms ws) (λ more. read_table is_wide joins more (suc n) others) in
    cond-false (is_empty others) (Err (BadLine n)) (by_table_words (table_words (words (item_line i))) read go) e
    ∙ ap (λ o. by_table_words o read go) (no_table_words (words (item_line i)) i (item_forth i g))

-- a form that a certificate of that kind may have
abbrev form_fits : (is_wide : Bool) → Form Name → Bool
form_fits is_wide f = is_wide || is_narrow_form f

add_form_forth : (is_wide : Bool) (forms : FormTable) (f : Form Name) → is_form f ≡ true → form_fits is_wide f ≡ true → not (has_form forms f) ≡ true → add_form is_wide forms (pieces 32 (form_text f)) ≡ Some (forms ++ f ∷ [])
add_form_forth is_wide forms f h k n =
    ap (λ o. then o (λ g. when ((is_wide || is_narrow_form g) && not (has_form forms g)) (forms ++ g ∷ []))) (form_forth f h)
    ∙ cond-true ((is_wide || is_narrow_form f) && not (has_form forms f)) (Some (forms ++ f ∷ [])) None (andt (is_wide || is_narrow_form f) (not (has_form forms f)) k n)

-- the lines of the table are read
table_reads : (is_wide joins : Bool) (before forms : FormTable) (n : ℕ) (lines : List (List ℕ)) → is_fresh before forms ≡ true → all is_form forms ≡ true → all (form_fits is_wide) forms ≡ true → is_empty lines ≡ false → (m : ℕ) × (read_table is_wide joins before n (map table_line forms ++ lines) ≡ read_table is_wide joins (before ++ forms) m lines)
table_reads is_wide joins before [] n lines h g k e = (n, ap (λ t. read_table is_wide joins t n lines) (sym (append-nil before)))
table_reads is_wide joins before (f ∷ forms) n lines h g k e =
    let p = both (not (has_form before f)) (is_fresh (before ++ f ∷ []) forms) h in
    let q = both (is_form f) (all is_form forms) g in
    let s = both (form_fits is_wide f) (all (form_fits is_wide) forms) k in
    let others : List (List ℕ) = map table_line forms ++ lines in
    let r = table_reads is_wide joins (before ++ f ∷ []) forms (suc n) lines p.1 q.1 s.1 e in (
      r.0,
      cond-false (is_empty others) (Err (BadLine n)) (go_to n (add_form is_wide before (pieces 32 (form_text f))) (λ more. read_table is_wide joins more (suc n) others)) (some_more (map table_line forms) lines e)
          ∙ ap (λ o. go_to n o (λ more. read_table is_wide joins more (suc n) others)) (add_form_forth is_wide before f q.0 s.0 p.0) ∙ r.1 ∙ ap (λ t. read_table is_wide joins t r.0 lines) (sym (moved before f forms)),
    )

table_free : (forms : FormTable) → all is_form forms ≡ true → all (is_free 10) (map table_line forms) ≡ true
table_free [] g = refl
table_free (f ∷ forms) g = let q = both (is_form f) (all is_form forms) g in andt (is_free 10 (form_text f)) _ (form_line f q.0) (table_free forms q.1)

-- what each form of the lines has, each form of the table has
held_with : (test : Form Name → Bool) (forms : FormTable) (f : Form Name) → all test forms ≡ true → test f ≡ true → all test (with_form forms f) ≡ true
held_with test forms f g h = elim (told (has_form forms f)) [
  | inl k ↦ ap (all test) (known_form forms f k) ∙ g
  | inr k ↦ ap (all test) (new_form forms f k) ∙ all_push test forms f g h
]

held : (test : Form Name → Bool) (seen fs : FormTable) → all test seen ≡ true → all test fs ≡ true → all test (fold with_form seen fs) ≡ true
held test seen [] g h = g
held test seen (f ∷ fs) g h = let p = both (test f) (all test fs) h in held test (with_form seen f) fs (held_with test seen f g p.0) p.1

forms_good : (items : List Item) → all is_part items ≡ true → all is_form (flat_map line_forms items) ≡ true
forms_good [] h = refl
forms_good (i ∷ items) h = let p = both (is_part i) (all is_part items) h in all_append is_form (line_forms i) (flat_map line_forms items) (line_forms_good i p.0) (forms_good items p.1)

sort_forms_fit : (s : EntrySort) → is_narrow_sort s ≡ true → all is_narrow_form (sort_forms s) ≡ true
sort_forms_fit Show h = refl
sort_forms_fit Positive h = refl
sort_forms_fit Negative h = refl
sort_forms_fit (Quotient f) h = andt (is_narrow_form f) true h refl

narrow_forms : (i : Item) → is_narrow_item i ≡ true → all is_narrow_form (line_forms i) ≡ true
narrow_forms (PlaceItem s) h = refl
narrow_forms (SameItem name) h = refl
narrow_forms (FactItem f) h = andt (is_narrow_form f) true h refl
narrow_forms (CongruenceItem c) h = andt (is_narrow_form c.form) true h refl
narrow_forms (MultipleItem m) h = absurd (false≢true h)
narrow_forms (BoundItem b) h = andt (is_narrow_form b.form) true (both (is_narrow_descent b.descent) (is_narrow_form b.form) h).1 refl
narrow_forms (EntryItem n s) h = sort_forms_fit s h
narrow_forms (LemmaItem f) h = absurd (false≢true h)
narrow_forms MainItem h = refl
narrow_forms (StepItem s) h = refl
narrow_forms EndItem h = refl

item_forms_fit : (is_wide : Bool) (i : Item) → fits_in is_wide i ≡ true → all (form_fits is_wide) (line_forms i) ≡ true
item_forms_fit true i h = always (line_forms i)
item_forms_fit false i h = narrow_forms i h

forms_fit : (is_wide : Bool) (items : List Item) → Fits is_wide items → all (form_fits is_wide) (flat_map line_forms items) ≡ true
forms_fit is_wide [] h = refl
forms_fit is_wide (i ∷ items) h =
    let p = both (fits_in is_wide i) (all (fits_in is_wide) items) h in
    all_append (form_fits is_wide) (line_forms i) (flat_map line_forms items) (item_forms_fit is_wide i p.0) (forms_fit is_wide items p.1)

lines_long : (lines : List (List ℕ)) → length lines ≤ length (text_of_lines lines)
lines_long [] = omega arith
lines_long (l ∷ lines) = omega (arith, lines_long lines, length-append (l ++ 10 ∷ []) (text_of_lines lines), length-append l (10 ∷ []))

table_long : (before : List (List ℕ)) (forms : FormTable) (first : List ℕ) (rest : List (List ℕ)) → length forms ≤ length (text_of_lines (first ∷ (before ++ (map table_line forms ++ rest))))
table_long before forms first rest =
    omega (arith, lines_long (first ∷ (before ++ (map table_line forms ++ rest))), length-append before (map table_line forms ++ rest), length-append (map table_line forms) rest, length-map forms table_line)

first_reads : (is_wide : Bool) → numbered_head is_wide (version_of (words (first_line is_wide))) ≡ None
first_reads false = ap (λ r. numbered_head false (number r)) (ap integer_of (sym (decimal_digit 2 (omega arith))) ∙ integer_forth (pos 2) refl)
first_reads true = ap (λ r. numbered_head true (number r)) (ap integer_of (sym (decimal_digit 4 (omega arith))) ∙ integer_forth (pos 4) refl)

first_free : (is_wide : Bool) → is_free 10 (first_line is_wide) ≡ true
first_free false = refl
first_free true = refl

begins_by : (items : List Item) (i : Item) → (j : Item) × (others : List Item) × (items ++ i ∷ [] ≡ j ∷ others)
begins_by [] i = (i, [], refl)
begins_by (j ∷ items) i = (j, items ++ i ∷ [], refl)

-- all lines behind the table
behind_table : (is_wide joins : Bool) (forms : FormTable) (n : ℕ) (i : Item) (items : List Item) → all is_form forms ≡ true → length forms ≤ certificate_limit → all is_part (i ∷ items) ≡ true → forms ≡ forms_in (i ∷ items) → read_table is_wide joins forms n (numbered_lines forms (i ∷ items) ++ [] ∷ []) ≡ read_numbered forms n (numbered_draft 0 (begun is_wide joins)) (numbered_lines forms (i ∷ items) ++ [] ∷ [])
behind_table is_wide joins forms n i items fine small good t =
    let x = first_fills forms [] i items fine small (both (is_part i) (all is_part items) good).0 t in
    table_ends is_wide joins forms n (numbered forms i) (numbered_lines forms items ++ [] ∷ []) x.good (some_more (numbered_lines forms items) ([] ∷ []) refl)

behind_table_of : (is_wide joins : Bool) (forms : FormTable) (n : ℕ) (items : List Item) (i : Item) → all is_form forms ≡ true → length forms ≤ certificate_limit → all is_part (items ++ i ∷ []) ≡ true → forms ≡ forms_in (items ++ i ∷ []) → read_table is_wide joins forms n (numbered_lines forms (items ++ i ∷ []) ++ [] ∷ []) ≡ read_numbered forms n (numbered_draft 0 (begun is_wide joins)) (numbered_lines forms (items ++ i ∷ []) ++ [] ∷ [])
behind_table_of is_wide joins forms n items i fine small good t =
    let b = begins_by items i in
    let r = behind_table is_wide joins forms n b.0 b.1 fine small (ap (all is_part) (sym b.2) ∙ good) (t ∙ ap forms_in b.2) in
    subst (λ (js : List Item). read_table is_wide joins forms n (numbered_lines forms js ++ [] ∷ []) ≡ read_numbered forms n (numbered_draft 0 (begun is_wide joins)) (numbered_lines forms js ++ [] ∷ [])) (sym b.2) r

-- no line of a certificate is the line `join`
no_join_item : (i : Item) → bytes_eq (item_line i) (codes "join") ≡ false
no_join_item (PlaceItem s) = refl
no_join_item (SameItem name) = refl
no_join_item (FactItem f) = refl
no_join_item (CongruenceItem c) = refl
no_join_item (MultipleItem m) = refl
no_join_item (BoundItem b) = refl
no_join_item (EntryItem n s) = refl
no_join_item (LemmaItem f) = refl
no_join_item MainItem = refl
no_join_item (StepItem (Given fact)) = refl
no_join_item (StepItem (Sum parts)) = refl
no_join_item (StepItem (Divide quotient)) = refl
no_join_item (StepItem (Product first second)) = refl
no_join_item EndItem = refl

abbrev begins_with_join : List (List ℕ) → Bool
begins_with_join [] = false
begins_with_join (line ∷ lines) = bytes_eq line (codes "join")

no_join : (forms table : FormTable) (items : List Item) → begins_with_join (map table_line forms ++ numbered_lines table items) ≡ false
no_join (f ∷ forms) table items = refl
no_join [] table [] = refl
no_join [] table (i ∷ items) = no_join_item (numbered table i)

joined_free : (is_wide joins : Bool) → all (is_free 10) (joined_lines is_wide joins) ≡ true
joined_free false joins = refl
joined_free true false = refl
joined_free true true = refl

-- the line `join` is read where the certificate joins
behind_reads : (is_wide joins : Bool) (lines : List (List ℕ)) → (is_wide || not joins) ≡ true → begins_with_join lines ≡ false → read_behind is_wide ((joined_lines is_wide joins ++ lines) ++ [] ∷ []) ≡ read_table is_wide joins [] (table_start joins) (lines ++ [] ∷ [])
behind_reads false true lines m h = absurd (false≢true m)
behind_reads false false [] m h = refl
behind_reads false false (line ∷ lines) m h = refl
behind_reads true true lines m h =
    let rest : List (List ℕ) = lines ++ [] ∷ [] in
    cond-true (not (is_empty rest)) (read_table true true [] 3 rest) (read_table true false [] 2 (codes "join" ∷ rest)) (ap not (some_more lines ([] ∷ []) refl))
behind_reads true false [] m h = refl
behind_reads true false (line ∷ lines) m h =
    let rest : List (List ℕ) = lines ++ [] ∷ [] in
    cond-false (bytes_eq line (codes "join") && not (is_empty rest)) (read_table true true [] 3 rest) (read_table true false [] 2 (line ∷ rest)) (ap (λ t. t && not (is_empty rest)) h)

numbered_forth : (is_wide : Bool) (c : Certificate) → is_any_certificate c ≡ true → c.is_wide ≡ is_wide → length (numbered_text is_wide c) ≤ certificate_limit → numbered_certificate is_wide (numbered_text is_wide c) ≡ Ok c
numbered_forth is_wide c h kind l =
    let forms : FormTable = forms_of c in
    let joins : Bool = c.joins in
    let own = both (c.is_wide || is_narrow c) (is_written c) h in
    let may_join : (is_wide || not joins) ≡ true = ap (λ w. w || not joins) (sym kind) ∙ joins_where c own.0 in
    let items : List Item = items_of c ++ EndItem ∷ [] in
    let lines : List (List ℕ) = numbered_lines forms items in
    let before : List (List ℕ) = joined_lines is_wide joins in
    let t : forms ≡ forms_in items = sym (forms_push (items_of c) EndItem) in
    let good : all is_part items ≡ true = all_push is_part (items_of c) EndItem (items_good c h) refl in
    let fine : all is_form forms ≡ true = held is_form [] (flat_map line_forms (items_of c)) refl (forms_good (items_of c) (items_good c h)) in
    let inside : Fits is_wide (items_of c) = subst (λ w. Fits w (items_of c)) kind (items_fit c own.0) in
    let fit : all (form_fits is_wide) forms ≡ true = held (form_fits is_wide) [] (flat_map line_forms (items_of c)) refl (forms_fit is_wide (items_of c) inside) in
    let fresh : is_fresh [] forms ≡ true = fresh_fold [] (flat_map line_forms (items_of c)) refl in
    let first : List ℕ = first_line is_wide in
    let body : List (List ℕ) = before ++ (map table_line forms ++ lines) in
    let same_text : numbered_text is_wide c ≡ text_of_lines (first ∷ body) = ap (λ ls. text_of_lines (first ∷ (before ++ (map table_line forms ++ ls)))) (sym (map_push (numbered_line forms) (items_of c) EndItem)) in
    let small : length forms ≤ certificate_limit = omega (arith, l, table_long before forms first lines, ap length same_text) in
    let free : all (is_free 10) (map table_line forms ++ lines) ≡ true = all_append (is_free 10) (map table_line forms) lines (table_free forms fine) (numbered_good forms items [] fine small good t) in
    let all_free : all (is_free 10) body ≡ true = all_append (is_free 10) before (map table_line forms ++ lines) (joined_free is_wide joins) free in
    let cut = pieces_of_lines (first ∷ body) (andt (is_free 10 first) (all (is_free 10) body) (first_free is_wide) all_free) in
    let rest : List (List ℕ) = body ++ [] ∷ [] in
    let r = table_reads is_wide joins [] forms (table_start joins) (lines ++ [] ∷ []) fresh fine fit (some_more lines ([] ∷ []) refl) in
    let added : add_all (begun is_wide joins) items ≡ Some (draft c Ended) = ap (λ w. add_all (begun w joins) items) (sym kind) ∙ all_added c own.1 in
    let fits : Fits is_wide items = all_push (fits_in is_wide) (items_of c) EndItem inside (end_fits is_wide) in
    cond-false (nat_lt certificate_limit (length (numbered_text is_wide c))) (Err (BadLine 1)) (read_numbered_text is_wide (pieces 10 (numbered_text is_wide c))) (short (numbered_text is_wide c) l)
    ∙ ap (λ x. read_numbered_text is_wide (pieces 10 x)) same_text ∙ ap (read_numbered_text is_wide) cut
    ∙ cond-false (is_empty rest) (Err (BadLine 1)) (unless (numbered_head is_wide (version_of (words first))) (read_behind is_wide rest)) (some_more body ([] ∷ []) refl)
    ∙ ap (λ f. unless f (read_behind is_wide rest)) (first_reads is_wide) ∙ behind_reads is_wide joins (map table_line forms ++ lines) may_join (no_join forms forms items)
    ∙ ap (read_table is_wide joins [] (table_start joins)) (append_assoc (map table_line forms) lines ([] ∷ [])) ∙ r.1
    ∙ behind_table_of is_wide joins forms r.0 (items_of c) EndItem fine small good t
    ∙ numbered_go forms r.0 (begun is_wide joins) items [] c fine small (nothing_read is_wide joins may_join).draft good fits t added

pub certificate_of_two_forth : (c : Certificate) → is_certificate c ≡ true → length (text_of_two c) ≤ certificate_limit → certificate_of_two (text_of_two c) ≡ Ok c
certificate_of_two_forth c h l = let p = both (not c.is_wide) (is_any_certificate c) h in numbered_forth false c p.1 (denied c.is_wide p.0) l

pub certificate_of_four_forth : (c : Certificate) → is_wide_certificate c ≡ true → length (text_of_four c) ≤ certificate_limit → certificate_of_four (text_of_four c) ≡ Ok c
certificate_of_four_forth c h l = let p = both c.is_wide (is_any_certificate c) h in numbered_forth true c p.1 p.0 l
