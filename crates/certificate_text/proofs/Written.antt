-- A certificate is read of its text.
use Rattle.std.proofs.Common.{◌≡◌, ℕ, suc, ◌≤◌, true, false, not, nat_eq, ◌||◌, List, [], ◌∷◌, ◌++◌, length, map, Option, None, Some, Ok, refl, ap, sym, subst, ◌∙◌, append_assoc, arith}
use Rattle.std.specs.Prelude.{ℤ, pos, codes, nat_lt, nat_le}
use Rattle.std.specs.List.{flat_map}
use Rattle.std.specs.Fmt.{decimal, signed_decimal}
use Rattle.std.proofs.lemmas.Bool.{cond-false}
use Rattle.std.proofs.lemmas.Bool.Decides.{nat_tests}
use Rattle.std.proofs.lemmas.Fmt.{decimal_digit}
use Rattle.std.proofs.lemmas.List.{map_push}
use Rattle.linear.specs.Linear.{Weighted, Form}
use Rattle.lines.specs.Lines.{integer_of, is_empty, pieces, words, text_of_lines, is_natural, is_integer}
use Rattle.certificate_text.specs.Certificate.{Name, Anchor, KernelEntry, Barrier, Descent, Down, Halve, Double, EntrySort, Show, Positive, Negative, Quotient, Scaled, Given, Sum, Divide, Product, Certificate}
use Rattle.certificate_text.specs.Text.{name_text, term_text, form_text, anchor_text, head_text, descent_text, sort_text, scaled_text, body_lines, text_of}
use Rattle.certificate_text.specs.Forms.{then, number}
use Rattle.certificate_text.specs.Lines.{Item, PlaceItem, SameItem, FactItem, CongruenceItem, MultipleItem, BoundItem, EntryItem, LemmaItem, MainItem, StepItem, EndItem}
use Rattle.certificate_text.specs.Drafts.{Ended, Draft, draft, begun, nothing_yet, add}
use Rattle.certificate_text.specs.Reading.{add_fitting, add_line, finish, go_on, read_lines, unless, head_of_version, head_fault, read_text, certificate_limit, certificate_of}
use Rattle.certificate_text.specs.Rules.{all, is_name, is_term, is_form, is_anchor, is_head, is_descent, is_sort, is_scaled, has_narrow_lines, is_narrow, is_narrow_item, is_written, is_certificate, is_any_certificate}
use Rattle.lines.proofs.Fronts.{both}
use Rattle.lines.proofs.Decimals.{integer_forth}
use Rattle.certificate_text.proofs.Cuts.{then_back, all_push}
use Rattle.certificate_text.proofs.NamesWritten.{is_free, cut_at, all_append, plain_free, natural_plain, integer_plain, identifier_plain, name_free}
use Rattle.certificate_text.specs.Items.{items_of, item_line}
use Rattle.certificate_text.proofs.PartsRead.{is_constant, is_item}
use Rattle.certificate_text.proofs.ItemsRead.{item_part, constant_form}
use Rattle.certificate_text.proofs.PartsRead.{andt, same}
use Rattle.certificate_text.proofs.ItemsWritten.{item_forth}
use Rattle.certificate_text.proofs.ItemsNumbered.{lines_are, items_good, narrow_items}
use Rattle.certificate_text.proofs.ItemsAdded.{add_all, all_added, fitting, end_fits}
use Rattle.certificate_text.proofs.Narrowness.{fits_in, Fits, items_narrow, joins_where, items_fit}
use Rattle.certificate_text.proofs.DraftsRead.{IsDraft, add_back}
use Rattle.certificate_text.proofs.Read.{nothing_read}
use Rattle.certificate_text.proofs.Tables.{denied}

-- no line feed stands in a line
free_on : (a b : List ℕ) → is_free 10 a ≡ true → is_free 10 b ≡ true → is_free 10 (a ++ b) ≡ true
free_on a b p q = all_append (λ x. not (nat_eq x 10)) a b p q

natural_line : (n : ℕ) → is_natural n ≡ true → is_free 10 (decimal n) ≡ true
natural_line n h = plain_free 10 (decimal n) refl (natural_plain n h)

integer_line : (z : ℤ) → is_integer z ≡ true → is_free 10 (signed_decimal z) ≡ true
integer_line z h = plain_free 10 (signed_decimal z) refl (integer_plain z h)

term_line : (t : Weighted Name) → is_term t ≡ true → is_free 10 (term_text t) ≡ true
term_line t h =
    let p = both (is_integer t.coefficient) _ h in
    let q = both _ (is_name t.symbol) p.1 in
    free_on (signed_decimal t.coefficient) (codes "*" ++ (name_text t.symbol ++ codes " + ")) (integer_line t.coefficient p.0) (free_on (name_text t.symbol) (codes " + ") (name_free 10 t.symbol refl refl refl q.1) refl)

terms_line : (ts : List (Weighted Name)) → all is_term ts ≡ true → is_free 10 (flat_map term_text ts) ≡ true
terms_line [] h = refl
terms_line (t ∷ ts) h = let p = both (is_term t) (all is_term ts) h in free_on (term_text t) (flat_map term_text ts) (term_line t p.0) (terms_line ts p.1)

pub form_line : (f : Form Name) → is_form f ≡ true → is_free 10 (form_text f) ≡ true
form_line f h =
    let p = both (all is_term f.terms) _ h in
    let q = both _ (is_integer f.constant) p.1 in
    free_on (flat_map term_text f.terms) (signed_decimal f.constant) (terms_line f.terms p.0) (integer_line f.constant q.1)

scaled_line : (s : Scaled) → is_scaled s ≡ true → is_free 10 (scaled_text s) ≡ true
scaled_line s h = let p = both (is_integer s.factor) (is_integer s.line) h in free_on (signed_decimal s.factor) (codes " " ++ signed_decimal s.line) (integer_line s.factor p.0) (integer_line s.line p.1)

parts_line : (ps : List Scaled) → all is_scaled ps ≡ true → is_free 10 (flat_map scaled_text ps) ≡ true
parts_line [] h = refl
parts_line (s ∷ ps) h = let p = both (is_scaled s) (all is_scaled ps) h in free_on (scaled_text s) (flat_map scaled_text ps) (scaled_line s p.0) (parts_line ps p.1)

anchor_line : (a : Anchor) → is_anchor a ≡ true → is_free 10 (anchor_text a) ≡ true
anchor_line KernelEntry h = refl
anchor_line (Barrier n) h = natural_line n h

head_line : (a : Option ℕ) → is_head a ≡ true → is_free 10 (head_text a) ≡ true
head_line None h = refl
head_line (Some n) h = natural_line n h

descent_line : (d : Descent) → is_descent d ≡ true → is_free 10 (descent_text d) ≡ true
descent_line (Down n) h = natural_line n (both (is_natural n) (nat_le 1 n) h).0
descent_line Halve h = refl
descent_line (Double n) h = natural_line n (both (is_natural n) (nat_le 1 n) h).0

sort_line : (c : EntrySort) → is_sort c ≡ true → is_free 10 (sort_text c) ≡ true
sort_line Show h = refl
sort_line Positive h = refl
sort_line Negative h = refl
sort_line (Quotient f) h = form_line f h

pub item_free : (i : Item) → is_item i ≡ true → is_free 10 (item_line i) ≡ true
item_free (PlaceItem s) h = let p = both (is_anchor s.anchor) (is_head s.head) h in free_on (anchor_text s.anchor) (head_text s.head) (anchor_line s.anchor p.0) (head_line s.head p.1)
item_free (SameItem name) h = plain_free 10 name refl (identifier_plain name h)
item_free (FactItem f) h = form_line f h
item_free (CongruenceItem c) h =
    let p = both (is_natural c.modulus) _ h in
    let q = both _ (is_form c.form) p.1 in
    free_on (decimal c.modulus) (codes " " ++ form_text c.form) (natural_line c.modulus p.0) (form_line c.form q.1)
item_free (BoundItem b) h =
    let p = both (is_natural b.loop) _ h in
    let q = both (is_descent b.descent) _ p.1 in
    let r = both (is_integer b.most) (is_form b.form) q.1 in
    free_on (decimal b.loop) _ (natural_line b.loop p.0) (free_on (descent_text b.descent) _ (descent_line b.descent q.0) (free_on (signed_decimal b.most) (codes " " ++ form_text b.form) (integer_line b.most r.0) (form_line b.form r.1)))
item_free (EntryItem n c) h =
    let p = both _ (is_sort c) h in
    free_on (decimal n) (codes " " ++ sort_text c) (natural_line n (both (is_natural n) _ p.0).0) (sort_line c p.1)
item_free (MultipleItem m) h =
    let p = both (is_constant m.form) (is_constant m.of) h in
    free_on (form_text m.form) (codes " of " ++ form_text m.of) (form_line m.form (constant_form m.form p.0)) (form_line m.of (constant_form m.of p.1))
item_free (LemmaItem f) h = form_line f h
item_free MainItem h = refl
item_free (StepItem (Given n)) h = integer_line n h
item_free (StepItem (Sum ps)) h = parts_line ps (both (all is_scaled ps) _ h).0
item_free (StepItem (Divide s)) h = scaled_line s h
item_free (StepItem (Product f l)) h = let p = both (is_integer f) (is_integer l) h in free_on (signed_decimal f) (codes " " ++ signed_decimal l) (integer_line f p.0) (integer_line l p.1)
item_free EndItem h = refl

pub some_more : {A : Type 0} (xs rest : List A) → is_empty rest ≡ false → is_empty (xs ++ rest) ≡ false
some_more [] rest h = h
some_more (x ∷ xs) rest h = refl

went : (n : ℕ) (d : Draft) (line : List ℕ) (rest : List (List ℕ)) (e : Draft) → is_empty rest ≡ false → add_line d line ≡ Some e → read_lines n d (line ∷ rest) ≡ read_lines (suc n) e rest
went n d line rest e h q =
    cond-false (is_empty rest) (finish n d line) (go_on n (add_line d line) (λ x. read_lines (suc n) x rest)) h ∙ ap (λ o. go_on n o (λ x. read_lines (suc n) x rest)) q

-- lines whose items may stand one behind the other are read
lines_go : (n : ℕ) (d : Draft) (items : List Item) (e : Draft) (rest : List (List ℕ)) → IsDraft d → all is_item items ≡ true → Fits d.settled.is_wide items → add_all d items ≡ Some e → is_empty rest ≡ false → (m : ℕ) × (read_lines n d (map item_line items ++ rest) ≡ read_lines m e rest)
lines_go n d [] e rest h g f q s = (n, ap (λ x. read_lines n x rest) (same d e q))
lines_go n d (i ∷ items) e rest h g f q s =
    let p = both (is_item i) (all is_item items) g in
    let o = both (fits_in d.settled.is_wide i) (all (fits_in d.settled.is_wide) items) f in
    let x = then_back (add d i) (λ y. add_all y items) e q in
    let a = add_back d i x.0 h (item_part i p.0) x.1 in
    let line : add_line d (item_line i) ≡ Some x.0 = ap (λ r. then r (add_fitting d)) (item_forth i p.0) ∙ fitting d i x.0 o.0 x.1 in
    let r = lines_go (suc n) x.0 items e rest a.draft p.1 (subst (λ w. Fits w items) (sym a.kind) o.1) x.2 s in
    (r.0, went n d (item_line i) (map item_line items ++ rest) x.0 (some_more (map item_line items) rest s) line ∙ r.1)

lines_free : (items : List Item) → all is_item items ≡ true → all (is_free 10) (map item_line items) ≡ true
lines_free [] h = refl
lines_free (i ∷ items) h = let p = both (is_item i) (all is_item items) h in andt (is_free 10 (item_line i)) _ (item_free i p.0) (lines_free items p.1)

pub pieces_of_lines : (lines : List (List ℕ)) → all (is_free 10) lines ≡ true → pieces 10 (text_of_lines lines) ≡ lines ++ [] ∷ []
pieces_of_lines [] h = refl
pieces_of_lines (l ∷ lines) h =
    let p = both (is_free 10 l) (all (is_free 10) lines) h in
    ap (pieces 10) (append_assoc l (10 ∷ []) (text_of_lines lines)) ∙ cut_at 10 l (text_of_lines lines) p.0 ∙ ap (λ ls. l ∷ ls) (pieces_of_lines lines p.1)

-- the first line
first_reads : head_fault (words (codes "certificate 1")) ≡ None
first_reads = ap (λ r. head_of_version (number r)) (ap integer_of (sym (decimal_digit 1 (omega arith))) ∙ integer_forth (pos 1) refl)

pub short : (text : List ℕ) → length text ≤ certificate_limit → nat_lt certificate_limit (length text) ≡ false
short text h = grind (arith, nat_tests)

pub certificate_forth : (c : Certificate) → is_certificate c ≡ true → length (text_of c) ≤ certificate_limit → certificate_of (text_of c) ≡ Ok c
certificate_forth c h l =
    let p = both (not c.is_wide) (is_any_certificate c) h in
    let kind = denied c.is_wide p.0 in
    let w = both (c.is_wide || is_narrow c) (is_written c) p.1 in
    let only : is_narrow c ≡ true = ap (λ v. v || is_narrow c) (sym kind) ∙ w.0 in
    let alone : c.joins ≡ false = denied c.joins (both (not c.joins) (has_narrow_lines c) only).0 in
    let items : List Item = items_of c ++ EndItem ∷ [] in
    let narrow : all is_narrow_item (items_of c) ≡ true = items_narrow c ∙ (both (not c.joins) (has_narrow_lines c) only).1 in
    let good : all is_item items ≡ true = all_push is_item (items_of c) EndItem (narrow_items (items_of c) (items_good c p.1) narrow) refl in
    let fits : Fits c.is_wide items = all_push (fits_in c.is_wide) (items_of c) EndItem (items_fit c w.0) (end_fits c.is_wide) in
    let lines : body_lines c ++ codes "end" ∷ [] ≡ map item_line items = ap (λ ls. ls ++ codes "end" ∷ []) (sym (lines_are c)) ∙ sym (map_push item_line (items_of c) EndItem) in
    let rest : List (List ℕ) = map item_line items in
    let text : text_of c ≡ text_of_lines (codes "certificate 1" ∷ rest) = ap (λ ls. text_of_lines (codes "certificate 1" ∷ ls)) lines in
    let cut = ap (pieces 10) text ∙ pieces_of_lines (codes "certificate 1" ∷ rest) (andt true (all (is_free 10) rest) refl (lines_free items good)) in
    let r = lines_go 2 (begun c.is_wide c.joins) items (draft c Ended) ([] ∷ []) (nothing_read c.is_wide c.joins (joins_where c w.0)).draft good fits (all_added c w.1) refl in
    cond-false (nat_lt certificate_limit (length (text_of c))) _ _ (short (text_of c) l) ∙ ap read_text cut
    ∙ cond-false (is_empty (rest ++ [] ∷ [])) _ _ (some_more rest ([] ∷ []) refl) ∙ ap (λ f. unless f (read_lines 2 nothing_yet (rest ++ [] ∷ []))) first_reads
    ∙ ap (λ v. read_lines 2 (begun v false) (rest ++ [] ∷ [])) (sym kind) ∙ ap (λ j. read_lines 2 (begun c.is_wide j) (rest ++ [] ∷ [])) (sym alone) ∙ r.1
