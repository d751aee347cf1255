-- A text of version 2 or 4 is that of the certificate that it says.
use Rattle.std.proofs.Common.{◌≡◌, ℕ, suc, ◌+◌, Bool, true, false, not, ◌&&◌, ◌||◌, List, [], ◌∷◌, ◌++◌, length, map, Option, None, Some, Ok, Err, refl, ap, sym, subst, ◌∙◌, append_assoc, arith}
use Rattle.std.specs.Prelude.{ℤ, pos, codes, bytes_eq, nat_eq, nat_lt, fold}
use Rattle.std.specs.Fmt.{signed_decimal}
use Rattle.std.specs.List.{join_with_byte}
use Rattle.std.proofs.lemmas.Bool.{cond_both}
use Rattle.std.proofs.lemmas.Bool.Decides.{Decides-int_eq}
use Rattle.std.proofs.lemmas.Fmt.{decimal_digit}
use Rattle.std.proofs.lemmas.Grind.{flat_map-append}
use Rattle.std.proofs.lemmas.List.{append-nil, length-append, map_push}
use Rattle.std.proofs.lemmas.List.Splits.{join_with_byte-slice_split}
use Rattle.std.proofs.lemmas.Slice.Eq.{bytes_eq-Decides}
use Rattle.linear.specs.Linear.{Form}
use Rattle.lines.specs.Lines.{is_empty, two, pieces, words, text_of_lines, integer_of}
use Rattle.certificate_text.specs.Certificate.{Name, Certificate, BadLine, OtherVersion}
use Rattle.certificate_text.specs.Forms.{number, form_of}
use Rattle.certificate_text.specs.Lines.{Item, EndItem, item_of}
use Rattle.certificate_text.specs.Drafts.{begun}
use Rattle.certificate_text.specs.Reading.{Read, add_fitting, is_ended, version_of, unless, certificate_limit}
use Rattle.certificate_text.specs.Rules.{is_form, is_narrow_form, is_certificate, is_any_certificate, is_wide_certificate}
use Rattle.certificate_text.specs.Items.{items_of, item_line, line_forms}
use Rattle.certificate_text.specs.FormTables.{FormTable, has_form, with_form}
use Rattle.certificate_text.specs.NumberedText.{forms_in, forms_of, join_lines, numbered_line, table_line, lines_of_two, text_of_two, text_of_four}
use Rattle.certificate_text.specs.NumberedReading.{filled, NumberedDraft, numbered_draft, add_filled, add_numbered, all_used, finish_numbered, go_to, read_numbered, table_words, add_form, by_table_words, read_table, table_start, is_join, read_behind, is_version, numbered_head, read_numbered_text, numbered_certificate, certificate_of_two, certificate_of_four}
use Rattle.lines.proofs.Fronts.{both}
use Rattle.lines.proofs.Decimals.{integer_back}
use Rattle.certificate_text.proofs.Cuts.{spaced, pieces_back, then_back, when_back, cond_back, number_back, two_back, all_push, none_left}
use Rattle.certificate_text.proofs.ItemsRead.{item_part, item_back}
use Rattle.certificate_text.proofs.PartsRead.{andt, same}
use Rattle.certificate_text.proofs.PartsRead.{whole_back}
use Rattle.certificate_text.proofs.DraftsRead.{IsRead, draft_items, add_fitting_back}
use Rattle.certificate_text.proofs.Read.{joined_more, lines_push, ended_items, ended_good, unless_back, nothing_read, narrow}
use Rattle.certificate_text.proofs.Tables.{eq_back, denied, fresh_push}
use Rattle.certificate_text.proofs.FirstLines.{number_of_version, first_line, joined_lines, numbered_text}
use Rattle.certificate_text.proofs.ItemsFilled.{IsTable, forms_push, filled_back}

-- what was read behind the table: its items, whose forms stand in front in the table
pub record IsNumbered (is_wide joins : Bool) (forms : FormTable) (d : NumberedDraft) (items : List Item) : Type 0 where
  pub draft : IsRead d.read
  pub kind : d.read.settled.is_wide ≡ is_wide
  pub joins_are : d.read.settled.joins ≡ joins
  pub items_are : draft_items d.read ≡ items
  pub left : FormTable
  pub table : forms ≡ forms_in items ++ left
  pub used : length (forms_in items) ≡ d.used

-- one line more
pub record Says (is_wide joins : Bool) (forms : FormTable) (e : NumberedDraft) (items : List Item) (line : List ℕ) : Type 0 where
  pub item : Item
  pub numbered_as : numbered_line forms item ≡ line
  pub holds : IsNumbered is_wide joins forms e (items ++ item ∷ [])

pub add_numbered_back : (is_wide joins : Bool) (forms : FormTable) (d : NumberedDraft) (items : List Item) (line : List ℕ) (e : NumberedDraft) → IsTable forms → IsNumbered is_wide joins forms d items → add_numbered forms d line ≡ Some e → Says is_wide joins forms e items line
add_numbered_back is_wide joins forms d items line e t h q =
    let raw = then_back (item_of (words line)) _ e q in
    let b = item_back line raw.0 raw.1 in
    let r = then_back (filled forms d.used raw.0) (add_filled d.read) e raw.2 in
    let f = filled_back forms (forms_in items) h.left raw.0 d.used r.0 t h.table h.used (item_part raw.0 b.1) r.1 in
    let a = then_back (add_fitting d.read r.0.1) _ e r.2 in
    let x = add_fitting_back d.read r.0.1 a.0 h.draft f.good a.1 in
    let grown : forms_in (items ++ r.0.1 ∷ []) ≡ fold with_form (forms_in items) (line_forms r.0.1) = forms_push items r.0.1 in
    let made : IsNumbered is_wide joins forms (numbered_draft r.0.0 a.0) (items ++ r.0.1 ∷ []) = record {
      draft = x.read;
      kind = x.kind ∙ h.kind;
      joins_are = x.joins ∙ h.joins_are;
      items_are = x.items ∙ ap (λ is. is ++ r.0.1 ∷ []) h.items_are;
      left = f.left;
      table = f.table ∙ ap (λ s. s ++ f.left) (sym grown);
      used = ap length grown ∙ f.used;
    } in
    record {
      item = r.0.1;
      numbered_as = ap item_line f.number ∙ b.0;
      holds = subst (λ g. IsNumbered is_wide joins forms g (items ++ r.0.1 ∷ [])) (same (numbered_draft r.0.0 a.0) e a.2) made;
    }

nothing_numbered : (is_wide joins : Bool) (forms : FormTable) → (is_wide || not joins) ≡ true → IsNumbered is_wide joins forms (numbered_draft 0 (begun is_wide joins)) []
nothing_numbered is_wide joins forms m = record { draft = nothing_read is_wide joins m; kind = refl; joins_are = refl; items_are = refl; left = forms; table = refl; used = refl }

abbrev pub numbered_lines : FormTable → List Item → List (List ℕ)
numbered_lines forms items = map (numbered_line forms) items

-- what is left to read behind the table, where `so_far` was read
pub record Ends (is_wide joins : Bool) (forms : FormTable) (so_far rest : List ℕ) (c : Certificate) : Type 0 where
  pub table : forms_of c ≡ forms
  pub text : so_far ++ rest ≡ text_of_lines (numbered_lines forms (items_of c) ++ codes "end" ∷ [])
  pub good : is_any_certificate c ≡ true
  pub kind : c.is_wide ≡ is_wide
  pub joins_are : c.joins ≡ joins

same_ok : (a c : Certificate) (r : Read) → r ≡ Ok a → r ≡ Ok c → a ≡ c
same_ok a c r e q = cc

all_used_back : (forms : FormTable) (d : NumberedDraft) (c : Certificate) → all_used forms d ≡ Ok c → (d.used ≡ length forms) × (d.read.settled ≡ c)
all_used_back forms d c =
    cond_both (nat_eq d.used (length forms)) (Ok d.read.settled) (Err (BadLine (d.used + table_start d.read.settled.joins))) (λ r. r ≡ Ok c → (d.used ≡ length forms) × (d.read.settled ≡ c))
    (λ e q. (eq_back d.used (length forms) e, same_ok d.read.settled c (Ok d.read.settled) refl q))
    (λ e q. absurd cc)

finish_back : (forms : FormTable) (n : ℕ) (d : NumberedDraft) (line : List ℕ) (c : Certificate) → finish_numbered forms n d line ≡ Ok c → (is_ended d.read.opened ≡ true) × (line ≡ []) × (d.used ≡ length forms) × (d.read.settled ≡ c)
finish_back forms n d line c =
    cond_both (is_ended d.read.opened && is_empty line) (all_used forms d) (Err (BadLine n)) (λ r. r ≡ Ok c → (is_ended d.read.opened ≡ true) × (line ≡ []) × (d.used ≡ length forms) × (d.read.settled ≡ c))
    (λ e q. let p = both (is_ended d.read.opened) (is_empty line) e in let a = all_used_back forms d c q in (p.0, none_left line p.1, a.0, a.1))
    (λ e q. absurd cc)

no_more : (seen left : FormTable) (n : ℕ) → length seen ≡ n → n ≡ length (seen ++ left) → left ≡ []
no_more seen [] n p q = refl
no_more seen (f ∷ left) n p q = absurd (omega (arith, p, q, length-append seen (f ∷ left)))

end_numbered : (forms : FormTable) (items : List Item) → forms_in (items ++ EndItem ∷ []) ≡ forms_in items
end_numbered forms items = forms_push items EndItem

-- all lines are read
ended : (is_wide joins : Bool) (forms : FormTable) (d : NumberedDraft) (items : List Item) (c : Certificate) → IsNumbered is_wide joins forms d items → is_ended d.read.opened ≡ true → d.used ≡ length forms → d.read.settled ≡ c → Ends is_wide joins forms (text_of_lines (numbered_lines forms items)) [] c
ended is_wide joins forms d items c h e u s =
    let all_of : items ≡ items_of c ++ EndItem ∷ [] = sym h.items_are ∙ ended_items d.read c e s in
    let none : h.left ≡ [] = no_more (forms_in items) h.left d.used h.used (u ∙ ap length h.table) in
    record {
      table = sym (end_numbered forms (items_of c)) ∙ ap forms_in (sym all_of) ∙ sym (append-nil (forms_in items)) ∙ ap (λ l. forms_in items ++ l) (sym none) ∙ sym h.table;
      text = append-nil (text_of_lines (numbered_lines forms items)) ∙ ap (λ is. text_of_lines (numbered_lines forms is)) all_of ∙ ap text_of_lines (map_push (numbered_line forms) (items_of c) EndItem);
      good = ended_good d.read c h.draft s;
      kind = ap (λ (x : Certificate). x.is_wide) (sym s) ∙ h.kind;
      joins_are = ap (λ (x : Certificate). x.joins) (sym s) ∙ h.joins_are;
    }

pub went_to : {A : Type 0} (n : ℕ) (o : Option A) (go : A → Read) (c : Certificate) → go_to n o go ≡ Ok c → (a : A) × (o ≡ Some a) × (go a ≡ Ok c)
went_to n None go c q = absurd cc
went_to n (Some a) go c q = (a, refl, q)

pub read_numbered_back : (is_wide joins : Bool) (forms : FormTable) (n : ℕ) (d : NumberedDraft) (items : List Item) (ls : List (List ℕ)) (c : Certificate) → IsTable forms → IsNumbered is_wide joins forms d items → read_numbered forms n d ls ≡ Ok c → Ends is_wide joins forms (text_of_lines (numbered_lines forms items)) (join_with_byte 10 ls) c
read_numbered_back is_wide joins forms n d items [] c t h = λ q. absurd cc
read_numbered_back is_wide joins forms n d items (line ∷ others) c t h =
    cond_both (is_empty others) (finish_numbered forms n d line) (go_to n (add_numbered forms d line) (λ e. read_numbered forms (suc n) e others)) (λ r. r ≡ Ok c → Ends is_wide joins forms (text_of_lines (numbered_lines forms items)) (join_with_byte 10 (line ∷ others)) c)
    (λ e q.
    let f = finish_back forms n d line c q in
    let r = ended is_wide joins forms d items c h f.0 f.2 f.3 in
    subst (λ rest. Ends is_wide joins forms (text_of_lines (numbered_lines forms items)) rest c) (sym (ap (λ ls. join_with_byte 10 (line ∷ ls)) (none_left others e) ∙ f.1)) r)
    (λ e q.
    let g = went_to n (add_numbered forms d line) (λ x. read_numbered forms (suc n) x others) c q in
    let a = add_numbered_back is_wide joins forms d items line g.0 t h g.1 in
    let r = read_numbered_back is_wide joins forms (suc n) g.0 (items ++ a.item ∷ []) others c t a.holds g.2 in
    let more : numbered_lines forms (items ++ a.item ∷ []) ≡ numbered_lines forms items ++ line ∷ [] = map_push (numbered_line forms) items a.item ∙ ap (λ l. numbered_lines forms items ++ l ∷ []) a.numbered_as in
    record {
      table = r.table;
      text = ap (λ x. text_of_lines (numbered_lines forms items) ++ x) (joined_more line others e) ∙ sym (lines_push (numbered_lines forms items) line (join_with_byte 10 others)) ∙ ap (λ ls. text_of_lines ls ++ join_with_byte 10 others) (sym more) ∙ r.text;
      good = r.good;
      kind = r.kind;
      joins_are = r.joins_are;
    })

-- a line of the table is that of its form
pub table_line_back : (line : List ℕ) (ws : List (List ℕ)) (f : Form Name) → table_words (words line) ≡ Some ws → form_of [] ws ≡ Some f → (table_line f ≡ line) × (is_form f ≡ true)
table_line_back line ws f p q = by_words (words line) refl p
  where
    by_words : (all_of : List (List ℕ)) → words line ≡ all_of → table_words all_of ≡ Some ws → (table_line f ≡ line) × (is_form f ≡ true)
    by_words [] e h = absurd cc
    by_words (w ∷ others) e h =
        let a = when_back (bytes_eq w (codes "form")) others ws h in
        let b = whole_back ws f q in
        (ap (λ t. codes "form" ++ t) (sym b.0) ∙ ap (λ t. codes "form" ++ spaced t) (sym a.1) ∙ ap (λ t. t ++ spaced others) (sym ((bytes_eq-Decides w (codes "form")).0 a.0)) ∙ sym (pieces_back 32 line w others e), b.1)

-- the table with one form more
pub record Adds (forms : FormTable) (line : List ℕ) (more : FormTable) : Type 0 where
  pub form : Form Name
  pub more_is : more ≡ forms ++ form ∷ []
  pub line_is : table_line form ≡ line
  pub table : IsTable more

pub add_form_back : (is_wide : Bool) (forms : FormTable) (line : List ℕ) (ws : List (List ℕ)) (more : FormTable) → IsTable forms → table_words (words line) ≡ Some ws → add_form is_wide forms ws ≡ Some more → Adds forms line more
add_form_back is_wide forms line ws more t p q =
    let f = then_back (form_of [] ws) _ more q in
    let a = when_back ((is_wide || is_narrow_form f.0) && not (has_form forms f.0)) (forms ++ f.0 ∷ []) more f.2 in
    let new = both (is_wide || is_narrow_form f.0) (not (has_form forms f.0)) a.0 in
    let b = table_line_back line ws f.0 p f.1 in
    let made : IsTable (forms ++ f.0 ∷ []) = record { good = all_push is_form forms f.0 t.good b.1; fresh = fresh_push [] forms f.0 t.fresh (denied (has_form forms f.0) new.1) } in
    record { form = f.0; more_is = sym a.1; line_is = b.0; table = subst IsTable a.1 made }

-- what is left to read of the table and behind it
pub record EndsTable (is_wide joins : Bool) (so_far rest : List ℕ) (c : Certificate) : Type 0 where
  pub text : so_far ++ rest ≡ text_of_lines (lines_of_two (forms_of c) c)
  pub good : is_any_certificate c ≡ true
  pub kind : c.is_wide ≡ is_wide
  pub joins_are : c.joins ≡ joins

table_ended : (is_wide joins : Bool) (forms : FormTable) (rest : List ℕ) (c : Certificate) → Ends is_wide joins forms [] rest c → EndsTable is_wide joins (text_of_lines (map table_line forms)) rest c
table_ended is_wide joins forms rest c h = record {
  text = ap (λ t. text_of_lines (map table_line forms) ++ t) h.text ∙ sym (flat_map-append (λ (l : List ℕ). l ++ 10 ∷ []) (map table_line forms) (numbered_lines forms (items_of c) ++ codes "end" ∷ [])) ∙ ap (λ t. text_of_lines (lines_of_two t c)) (sym h.table);
  good = h.good;
  kind = h.kind;
  joins_are = h.joins_are;
}

table_line_read : (is_wide joins : Bool) (forms : FormTable) (n : ℕ) (line : List ℕ) (others : List (List ℕ)) (c : Certificate) → (is_wide || not joins) ≡ true → IsTable forms → is_empty others ≡ false → ((more : FormTable) → IsTable more → read_table is_wide joins more (suc n) others ≡ Ok c → EndsTable is_wide joins (text_of_lines (map table_line more)) (join_with_byte 10 others) c) → (o : Option (List (List ℕ))) → table_words (words line) ≡ o → by_table_words o (read_numbered forms n (numbered_draft 0 (begun is_wide joins)) (line ∷ others)) (λ ws. go_to n (add_form is_wide forms ws) (λ more. read_table is_wide joins more (suc n) others)) ≡ Ok c → EndsTable is_wide joins (text_of_lines (map table_line forms)) (join_with_byte 10 (line ∷ others)) c
table_line_read is_wide joins forms n line others c m t e back None w q =
    table_ended is_wide joins forms (join_with_byte 10 (line ∷ others)) c (read_numbered_back is_wide joins forms n (numbered_draft 0 (begun is_wide joins)) [] (line ∷ others) c t (nothing_numbered is_wide joins forms m) q)
table_line_read is_wide joins forms n line others c m t e back (Some ws) w q =
    let g = went_to n (add_form is_wide forms ws) (λ more. read_table is_wide joins more (suc n) others) c q in
    let a = add_form_back is_wide forms line ws g.0 t w g.1 in
    let r = back g.0 a.table g.2 in
    let lines : map table_line g.0 ≡ map table_line forms ++ line ∷ [] = ap (map table_line) a.more_is ∙ map_push table_line forms a.form ∙ ap (λ l. map table_line forms ++ l ∷ []) a.line_is in
    record {
      text = ap (λ x. text_of_lines (map table_line forms) ++ x) (joined_more line others e) ∙ sym (lines_push (map table_line forms) line (join_with_byte 10 others)) ∙ ap (λ ls. text_of_lines ls ++ join_with_byte 10 others) (sym lines) ∙ r.text;
      good = r.good;
      kind = r.kind;
      joins_are = r.joins_are;
    }

pub read_table_back : (is_wide joins : Bool) (forms : FormTable) (n : ℕ) (ls : List (List ℕ)) (c : Certificate) → (is_wide || not joins) ≡ true → IsTable forms → read_table is_wide joins forms n ls ≡ Ok c → EndsTable is_wide joins (text_of_lines (map table_line forms)) (join_with_byte 10 ls) c
read_table_back is_wide joins forms n [] c m t = λ q. absurd cc
read_table_back is_wide joins forms n (line ∷ others) c m t =
    cond_both (is_empty others) (Err (BadLine n)) (by_table_words (table_words (words line)) (read_numbered forms n (numbered_draft 0 (begun is_wide joins)) (line ∷ others)) (λ ws. go_to n (add_form is_wide forms ws) (λ more. read_table is_wide joins more (suc n) others))) (λ r. r ≡ Ok c → EndsTable is_wide joins (text_of_lines (map table_line forms)) (join_with_byte 10 (line ∷ others)) c)
    (λ e q. absurd cc)
    (λ e q. table_line_read is_wide joins forms n line others c m t e (λ more u r. read_table_back is_wide joins more (suc n) others c m u r) (table_words (words line)) refl q)

version_is : (is_wide : Bool) (v : ℤ) → is_version is_wide v ≡ true → v ≡ number_of_version is_wide
version_is false v = (Decides-int_eq v (pos 2)).0
version_is true v = (Decides-int_eq v (pos 4)).0

pub version_back : (is_wide : Bool) (v : Option ℤ) → numbered_head is_wide v ≡ None → v ≡ Some (number_of_version is_wide)
version_back is_wide None = λ q. absurd cc
version_back is_wide (Some v) =
    cond_both (is_version is_wide v) None (Some OtherVersion) (λ o. o ≡ None → Some v ≡ Some (number_of_version is_wide)) (λ e q. ap Some (version_is is_wide v e)) (λ e q. absurd cc)

version_written : (is_wide : Bool) → codes "certificate " ++ signed_decimal (number_of_version is_wide) ≡ first_line is_wide
version_written false = ap (λ t. codes "certificate " ++ t) (decimal_digit 2 (omega arith))
version_written true = ap (λ t. codes "certificate " ++ t) (decimal_digit 4 (omega arith))

pub first_line_back : (is_wide : Bool) (line : List ℕ) → numbered_head is_wide (version_of (words line)) ≡ None → line ≡ first_line is_wide
first_line_back is_wide line q =
    let n = number_of_version is_wide in
    let v = version_back is_wide (version_of (words line)) q in
    let w = then_back (two (words line)) _ n v in
    let c = cond_back (bytes_eq w.0.0 (codes "certificate")) (number (integer_of w.0.1)) n w.2 in
    let i = integer_back w.0.1 n (number_back (integer_of w.0.1) n c.1) in
    pieces_back 32 line w.0.0 (w.0.1 ∷ []) (two_back (words line) w.0 w.1) ∙ ap (λ t. t ++ spaced (w.0.1 ∷ [])) ((bytes_eq-Decides w.0.0 (codes "certificate")).0 c.0)
    ∙ ap (λ t. codes "certificate " ++ t) (append-nil w.0.1 ∙ sym i.0) ∙ version_written is_wide

pub empty_table : IsTable []
empty_table = record { good = refl; fresh = refl }

-- what a text says, it is the text of
abbrev pub IsOf : (is_wide : Bool) → List ℕ → Certificate → Type 0
IsOf is_wide text c = (numbered_text is_wide c ≡ text) × (is_any_certificate c ≡ true) × (c.is_wide ≡ is_wide)

none_joined : (is_wide : Bool) → joined_lines is_wide false ≡ []
none_joined false = refl
none_joined true = refl

or_true : (is_wide : Bool) → (is_wide || true) ≡ true
or_true false = refl
or_true true = refl

-- what the lines behind the first one say, they are the lines of
abbrev IsBehind : (is_wide : Bool) → List ℕ → Certificate → Type 0
IsBehind is_wide text c = (text_of_lines (joined_lines is_wide c.joins ++ lines_of_two (forms_of c) c) ≡ text) × (is_any_certificate c ≡ true) × (c.is_wide ≡ is_wide)

behind_back : (is_wide : Bool) (ls : List (List ℕ)) (c : Certificate) → read_behind is_wide ls ≡ Ok c → IsBehind is_wide (join_with_byte 10 ls) c
behind_back is_wide [] c = λ q. absurd cc
behind_back is_wide (line ∷ others) c =
    cond_both (is_join is_wide line others) (read_table is_wide true [] 3 others) (read_table is_wide false [] 2 (line ∷ others)) (λ r. r ≡ Ok c → IsBehind is_wide (join_with_byte 10 (line ∷ others)) c)
    (λ e q.
    let w = both is_wide (bytes_eq line (codes "join") && not (is_empty others)) e in
    let j = both (bytes_eq line (codes "join")) (not (is_empty others)) w.1 in
    let r = read_table_back is_wide true [] 3 others c (ap (λ v. v || false) w.0) empty_table q in (
      ap (λ ls. text_of_lines (ls ++ lines_of_two (forms_of c) c)) (ap (λ v. joined_lines v c.joins) w.0 ∙ ap join_lines r.joins_are) ∙ ap (λ t. codes "join" ++ (10 ∷ t)) (sym r.text)
          ∙ ap (λ l. l ++ (10 ∷ join_with_byte 10 others)) (sym ((bytes_eq-Decides line (codes "join")).0 j.0)) ∙ sym (joined_more line others (denied (is_empty others) j.1)),
      r.good,
      r.kind,
    ))
    (λ e q.
    let r = read_table_back is_wide false [] 2 (line ∷ others) c (or_true is_wide) empty_table q in
    (ap (λ ls. text_of_lines (ls ++ lines_of_two (forms_of c) c)) (ap (joined_lines is_wide) r.joins_are ∙ none_joined is_wide) ∙ sym r.text, r.good, r.kind))

text_back : (is_wide : Bool) (ls : List (List ℕ)) (c : Certificate) → read_numbered_text is_wide ls ≡ Ok c → IsOf is_wide (join_with_byte 10 ls) c
text_back is_wide [] c = λ q. absurd cc
text_back is_wide (line ∷ others) c =
    cond_both (is_empty others) (Err (BadLine 1)) (unless (numbered_head is_wide (version_of (words line))) (read_behind is_wide others)) (λ r. r ≡ Ok c → IsOf is_wide (join_with_byte 10 (line ∷ others)) c)
    (λ e q. absurd cc)
    (λ e q.
    let u = unless_back (numbered_head is_wide (version_of (words line))) (read_behind is_wide others) c q in
    let r = behind_back is_wide others c u.1 in (
      ap (λ t. (first_line is_wide ++ (10 ∷ [])) ++ t) r.0 ∙ append_assoc (first_line is_wide) (10 ∷ []) (join_with_byte 10 others) ∙ ap (λ t. t ++ (10 ∷ join_with_byte 10 others)) (sym (first_line_back is_wide line u.0)) ∙ sym (joined_more line others e),
      r.1,
      r.2,
    ))

numbered_back : (is_wide : Bool) (text : List ℕ) (c : Certificate) → numbered_certificate is_wide text ≡ Ok c → IsOf is_wide text c
numbered_back is_wide text c =
    cond_both (nat_lt certificate_limit (length text)) (Err (BadLine 1)) (read_numbered_text is_wide (pieces 10 text)) (λ r. r ≡ Ok c → IsOf is_wide text c)
    (λ e q. absurd cc)
    (λ e q. let r = text_back is_wide (pieces 10 text) c q in (r.0 ∙ join_with_byte-slice_split 10 text, r.1, r.2))

pub certificate_of_two_back : (text : List ℕ) (c : Certificate) → certificate_of_two text ≡ Ok c → (text_of_two c ≡ text) × (is_certificate c ≡ true)
certificate_of_two_back text c q = let r = numbered_back false text c q in (r.0, narrow c r.1 r.2)

pub certificate_of_four_back : (text : List ℕ) (c : Certificate) → certificate_of_four text ≡ Ok c → (text_of_four c ≡ text) × (is_wide_certificate c ≡ true)
certificate_of_four_back text c q = let r = numbered_back true text c q in (r.0, andt c.is_wide (is_any_certificate c) r.2 r.1)
