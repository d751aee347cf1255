-- Texts of versions 2 and 4, part after part.
use Rattle.std.proofs.Common.{◌≡◌, ℕ, ◌+◌, ◌≤◌, List, [], ◌∷◌, ◌++◌, length, drop, map, Some, ap, refl, sym, ◌∙◌, append_assoc}
use Rattle.std.specs.Prelude.{codes, slice_get}
use Rattle.std.specs.List.{flat_map}
use Rattle.std.specs.Fmt.{decimal}
use Rattle.std.proofs.lemmas.List.{append-nil, drop_more, drop_all}
use Rattle.std.proofs.lemmas.Option.{slice_get_within, get_or_from_slice_get}
use Rattle.linear.specs.Linear.{Form}
use Rattle.lines.specs.Lines.{text_of_lines}
use Rattle.certificate_text.specs.Certificate.{Name, Place, Bound, EntrySort, Show, Positive, Negative, Quotient, Lemma, Entry, Certificate}
use Rattle.certificate_text.specs.Text.{main_lines, step_line}
use Rattle.certificate_text.specs.Lines.{EntryItem}
use Rattle.certificate_text.specs.Items.{items_of}
use Rattle.certificate_text.specs.FormTables.{FormTable}
use Rattle.certificate_text.specs.NumberedText.{forms_of, numbered_line, table_line, lines_of_two}
use Rattle.certificate_text.proofs.ItemsNumbered.{main_by, entry_by, items_written}
use Rattle.certificate.specs.NumberedLines.{place_lines, bound_line, sort_text, entry_line, lemma_lines, entry_lines}
use Rattle.certificate.proofs.Texts.{lines-append, whole}

entry_line_is : (forms : FormTable) (n : ℕ) (s : EntrySort) → numbered_line forms (EntryItem n s) ≡ codes "ob " ++ (decimal n ++ (codes " " ++ sort_text forms s))
entry_line_is forms n Show = refl
entry_line_is forms n Positive = refl
entry_line_is forms n Negative = refl
entry_line_is forms n (Quotient f) = refl

main_is : (forms : FormTable) (ls : List Lemma) → main_by (numbered_line forms) ls ≡ main_lines ls
main_is forms [] = refl
main_is forms (l ∷ ls) = refl

entry_is : (forms : FormTable) (e : Entry) → entry_by (numbered_line forms) e ≡ entry_lines forms e
entry_is forms e =
    ap (λ l. l ∷ (flat_map (lemma_lines forms) e.lemmas ++ (main_by (numbered_line forms) e.lemmas ++ map step_line e.steps))) (entry_line_is forms e.obligation e.sort)
    ∙ ap (λ ls. entry_line forms e ∷ (flat_map (lemma_lines forms) e.lemmas ++ (ls ++ map step_line e.steps))) (main_is forms e.lemmas)

entries_are : (forms : FormTable) (es : List Entry) → flat_map (entry_by (numbered_line forms)) es ≡ flat_map (entry_lines forms) es
entries_are forms [] = refl
entries_are forms (e ∷ es) = ap (λ ls. ls ++ flat_map (entry_by (numbered_line forms)) es) (entry_is forms e) ∙ ap (λ ls. entry_lines forms e ++ ls) (entries_are forms es)

-- the lines of a certificate between the table and the last line
parts_are : (forms : FormTable) (c : Certificate) → map (numbered_line forms) (items_of c) ≡ flat_map (place_lines forms) c.places ++ (map (bound_line forms) c.bounds ++ flat_map (entry_lines forms) c.entries)
parts_are forms c =
    items_written (numbered_line forms) c ∙ ap (λ ls. flat_map (place_lines forms) c.places ++ (map (bound_line forms) c.bounds ++ ls)) (entries_are forms c.entries)

-- the first line, the table, three rows of lines, and the last line
whole_of : (first : List ℕ) (forms : FormTable) (c : Certificate) → forms ≡ forms_of c → ((((first ++ text_of_lines (map table_line forms)) ++ text_of_lines (flat_map (place_lines forms) c.places)) ++ text_of_lines (map (bound_line forms) c.bounds)) ++ text_of_lines (flat_map (entry_lines forms) c.entries)) ++ codes "end\n" ≡ first ++ text_of_lines (lines_of_two (forms_of c) c)
whole_of first forms c e =
    let a = flat_map (place_lines forms) c.places in
    let b = map (bound_line forms) c.bounds in
    let d = flat_map (entry_lines forms) c.entries in
    let table : List ℕ = text_of_lines (map table_line forms) in
    whole (first ++ table) (codes "end") a b d
    ∙ append_assoc first table (text_of_lines ((a ++ (b ++ d)) ++ codes "end" ∷ []))
    ∙ ap (λ t. first ++ t) (sym (lines-append (map table_line forms) ((a ++ (b ++ d)) ++ codes "end" ∷ [])))
    ∙ ap (λ ls. first ++ text_of_lines (map table_line forms ++ (ls ++ codes "end" ∷ []))) (sym (parts_are forms c))
    ∙ ap (λ t. first ++ text_of_lines (map table_line t ++ (map (numbered_line t) (items_of c) ++ codes "end" ∷ []))) e

-- one after another, as they are written
pub written_in_turn : (first : List ℕ) (forms : FormTable) (c : Certificate) (ps : List Place) (bs : List Bound) (es : List Entry) (begun table places bounds entries all : List ℕ) → forms ≡ forms_of c → ps ≡ c.places → bs ≡ c.bounds → es ≡ c.entries → begun ≡ first → table ≡ begun ++ text_of_lines (map table_line forms) → places ≡ table ++ text_of_lines (flat_map (place_lines forms) ps) → bounds ≡ places ++ text_of_lines (map (bound_line forms) bs) → entries ≡ bounds ++ text_of_lines (flat_map (entry_lines forms) es) → all ≡ entries ++ codes "end\n" → all ≡ first ++ text_of_lines (lines_of_two (forms_of c) c)
written_in_turn first forms c ps bs es begun table places bounds entries all e p b d q1 q2 q3 q4 q5 q6 =
    let t : List ℕ = text_of_lines (map table_line forms) in
    let one = λ (o : List ℕ). o ++ t in
    let two = λ (o : List ℕ) (xs : List Place). o ++ text_of_lines (flat_map (place_lines forms) xs) in
    let three = λ (o : List ℕ) (xs : List Bound). o ++ text_of_lines (map (bound_line forms) xs) in
    let four = λ (o : List ℕ) (xs : List Entry). o ++ text_of_lines (flat_map (entry_lines forms) xs) in
    let r2 : table ≡ first ++ t = q2 ∙ ap one q1 in
    let r3 : places ≡ two (first ++ t) c.places = q3 ∙ ap (λ o. two o ps) r2 ∙ ap (two (first ++ t)) p in
    let r4 : bounds ≡ three (two (first ++ t) c.places) c.bounds = q4 ∙ ap (λ o. three o bs) r3 ∙ ap (three (two (first ++ t) c.places)) b in
    let r5 : entries ≡ four (three (two (first ++ t) c.places) c.bounds) c.entries =
    q5 ∙ ap (λ o. four o es) r4 ∙ ap (four (three (two (first ++ t) c.places) c.bounds)) d
    in
    q6 ∙ ap (λ o. o ++ codes "end\n") r5 ∙ whole_of first forms c e

-- the line of the form at an index of the table
from_index : {A : Type 0} (xs : List A) (i : ℕ) (x : A) → slice_get xs i ≡ Some x → drop i xs ≡ x ∷ drop (i + 1) xs
from_index xs i x e = drop_more xs i x (slice_get_within xs i x e) ∙ ap (λ y. y ∷ drop (i + 1) xs) (get_or_from_slice_get xs i x x e)

pub table_line_more : (forms : FormTable) (i : ℕ) (f : Form Name) (out new whole : List ℕ) → slice_get forms i ≡ Some f → new ≡ out ++ (table_line f ++ 10 ∷ []) → out ++ text_of_lines (map table_line (drop i forms)) ≡ whole → new ++ text_of_lines (map table_line (drop (i + 1) forms)) ≡ whole
table_line_more forms i f out new whole g p q =
    ap (λ t. t ++ text_of_lines (map table_line (drop (i + 1) forms))) p ∙ append_assoc out (table_line f ++ 10 ∷ []) (text_of_lines (map table_line (drop (i + 1) forms)))
    ∙ ap (λ ls. out ++ text_of_lines (map table_line ls)) (sym (from_index forms i f g)) ∙ q

pub table_over : (forms : FormTable) (i : ℕ) (out whole : List ℕ) → length forms ≤ i → out ++ text_of_lines (map table_line (drop i forms)) ≡ whole → out ≡ whole
table_over forms i out whole h q = sym (append-nil out) ∙ ap (λ ys. out ++ text_of_lines (map table_line ys)) (sym (drop_all i forms h)) ∙ q
