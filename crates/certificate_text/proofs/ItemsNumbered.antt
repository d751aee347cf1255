-- The items of a certificate, and the numbers that stand for their forms.
use Rattle.std.proofs.Common.{◌≡◌, ℕ, Bool, true, ◌&&◌, ◌||◌, List, [], ◌∷◌, ◌++◌, map, Some, refl, ap, ◌∙◌}
use Rattle.std.proofs.lemmas.Bool.{false≢true}
use Rattle.std.specs.Prelude.{ℤ, pos, negsuc, nat_le}
use Rattle.std.specs.List.{flat_map}
use Rattle.std.proofs.lemmas.List.{map-append}
use Rattle.linear.specs.Linear.{Form}
use Rattle.lines.specs.Lines.{is_empty, is_natural}
use Rattle.certificate_text.specs.Certificate.{Name, Place, Lemma, EntrySort, Show, Positive, Negative, Quotient, Entry, Certificate}
use Rattle.certificate_text.specs.Text.{place_lines, entry_line, step_line, lemma_lines, main_lines, entry_lines, body_lines}
use Rattle.certificate_text.specs.Forms.{form}
use Rattle.certificate_text.specs.Lines.{Item, PlaceItem, SameItem, FactItem, CongruenceItem, MultipleItem, BoundItem, EntryItem, LemmaItem, MainItem, StepItem, EndItem}
use Rattle.certificate_text.specs.Rules.{all, is_form, is_spot, is_congruence, is_multiple, is_open_place, is_place, is_bound, is_descent, is_sort, is_step, is_lemma, is_entry, is_narrow, is_narrow_item, is_written, is_any_certificate}
use Rattle.lines.specs.Identifiers.{is_identifier}
use Rattle.lines.specs.Lines.{is_integer}
use Rattle.certificate_text.specs.Drafts.{has_line}
use Rattle.certificate_text.specs.Items.{place_items, lemma_items, main_items, entry_items, items_of, item_line, sort_forms, line_forms}
use Rattle.certificate_text.specs.NumberedText.{number_form}
use Rattle.certificate_text.specs.NumberedReading.{whole_number, number_in}
use Rattle.lines.proofs.Fronts.{both}
use Rattle.certificate_text.proofs.Cuts.{cond_back, none_left}
use Rattle.certificate_text.proofs.FormsRead.{three}
use Rattle.certificate_text.proofs.NamesWritten.{all_append}
use Rattle.certificate_text.proofs.PartsRead.{is_constant, is_item, is_part}
use Rattle.certificate_text.proofs.PartsRead.{andt, same}

-- what is written of a place, and of an entry, item by item
abbrev pub place_by : (Item → List ℕ) → Place → List (List ℕ)
place_by write p =
    write (PlaceItem p.spot)
    ∷ (map (λ n. write (SameItem n)) p.same ++ (map (λ f. write (FactItem f)) p.facts ++ (map (λ c. write (CongruenceItem c)) p.congruences ++ map (λ m. write (MultipleItem m)) p.multiples)))

abbrev pub lemma_by : (Item → List ℕ) → Lemma → List (List ℕ)
lemma_by write l = write (LemmaItem l.form) ∷ map (λ s. write (StepItem s)) l.steps

abbrev pub main_by : (Item → List ℕ) → List Lemma → List (List ℕ)
main_by write [] = []
main_by write (l ∷ others) = write MainItem ∷ []

abbrev pub entry_by : (Item → List ℕ) → Entry → List (List ℕ)
entry_by write e =
    write (EntryItem e.obligation e.sort) ∷ (flat_map (lemma_by write) e.lemmas ++ (main_by write e.lemmas ++ map (λ s. write (StepItem s)) e.steps))

each_by : {A : Type 0} (write : Item → List ℕ) (make : A → Item) (xs : List A) → map write (map make xs) ≡ map (λ x. write (make x)) xs
each_by write make [] = refl
each_by write make (x ∷ xs) = ap (λ ls. write (make x) ∷ ls) (each_by write make xs)

-- two rows of items
two_by : (write : Item → List ℕ) (a b : List Item) (x y : List (List ℕ)) → map write a ≡ x → map write b ≡ y → map write (a ++ b) ≡ x ++ y
two_by write a b x y p q = map-append write a b ∙ ap (λ ls. ls ++ map write b) p ∙ ap (λ ls. x ++ ls) q

pub place_written : (write : Item → List ℕ) (p : Place) → map write (place_items p) ≡ place_by write p
place_written write p =
    ap (λ ls. write (PlaceItem p.spot) ∷ ls) (two_by write (map SameItem p.same) _ _ _ (each_by write SameItem p.same)
    (two_by write (map FactItem p.facts) _ _ _ (each_by write FactItem p.facts)
    (two_by write (map CongruenceItem p.congruences) (map MultipleItem p.multiples) _ _ (each_by write CongruenceItem p.congruences) (each_by write MultipleItem p.multiples))))

joined_by : {A : Type 0} (write : Item → List ℕ) (items : A → List Item) (lines : A → List (List ℕ)) → ((a : A) → map write (items a) ≡ lines a) → (xs : List A) → map write (flat_map items xs) ≡ flat_map lines xs
joined_by write items lines e [] = refl
joined_by write items lines e (x ∷ xs) =
    map-append write (items x) (flat_map items xs) ∙ ap (λ ls. ls ++ map write (flat_map items xs)) (e x) ∙ ap (λ ls. lines x ++ ls) (joined_by write items lines e xs)

lemma_written : (write : Item → List ℕ) (l : Lemma) → map write (lemma_items l) ≡ lemma_by write l
lemma_written write l = ap (λ ls. write (LemmaItem l.form) ∷ ls) (each_by write StepItem l.steps)

main_written : (write : Item → List ℕ) (ls : List Lemma) → map write (main_items ls) ≡ main_by write ls
main_written write [] = refl
main_written write (l ∷ ls) = refl

pub entry_written : (write : Item → List ℕ) (e : Entry) → map write (entry_items e) ≡ entry_by write e
entry_written write e =
    ap (λ ls. write (EntryItem e.obligation e.sort) ∷ ls) (two_by write (flat_map lemma_items e.lemmas) _ _ _ (joined_by write lemma_items (lemma_by write) (lemma_written write) e.lemmas)
    (two_by write (main_items e.lemmas) (map StepItem e.steps) _ _ (main_written write e.lemmas) (each_by write StepItem e.steps)))

-- what is written of a certificate, item by item
pub items_written : (write : Item → List ℕ) (c : Certificate) → map write (items_of c) ≡ flat_map (place_by write) c.places ++ (map (λ b. write (BoundItem b)) c.bounds ++ flat_map (entry_by write) c.entries)
items_written write c =
    map-append write (flat_map place_items c.places) (map BoundItem c.bounds ++ flat_map entry_items c.entries)
    ∙ ap (λ ls. ls ++ map write (map BoundItem c.bounds ++ flat_map entry_items c.entries)) (joined_by write place_items (place_by write) (place_written write) c.places)
    ∙ ap (λ ls. flat_map (place_by write) c.places ++ ls) (map-append write (map BoundItem c.bounds) (flat_map entry_items c.entries) ∙ ap (λ ls. ls ++ map write (flat_map entry_items c.entries)) (each_by write BoundItem c.bounds) ∙ ap (λ ls. map (λ b. write (BoundItem b)) c.bounds ++ ls) (joined_by write entry_items (entry_by write) (entry_written write) c.entries))

lines_main : (ls : List Lemma) → main_by item_line ls ≡ main_lines ls
lines_main [] = refl
lines_main (l ∷ ls) = refl

lines_entry : (e : Entry) → map item_line (entry_items e) ≡ entry_lines e
lines_entry e =
    entry_written item_line e ∙ ap (λ ls. entry_line e.obligation e.sort ∷ (flat_map lemma_lines e.lemmas ++ (ls ++ map step_line e.steps))) (lines_main e.lemmas)

-- the lines of a certificate are those of its items
pub lines_are : (c : Certificate) → map item_line (items_of c) ≡ body_lines c
lines_are c =
    two_by item_line (flat_map place_items c.places) _ _ _ (joined_by item_line place_items place_lines (place_written item_line) c.places)
    (two_by item_line (map BoundItem c.bounds) (flat_map entry_items c.entries) _ _ (each_by item_line BoundItem c.bounds) (joined_by item_line entry_items entry_lines lines_entry c.entries))

good_items : {A : Type 0} (make : A → Item) (test : A → Bool) → ((a : A) → is_part (make a) ≡ test a) → (xs : List A) → all test xs ≡ true → all is_part (map make xs) ≡ true
good_items make test e [] h = refl
good_items make test e (x ∷ xs) h = let p = both (test x) (all test xs) h in andt (is_part (make x)) _ (e x ∙ p.0) (good_items make test e xs p.1)

joined_items : {A : Type 0} (items : A → List Item) (test : A → Bool) → ((a : A) → test a ≡ true → all is_part (items a) ≡ true) → (xs : List A) → all test xs ≡ true → all is_part (flat_map items xs) ≡ true
joined_items items test e [] h = refl
joined_items items test e (x ∷ xs) h = let p = both (test x) (all test xs) h in all_append is_part (items x) (flat_map items xs) (e x p.0) (joined_items items test e xs p.1)

good_place : (p : Place) → is_place p ≡ true → all is_part (place_items p) ≡ true
good_place p h =
    let o = both (is_open_place p) (has_line p) h in
    let a = both (is_spot p.spot) _ o.0 in
    let b = both (all is_identifier p.same) _ a.1 in
    let c = both (all is_form p.facts) _ b.1 in
    let d = both (all is_congruence p.congruences) (all is_multiple p.multiples) c.1 in
    andt (is_spot p.spot) _ a.0 (all_append is_part (map SameItem p.same) _ (good_items SameItem is_identifier (λ _. refl) p.same b.0)
    (all_append is_part (map FactItem p.facts) _ (good_items FactItem is_form (λ _. refl) p.facts c.0)
    (all_append is_part (map CongruenceItem p.congruences) (map MultipleItem p.multiples) (good_items CongruenceItem is_congruence (λ _. refl) p.congruences d.0) (good_items MultipleItem is_multiple (λ _. refl) p.multiples d.1))))

good_lemma : (l : Lemma) → is_lemma l ≡ true → all is_part (lemma_items l) ≡ true
good_lemma l h = let p = both (is_form l.form) (all is_step l.steps) h in andt (is_form l.form) _ p.0 (good_items StepItem is_step (λ _. refl) l.steps p.1)

good_main : (ls : List Lemma) → all is_part (main_items ls) ≡ true
good_main [] = refl
good_main (l ∷ ls) = refl

good_entry : (e : Entry) → is_entry e ≡ true → all is_part (entry_items e) ≡ true
good_entry e h =
    let a = both (is_natural e.obligation && nat_le 1 e.obligation) _ h in
    let b = both (is_sort e.sort) _ a.1 in
    let c = both (all is_lemma e.lemmas) (all is_step e.steps) b.1 in
    andt (is_part (EntryItem e.obligation e.sort)) _ (andt (is_natural e.obligation && nat_le 1 e.obligation) (is_sort e.sort) a.0 b.0) (all_append is_part (flat_map lemma_items e.lemmas) _ (joined_items lemma_items is_lemma good_lemma e.lemmas c.0)
    (all_append is_part (main_items e.lemmas) (map StepItem e.steps) (good_main e.lemmas) (good_items StepItem is_step (λ _. refl) e.steps c.1)))

-- each item of a certificate that can be written is one that can
pub items_good : (c : Certificate) → is_any_certificate c ≡ true → all is_part (items_of c) ≡ true
items_good c h =
    let w = both (c.is_wide || is_narrow c) (is_written c) h in
    let a = both _ _ w.1 in
    let p = both (all is_place c.places) _ a.0 in
    let l = both _ _ a.1 in
    let b = both (all is_bound c.bounds) _ l.0 in
    let e = both (all is_entry c.entries) _ l.1 in
    all_append is_part (flat_map place_items c.places) (map BoundItem c.bounds ++ flat_map entry_items c.entries) (joined_items place_items is_place good_place c.places p.0)
    (all_append is_part (map BoundItem c.bounds) (flat_map entry_items c.entries) (good_items BoundItem is_bound (λ _. refl) c.bounds b.0) (joined_items entry_items is_entry good_entry c.entries e.0))

-- and its line is read where versions 1 and 2 have words for it
narrow_item : (i : Item) → is_part i ≡ true → is_narrow_item i ≡ true → is_item i ≡ true
narrow_item (PlaceItem s) h n = h
narrow_item (SameItem name) h n = h
narrow_item (FactItem f) h n = h
narrow_item (CongruenceItem c) h n = h
narrow_item (MultipleItem m) h n = absurd (false≢true n)
narrow_item (BoundItem b) h n = h
narrow_item (EntryItem k sort) h n = h
narrow_item (LemmaItem f) h n = h
narrow_item MainItem h n = h
narrow_item (StepItem s) h n = h
narrow_item EndItem h n = h

pub narrow_items : (items : List Item) → all is_part items ≡ true → all is_narrow_item items ≡ true → all is_item items ≡ true
narrow_items [] h n = refl
narrow_items (i ∷ items) h n =
    let p = both (is_part i) (all is_part items) h in
    let q = both (is_narrow_item i) (all is_narrow_item items) n in
    andt (is_item i) (all is_item items) (narrow_item i p.0 q.0) (narrow_items items p.1 q.1)

sort_forms_good : (s : EntrySort) → is_sort s ≡ true → all is_form (sort_forms s) ≡ true
sort_forms_good Show h = refl
sort_forms_good Positive h = refl
sort_forms_good Negative h = refl
sort_forms_good (Quotient f) h = andt (is_form f) true h refl

pub forms_good : (i : Item) → is_part i ≡ true → all is_form (line_forms i) ≡ true
forms_good (PlaceItem s) h = refl
forms_good (SameItem name) h = refl
forms_good (FactItem f) h = andt (is_form f) true h refl
forms_good (CongruenceItem c) h =
    let p = both (is_natural c.modulus) _ h in
    let q = both (nat_le 2 c.modulus) (is_form c.form) p.1 in
    andt (is_form c.form) true q.1 refl
forms_good (MultipleItem m) h = let p = both (is_form m.of) (is_form m.form) h in three (is_form m.form) (is_form m.of) true p.1 p.0 refl
forms_good (BoundItem b) h =
    let p = both (is_natural b.loop) _ h in
    let q = both (is_descent b.descent) _ p.1 in
    let r = both (is_integer b.most) (is_form b.form) q.1 in
    andt (is_form b.form) true r.1 refl
forms_good (EntryItem n s) h = sort_forms_good s (both (is_natural n && nat_le 1 n) (is_sort s) h).1
forms_good (LemmaItem f) h = andt (is_form f) true h refl
forms_good MainItem h = refl
forms_good (StepItem s) h = refl
forms_good EndItem h = refl

whole_back : (z : ℤ) (n : ℕ) → whole_number z ≡ Some n → z ≡ pos n
whole_back (pos m) n e = ap pos (same m n e)
whole_back (negsuc m) n e = absurd cc

-- what stands for a number is that number's form
pub number_in_back : (f : Form Name) (n : ℕ) → number_in f ≡ Some n → f ≡ number_form n
number_in_back f n e =
    let c = cond_back (is_empty f.terms) (whole_number f.constant) n e in
    ap (λ t. form t f.constant) (none_left f.terms c.0) ∙ ap (form []) (whole_back f.constant n c.1)

pub number_constant : (n : ℕ) → is_natural n ≡ true → is_constant (number_form n) ≡ true
number_constant n h = h
