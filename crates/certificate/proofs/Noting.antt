-- Tables of the forms of lines, an element at a time.
use Rattle.std.proofs.Common.{◌≡◌, ℕ, ◌+◌, ◌<◌, ◌≤◌, List, [], ◌∷◌, ◌++◌, length, drop, get_or, map, Some, ap, refl, sym, ◌∙◌}
use Rattle.std.specs.Prelude.{fold}
use Rattle.std.specs.List.{flat_map}
use Rattle.std.proofs.lemmas.Grind.{flat_map-append, fold-append}
use Rattle.std.proofs.lemmas.List.{append-nil, drop_more, drop_all}
use Rattle.linear.specs.Linear.{Form}
use Rattle.certificate_text.specs.Certificate.{Name, Congruence, Place, Lemma, Entry, Certificate}
use Rattle.certificate_text.specs.Lines.{Item, SameItem, FactItem, CongruenceItem, MultipleItem, BoundItem, StepItem}
use Rattle.certificate_text.specs.Items.{place_items, lemma_items, main_items, entry_items, line_forms, sort_forms}
use Rattle.certificate_text.specs.FormTables.{FormTable, with_form}
use Rattle.certificate_text.specs.NumberedText.{forms_of}
use Rattle.certificate_text.proofs.NumberedSteps.{entry_forms_are, lemmas_forms}
use Rattle.certificate.specs.UsedForms.{with_forms}

forms_behind : (seen : FormTable) (a b : List Item) → with_forms seen (a ++ b) ≡ with_forms (with_forms seen a) b
forms_behind seen a b = ap (fold with_form seen) (flat_map-append line_forms a b) ∙ fold-append with_form seen (flat_map line_forms a) (flat_map line_forms b)

with_one : (seen : FormTable) (item : Item) (f : Form Name) (items : List Item) → line_forms item ≡ f ∷ [] → with_forms seen (item ∷ items) ≡ with_forms (with_form seen f) items
with_one seen item f items e = ap (λ fs. fold with_form seen (fs ++ flat_map line_forms items)) e

with_two : (seen : FormTable) (item : Item) (f g : Form Name) (items : List Item) → line_forms item ≡ f ∷ g ∷ [] → with_forms seen (item ∷ items) ≡ with_forms (with_form (with_form seen f) g) items
with_two seen item f g items e = ap (λ fs. fold with_form seen (fs ++ flat_map line_forms items)) e

at : {A B : Type 0} (view : A → B) (xs : List A) (i : ℕ) (x : A) → i < length xs → x ≡ get_or xs i x → map view (drop i xs) ≡ view x ∷ map view (drop (i + 1) xs)
at view xs i x h e = ap (map view) (drop_more xs i x h) ∙ ap (λ y. view y ∷ map view (drop (i + 1) xs)) (sym e)

-- with the form of the line of the element at an index
pub one_noted : {A B : Type 0} (make : B → Item) (view : A → B) (xs : List A) (i : ℕ) (x : A) (f : Form Name) (seen new whole : FormTable) → line_forms (make (view x)) ≡ f ∷ [] → i < length xs → x ≡ get_or xs i x → new ≡ with_form seen f → with_forms seen (map make (map view (drop i xs))) ≡ whole → with_forms new (map make (map view (drop (i + 1) xs))) ≡ whole
one_noted make view xs i x f seen new whole o h e p q =
    ap (λ t. with_forms t (map make (map view (drop (i + 1) xs)))) p ∙ sym (with_one seen (make (view x)) f (map make (map view (drop (i + 1) xs))) o)
    ∙ ap (λ ys. with_forms seen (map make ys)) (sym (at view xs i x h e)) ∙ q

-- with its two forms
pub two_noted : {A B : Type 0} (make : B → Item) (view : A → B) (xs : List A) (i : ℕ) (x : A) (f g : Form Name) (seen middle new whole : FormTable) → line_forms (make (view x)) ≡ f ∷ g ∷ [] → i < length xs → x ≡ get_or xs i x → middle ≡ with_form seen f → new ≡ with_form middle g → with_forms seen (map make (map view (drop i xs))) ≡ whole → with_forms new (map make (map view (drop (i + 1) xs))) ≡ whole
two_noted make view xs i x f g seen middle new whole o h e p r q =
    ap (λ t. with_forms t (map make (map view (drop (i + 1) xs)))) (r ∙ ap (λ t. with_form t g) p) ∙ sym (with_two seen (make (view x)) f g (map make (map view (drop (i + 1) xs))) o)
    ∙ ap (λ ys. with_forms seen (map make ys)) (sym (at view xs i x h e)) ∙ q

pub all_noted : {A B : Type 0} (make : B → Item) (view : A → B) (xs : List A) (i : ℕ) (seen whole : FormTable) → length xs ≤ i → with_forms seen (map make (map view (drop i xs))) ≡ whole → seen ≡ whole
all_noted make view xs i seen whole h q = ap (λ ys. with_forms seen (map make (map view ys))) (sym (drop_all i xs h)) ∙ q

-- with the forms of its lines
pub block_noted : {A B : Type 0} (items : B → List Item) (view : A → B) (xs : List A) (i : ℕ) (x : A) (seen new whole : FormTable) → i < length xs → x ≡ get_or xs i x → new ≡ with_forms seen (items (view x)) → with_forms seen (flat_map items (map view (drop i xs))) ≡ whole → with_forms new (flat_map items (map view (drop (i + 1) xs))) ≡ whole
block_noted items view xs i x seen new whole h e p q =
    ap (λ t. with_forms t (flat_map items (map view (drop (i + 1) xs)))) p ∙ sym (forms_behind seen (items (view x)) (flat_map items (map view (drop (i + 1) xs))))
    ∙ ap (λ ys. with_forms seen (flat_map items ys)) (sym (at view xs i x h e)) ∙ q

pub blocks_noted : {A B : Type 0} (items : B → List Item) (view : A → B) (xs : List A) (i : ℕ) (seen whole : FormTable) → length xs ≤ i → with_forms seen (flat_map items (map view (drop i xs))) ≡ whole → seen ≡ whole
blocks_noted items view xs i seen whole h q = ap (λ ys. with_forms seen (flat_map items (map view ys))) (sym (drop_all i xs h)) ∙ q

without : {A : Type 0} (make : A → Item) → ((a : A) → line_forms (make a) ≡ []) → (xs : List A) → flat_map line_forms (map make xs) ≡ []
without make e [] = refl
without make e (x ∷ xs) = ap (λ fs. fs ++ flat_map line_forms (map make xs)) (e x) ∙ without make e xs

-- those of a place
pub place_noted : (seen one two new : FormTable) (p : Place) → one ≡ with_forms seen (map FactItem p.facts) → two ≡ with_forms one (map CongruenceItem p.congruences) → new ≡ with_forms two (map MultipleItem p.multiples) → new ≡ with_forms seen (place_items p)
place_noted seen one two new p a b d =
    let late : List Item = map CongruenceItem p.congruences ++ map MultipleItem p.multiples in
    d ∙ ap (λ t. with_forms t (map MultipleItem p.multiples)) b ∙ sym (forms_behind one (map CongruenceItem p.congruences) (map MultipleItem p.multiples))
    ∙ ap (λ t. with_forms t late) a ∙ sym (forms_behind seen (map FactItem p.facts) late)
    ∙ ap (λ t. with_forms t (map FactItem p.facts ++ late)) (sym (ap (fold with_form seen) (without SameItem (λ _. refl) p.same))) ∙ sym (forms_behind seen (map SameItem p.same) (map FactItem p.facts ++ late))

-- that of a lemma
pub lemma_noted : (seen : FormTable) (l : Lemma) → with_forms seen (lemma_items l) ≡ with_form seen l.form
lemma_noted seen l = ap (λ fs. fold with_form seen (l.form ∷ fs)) (without StepItem (λ _. refl) l.steps)

-- those of an entry
pub entry_noted : (seen middle new : FormTable) (e : Entry) → middle ≡ fold with_form seen (sort_forms e.sort) → new ≡ with_forms middle (flat_map lemma_items e.lemmas) → new ≡ with_forms seen (entry_items e)
entry_noted seen middle new e a b =
    b ∙ ap (λ t. with_forms t (flat_map lemma_items e.lemmas)) a ∙ ap (fold with_form (fold with_form seen (sort_forms e.sort))) (lemmas_forms e.lemmas)
    ∙ sym (fold-append with_form seen (sort_forms e.sort) (map (λ (l : Lemma). l.form) e.lemmas)) ∙ ap (fold with_form seen) (sym (entry_forms_are e))

-- those of a certificate
pub certificate_noted : (c : Certificate) (a b d : FormTable) → a ≡ with_forms [] (flat_map place_items c.places) → b ≡ with_forms a (map BoundItem c.bounds) → d ≡ with_forms b (flat_map entry_items c.entries) → d ≡ forms_of c
certificate_noted c a b d p q r =
    r ∙ ap (λ t. with_forms t (flat_map entry_items c.entries)) (q ∙ ap (λ t. with_forms t (map BoundItem c.bounds)) p)
    ∙ sym (forms_behind (with_forms [] (flat_map place_items c.places)) (map BoundItem c.bounds) (flat_map entry_items c.entries))
    ∙ sym (forms_behind [] (flat_map place_items c.places) (map BoundItem c.bounds ++ flat_map entry_items c.entries))
