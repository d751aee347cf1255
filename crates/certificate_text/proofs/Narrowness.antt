-- What versions 1 and 2 have no words for is missing in a certificate where it is missing in each of its lines.
use Rattle.std.proofs.Common.{◌≡◌, Bool, true, false, not, ◌&&◌, ◌||◌, List, [], ◌∷◌, ◌++◌, map, refl, ap, sym, ◌∙◌}
use Rattle.std.specs.List.{flat_map}
use Rattle.lines.specs.Lines.{is_empty}
use Rattle.certificate_text.specs.Certificate.{Place, Step, Lemma, Entry, Certificate}
use Rattle.certificate_text.specs.Lines.{Item, SameItem, FactItem, CongruenceItem, MultipleItem, BoundItem, StepItem}
use Rattle.certificate_text.specs.Items.{place_items, lemma_items, main_items, entry_items, items_of}
use Rattle.certificate_text.specs.Rules.{all, is_narrow_form, is_narrow_congruence, is_narrow_place, is_narrow_bound, is_narrow_sort, is_narrow_step, is_narrow_entry, is_narrow_item, has_narrow_lines, is_narrow}
use Rattle.lines.proofs.Fronts.{both}

-- whether a certificate that is wide, or not, may have a line
abbrev pub fits_in : (is_wide : Bool) → Item → Bool
fits_in is_wide i = is_wide || is_narrow_item i

abbrev pub Fits : (is_wide : Bool) → List Item → Type 0
Fits is_wide items = all (fits_in is_wide) items ≡ true

pub always : {A : Type 0} (xs : List A) → all (λ (x : A). true) xs ≡ true
always [] = refl
always (x ∷ xs) = always xs

never : {A : Type 0} (xs : List A) → all (λ (x : A). false) xs ≡ is_empty xs
never [] = refl
never (x ∷ xs) = refl

and_assoc : (a b c : Bool) → (a && b) && c ≡ a && (b && c)
and_assoc true b c = refl
and_assoc false b c = refl

all_on : {A : Type 0} (test : A → Bool) (a b : List A) → all test (a ++ b) ≡ all test a && all test b
all_on test [] b = refl
all_on test (x ∷ a) b = ap (λ t. test x && t) (all_on test a b) ∙ sym (and_assoc (test x) (all test a) (all test b))

all_made : {A : Type 0} (make : A → Item) (test : A → Bool) → ((a : A) → is_narrow_item (make a) ≡ test a) → (xs : List A) → all is_narrow_item (map make xs) ≡ all test xs
all_made make test e [] = refl
all_made make test e (x ∷ xs) = ap (λ t. t && all is_narrow_item (map make xs)) (e x) ∙ ap (λ t. test x && t) (all_made make test e xs)

all_joined : {A : Type 0} (items : A → List Item) (test : A → Bool) → ((a : A) → all is_narrow_item (items a) ≡ test a) → (xs : List A) → all is_narrow_item (flat_map items xs) ≡ all test xs
all_joined items test e [] = refl
all_joined items test e (x ∷ xs) = all_on is_narrow_item (items x) (flat_map items xs) ∙ ap (λ t. t && all is_narrow_item (flat_map items xs)) (e x) ∙ ap (λ t. test x && t) (all_joined items test e xs)

place_narrow : (p : Place) → all is_narrow_item (place_items p) ≡ is_narrow_place p
place_narrow p =
    let late : List Item = map CongruenceItem p.congruences ++ map MultipleItem p.multiples in
    all_on is_narrow_item (map SameItem p.same) (map FactItem p.facts ++ late)
    ∙ ap (λ t. t && all is_narrow_item (map FactItem p.facts ++ late)) (all_made SameItem (λ n. true) (λ n. refl) p.same ∙ always p.same)
    ∙ all_on is_narrow_item (map FactItem p.facts) late
    ∙ ap (λ t. t && all is_narrow_item late) (all_made FactItem is_narrow_form (λ f. refl) p.facts)
    ∙ ap (λ t. all is_narrow_form p.facts && t) (all_on is_narrow_item (map CongruenceItem p.congruences) (map MultipleItem p.multiples)
    ∙ ap (λ t. t && all is_narrow_item (map MultipleItem p.multiples)) (all_made CongruenceItem is_narrow_congruence (λ c. refl) p.congruences)
    ∙ ap (λ t. all is_narrow_congruence p.congruences && t) (all_made MultipleItem (λ m. false) (λ m. refl) p.multiples ∙ never p.multiples))

-- lemmas stand in wide certificates alone
shown_narrow : (lemmas : List Lemma) (steps : List Step) → all is_narrow_item (flat_map lemma_items lemmas ++ (main_items lemmas ++ map StepItem steps)) ≡ is_empty lemmas && all is_narrow_step steps
shown_narrow [] steps = all_made StepItem is_narrow_step (λ s. refl) steps
shown_narrow (l ∷ lemmas) steps = refl

entry_narrow : (e : Entry) → all is_narrow_item (entry_items e) ≡ is_narrow_entry e
entry_narrow e = ap (λ t. is_narrow_sort e.sort && t) (shown_narrow e.lemmas e.steps)

pub items_narrow : (c : Certificate) → all is_narrow_item (items_of c) ≡ has_narrow_lines c
items_narrow c =
    let late : List Item = map BoundItem c.bounds ++ flat_map entry_items c.entries in
    all_on is_narrow_item (flat_map place_items c.places) late
    ∙ ap (λ t. t && all is_narrow_item late) (all_joined place_items is_narrow_place place_narrow c.places)
    ∙ ap (λ t. all is_narrow_place c.places && t) (all_on is_narrow_item (map BoundItem c.bounds) (flat_map entry_items c.entries)
    ∙ ap (λ t. t && all is_narrow_item (flat_map entry_items c.entries)) (all_made BoundItem is_narrow_bound (λ b. refl) c.bounds)
    ∙ ap (λ t. all is_narrow_bound c.bounds && t) (all_joined entry_items is_narrow_entry entry_narrow c.entries))

fits_are : (is_wide : Bool) (items : List Item) → all (fits_in is_wide) items ≡ is_wide || all is_narrow_item items
fits_are true items = always items
fits_are false items = refl

lines_too : (is_wide joins narrow : Bool) → (is_wide || (not joins && narrow)) ≡ true → (is_wide || narrow) ≡ true
lines_too true joins narrow h = refl
lines_too false joins narrow h = (both (not joins) narrow h).1

with_both : (is_wide joins narrow : Bool) → (is_wide || not joins) ≡ true → (is_wide || narrow) ≡ true → (is_wide || (not joins && narrow)) ≡ true
with_both true joins narrow j n = refl
with_both false joins narrow j n = rw (j, n) refl

-- a narrow certificate does not join
pub joins_where : (c : Certificate) → (c.is_wide || is_narrow c) ≡ true → (c.is_wide || not c.joins) ≡ true
joins_where c h = where_wide c.is_wide c.joins (has_narrow_lines c) h
  where
    where_wide : (is_wide joins narrow : Bool) → (is_wide || (not joins && narrow)) ≡ true → (is_wide || not joins) ≡ true
    where_wide true joins narrow h = refl
    where_wide false joins narrow h = (both (not joins) narrow h).0

-- the lines of a certificate fit where it is wide or narrow
pub items_fit : (c : Certificate) → (c.is_wide || is_narrow c) ≡ true → Fits c.is_wide (items_of c)
items_fit c h =
    fits_are c.is_wide (items_of c) ∙ ap (λ t. c.is_wide || t) (items_narrow c) ∙ lines_too c.is_wide c.joins (has_narrow_lines c) h

pub fit_back : (c : Certificate) (rest : List Item) → (c.is_wide || not c.joins) ≡ true → Fits c.is_wide (items_of c ++ rest) → (c.is_wide || is_narrow c) ≡ true
fit_back c rest j h =
    let front = (both (all (fits_in c.is_wide) (items_of c)) (all (fits_in c.is_wide) rest) (sym (all_on (fits_in c.is_wide) (items_of c) rest) ∙ h)).0 in
    with_both c.is_wide c.joins (has_narrow_lines c) j (ap (λ t. c.is_wide || t) (sym (items_narrow c)) ∙ sym (fits_are c.is_wide (items_of c)) ∙ front)
