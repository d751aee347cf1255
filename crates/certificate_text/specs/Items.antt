-- What the lines of a certificate say, one after the other, and the forms that a line has.
use Rattle.std.specs.Prelude.{ℕ, List, [], ◌∷◌, ◌++◌, map, codes}
use Rattle.std.specs.List.{flat_map}
use Rattle.linear.specs.Linear.{Form}
use Rattle.certificate_text.specs.Certificate.{Name, EntrySort, Show, Positive, Negative, Quotient, Place, Lemma, Entry, Certificate}
use Rattle.certificate_text.specs.Text.{place_line, same_line, fact_line, congruence_line, multiple_line, bound_line, entry_line, lemma_line, step_line}
use Rattle.certificate_text.specs.Lines.{Item, PlaceItem, SameItem, FactItem, CongruenceItem, MultipleItem, BoundItem, EntryItem, LemmaItem, MainItem, StepItem, EndItem}

abbrev pub place_items : Place → List Item
place_items p =
    PlaceItem p.spot ∷ (map SameItem p.same ++ (map FactItem p.facts ++ (map CongruenceItem p.congruences ++ map MultipleItem p.multiples)))

abbrev pub lemma_items : Lemma → List Item
lemma_items l = LemmaItem l.form ∷ map StepItem l.steps

abbrev pub main_items : List Lemma → List Item
main_items [] = []
main_items (l ∷ others) = MainItem ∷ []

abbrev pub entry_items : Entry → List Item
entry_items e = EntryItem e.obligation e.sort ∷ (flat_map lemma_items e.lemmas ++ (main_items e.lemmas ++ map StepItem e.steps))

-- between the first line and the last
abbrev pub items_of : Certificate → List Item
items_of c = flat_map place_items c.places ++ (map BoundItem c.bounds ++ flat_map entry_items c.entries)

abbrev pub item_line : Item → List ℕ
item_line (PlaceItem s) = place_line s
item_line (SameItem name) = same_line name
item_line (FactItem f) = fact_line f
item_line (CongruenceItem c) = congruence_line c
item_line (MultipleItem m) = multiple_line m
item_line (BoundItem b) = bound_line b
item_line (EntryItem n sort) = entry_line n sort
item_line (LemmaItem f) = lemma_line f
item_line MainItem = codes "m"
item_line (StepItem s) = step_line s
item_line EndItem = codes "end"

abbrev pub sort_forms : EntrySort → List (Form Name)
sort_forms Show = []
sort_forms Positive = []
sort_forms Negative = []
sort_forms (Quotient f) = f ∷ []

-- the forms of a line, as it names them
abbrev pub line_forms : Item → List (Form Name)
line_forms (PlaceItem s) = []
line_forms (SameItem name) = []
line_forms (FactItem f) = f ∷ []
line_forms (CongruenceItem c) = c.form ∷ []
line_forms (MultipleItem m) = m.form ∷ m.of ∷ []
line_forms (BoundItem b) = b.form ∷ []
line_forms (EntryItem n sort) = sort_forms sort
line_forms (LemmaItem f) = f ∷ []
line_forms MainItem = []
line_forms (StepItem s) = []
line_forms EndItem = []

-- the first and the second of some forms, or one in their place
abbrev pub first_or : Form Name → List (Form Name) → Form Name
first_or f [] = f
first_or f (g ∷ forms) = g

abbrev pub second_or : Form Name → List (Form Name) → Form Name
second_or f [] = f
second_or f (g ∷ forms) = first_or f forms

abbrev pub put_sort_forms : List (Form Name) → EntrySort → EntrySort
put_sort_forms forms Show = Show
put_sort_forms forms Positive = Positive
put_sort_forms forms Negative = Negative
put_sort_forms forms (Quotient f) = Quotient (first_or f forms)

-- the line with those forms in place of its own
abbrev pub put_forms : List (Form Name) → Item → Item
put_forms forms (PlaceItem s) = PlaceItem s
put_forms forms (SameItem name) = SameItem name
put_forms forms (FactItem f) = FactItem (first_or f forms)
put_forms forms (CongruenceItem c) = CongruenceItem (record c { form = first_or c.form forms })
put_forms forms (MultipleItem m) = MultipleItem (record { of = second_or m.of forms; form = first_or m.form forms })
put_forms forms (BoundItem b) = BoundItem (record b { form = first_or b.form forms })
put_forms forms (EntryItem n sort) = EntryItem n (put_sort_forms forms sort)
put_forms forms (LemmaItem f) = LemmaItem (first_or f forms)
put_forms forms MainItem = MainItem
put_forms forms (StepItem s) = StepItem s
put_forms forms EndItem = EndItem
