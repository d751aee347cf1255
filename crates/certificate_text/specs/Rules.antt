-- Which certificates have a text: names and numbers that can be written, and parts that rise.
use Rattle.std.specs.Prelude.{ℕ, pos, List, [], ◌∷◌, Bool, true, false, not, nat_le, nat_lt, ◌&&◌, ◌||◌, Option, None, Some}
use Rattle.std.specs.Ordering.{int_eq}
use Rattle.linear.specs.Linear.{Weighted, Form}
use Rattle.lines.specs.Lines.{is_empty, is_natural, is_integer}
use Rattle.certificate_text.specs.Certificate.{Name, Variable, AtAnchor, Turns, Fresh, Argument, Length, Groups, Group, Local, Second, Product, Anchor, KernelEntry, Barrier, Spot, Congruence, Multiple, Place, Descent, Down, Halve, Double, Bound, EntrySort, Show, Positive, Negative, Quotient, Scaled, Step, Given, Sum, Divide, Lemma, Entry, Certificate}
use Rattle.certificate_text.specs.Text.{name_text}
use Rattle.certificate_text.specs.Forms.{in_order, term_is_before}
use Rattle.lines.specs.Identifiers.{is_identifier}
use Rattle.certificate_text.specs.Lines.{Item, PlaceItem, SameItem, FactItem, CongruenceItem, MultipleItem, BoundItem, EntryItem, LemmaItem, MainItem, StepItem, EndItem, line_is_before}
use Rattle.certificate_text.specs.Drafts.{spot_is_before, has_line}

abbrev pub all : {A : Type 0} → (A → Bool) → List A → Bool
all test [] = true
all test (a ∷ others) = test a && all test others

-- each one before the next
abbrev pub rises : {A : Type 0} → (A → A → Bool) → List A → Bool
rises before [] = true
rises before (a ∷ []) = true
rises before (a ∷ b ∷ others) = before a b && rises before (b ∷ others)

-- a name of one item alone
abbrev pub is_plain_name : Name → Bool
is_plain_name (Variable name) = is_identifier name
is_plain_name (AtAnchor name) = is_identifier name
is_plain_name (Turns loop) = is_natural loop
is_plain_name (Fresh number) = is_natural number
is_plain_name (Argument name) = is_identifier name
is_plain_name (Length name) = is_identifier name
is_plain_name (Groups dimension) = true
is_plain_name (Group dimension) = true
is_plain_name (Local dimension) = true
is_plain_name (Second name) = false
is_plain_name (Product first others) = false

-- of either item
abbrev pub is_factor : Name → Bool
is_factor (Second name) = is_plain_name name
is_factor name = is_plain_name name

abbrev pub names_rise : (left right : Name) → Bool
names_rise left right = in_order (name_text left) (name_text right)

abbrev pub is_pair : (first second : Name) → Bool
is_pair first second = is_factor first && (is_factor second && names_rise first second)

-- a product has two or three names, in the order of their bytes
abbrev pub is_product : (first others : Name) → Bool
is_product first (Product second third) = is_factor first && (is_pair second third && names_rise first second)
is_product first second = is_pair first second

abbrev pub is_name : Name → Bool
is_name (Product first others) = is_product first others
is_name name = is_factor name

abbrev pub is_term : Weighted Name → Bool
is_term t = is_integer t.coefficient && (not (int_eq t.coefficient (pos 0)) && is_name t.symbol)

abbrev pub is_form : Form Name → Bool
is_form f = all is_term f.terms && (rises term_is_before f.terms && is_integer f.constant)

abbrev pub is_anchor : Anchor → Bool
is_anchor KernelEntry = true
is_anchor (Barrier statement) = is_natural statement

abbrev pub is_head : Option ℕ → Bool
is_head None = true
is_head (Some loop) = is_natural loop

abbrev pub is_spot : Spot → Bool
is_spot s = is_anchor s.anchor && is_head s.head

abbrev pub is_congruence : Congruence → Bool
is_congruence c = is_natural c.modulus && (nat_le 2 c.modulus && is_form c.form)

abbrev pub is_multiple : Multiple → Bool
is_multiple m = is_form m.of && is_form m.form

abbrev pub is_open_place : Place → Bool
is_open_place p =
    is_spot p.spot && (all is_identifier p.same && (all is_form p.facts && (all is_congruence p.congruences && all is_multiple p.multiples)))

-- a place has a line
abbrev pub is_place : Place → Bool
is_place p = is_open_place p && has_line p

abbrev pub is_descent : Descent → Bool
is_descent (Down step) = is_natural step && nat_le 1 step
is_descent Halve = true
is_descent (Double least) = is_natural least && nat_le 1 least

abbrev pub is_bound : Bound → Bool
is_bound b = is_natural b.loop && (is_descent b.descent && (is_integer b.most && is_form b.form))

abbrev pub is_sort : EntrySort → Bool
is_sort Show = true
is_sort Positive = true
is_sort Negative = true
is_sort (Quotient form) = is_form form

abbrev pub is_scaled : Scaled → Bool
is_scaled s = is_integer s.factor && is_integer s.line

-- a sum has a part, and its lines rise
abbrev pub is_step : Step → Bool
is_step (Given fact) = is_integer fact
is_step (Sum parts) = all is_scaled parts && (rises line_is_before parts && not (is_empty parts))
is_step (Divide quotient) = is_scaled quotient
is_step (Product first second) = is_integer first && is_integer second

abbrev pub is_lemma : Lemma → Bool
is_lemma l = is_form l.form && all is_step l.steps

abbrev pub is_entry : Entry → Bool
is_entry e = (is_natural e.obligation && nat_le 1 e.obligation) && (is_sort e.sort && (all is_lemma e.lemmas && all is_step e.steps))

abbrev pub place_is_before : (left right : Place) → Bool
place_is_before left right = spot_is_before left.spot right.spot

abbrev pub bound_is_before : (left right : Bound) → Bool
bound_is_before left right = nat_lt left.loop right.loop

abbrev pub entry_is_before : (left right : Entry) → Bool
entry_is_before left right = nat_lt left.obligation right.obligation

-- what versions 1 and 2 have no words for is missing: the second item's symbols, products, multiples, loops that double, lemmas, ways that
-- join
abbrev pub is_narrow_name : Name → Bool
is_narrow_name (Second name) = false
is_narrow_name (Product first others) = false
is_narrow_name name = true

abbrev pub is_narrow_term : Weighted Name → Bool
is_narrow_term t = is_narrow_name t.symbol

abbrev pub is_narrow_form : Form Name → Bool
is_narrow_form f = all is_narrow_term f.terms

abbrev pub is_narrow_congruence : Congruence → Bool
is_narrow_congruence c = is_narrow_form c.form

abbrev pub is_narrow_place : Place → Bool
is_narrow_place p = all is_narrow_form p.facts && (all is_narrow_congruence p.congruences && is_empty p.multiples)

abbrev pub is_narrow_descent : Descent → Bool
is_narrow_descent (Down step) = true
is_narrow_descent Halve = true
is_narrow_descent (Double least) = false

abbrev pub is_narrow_bound : Bound → Bool
is_narrow_bound b = is_narrow_descent b.descent && is_narrow_form b.form

abbrev pub is_narrow_sort : EntrySort → Bool
is_narrow_sort Show = true
is_narrow_sort Positive = true
is_narrow_sort Negative = true
is_narrow_sort (Quotient f) = is_narrow_form f

abbrev pub is_narrow_step : Step → Bool
is_narrow_step (Given fact) = true
is_narrow_step (Sum parts) = true
is_narrow_step (Divide quotient) = true
is_narrow_step (Product first second) = false

abbrev pub is_narrow_entry : Entry → Bool
is_narrow_entry e = is_narrow_sort e.sort && (is_empty e.lemmas && all is_narrow_step e.steps)

abbrev pub is_narrow_item : Item → Bool
is_narrow_item (PlaceItem s) = true
is_narrow_item (SameItem name) = true
is_narrow_item (FactItem f) = is_narrow_form f
is_narrow_item (CongruenceItem c) = is_narrow_congruence c
is_narrow_item (MultipleItem m) = false
is_narrow_item (BoundItem b) = is_narrow_bound b
is_narrow_item (EntryItem n sort) = is_narrow_sort sort
is_narrow_item (LemmaItem f) = false
is_narrow_item MainItem = false
is_narrow_item (StepItem s) = is_narrow_step s
is_narrow_item EndItem = true

abbrev pub has_narrow_lines : Certificate → Bool
has_narrow_lines c = all is_narrow_place c.places && (all is_narrow_bound c.bounds && all is_narrow_entry c.entries)

abbrev pub is_narrow : Certificate → Bool
is_narrow c = not c.joins && has_narrow_lines c

-- places rise by their spots, bounds by their loops, entries by their obligations
abbrev pub is_written : Certificate → Bool
is_written c =
    (all is_place c.places && rises place_is_before c.places)
    && ((all is_bound c.bounds && rises bound_is_before c.bounds) && (all is_entry c.entries && rises entry_is_before c.entries))

-- a certificate that is wide or not
abbrev pub is_any_certificate : Certificate → Bool
is_any_certificate c = (c.is_wide || is_narrow c) && is_written c

-- one that versions 1 and 2 write
abbrev pub is_certificate : Certificate → Bool
is_certificate c = not c.is_wide && is_any_certificate c

-- one that version 4 writes
abbrev pub is_wide_certificate : Certificate → Bool
is_wide_certificate c = c.is_wide && is_any_certificate c
