-- Forms that are put into a line.
use Rattle.std.proofs.Common.{◌≡◌, ℕ, true, ◌&&◌, List, [], ◌∷◌, length, refl, ap, arith}
use Rattle.std.specs.Prelude.{nat_le}
use Rattle.linear.specs.Linear.{Form}
use Rattle.lines.specs.Lines.{is_natural}
use Rattle.certificate_text.specs.Certificate.{Name, Congruence, Multiple, Bound, EntrySort, Show, Positive, Negative, Quotient}
use Rattle.certificate_text.specs.Lines.{Item, PlaceItem, SameItem, FactItem, CongruenceItem, MultipleItem, BoundItem, EntryItem, LemmaItem, MainItem, StepItem, EndItem}
use Rattle.certificate_text.specs.Rules.{all, is_form, is_congruence, is_bound, is_descent, is_sort}
use Rattle.lines.specs.Lines.{is_integer}
use Rattle.certificate_text.specs.Items.{sort_forms, line_forms, first_or, second_or, put_sort_forms, put_forms}
use Rattle.lines.proofs.Fronts.{both}
use Rattle.certificate_text.proofs.FormsRead.{three}
use Rattle.certificate_text.proofs.PartsRead.{is_constant, is_item, is_part}
use Rattle.certificate_text.proofs.ItemsRead.{constant_form}
use Rattle.certificate_text.proofs.PartsRead.{andt}

none_there : (fs : List (Form Name)) → length fs ≡ 0 → [] ≡ fs
none_there [] e = refl
none_there (f ∷ fs) e = absurd (omega (arith, e))

one_there : (g : Form Name) (fs : List (Form Name)) → length fs ≡ 1 → first_or g fs ∷ [] ≡ fs
one_there g [] e = absurd (omega (arith, e))
one_there g (f ∷ []) e = refl
one_there g (f ∷ h ∷ fs) e = absurd (omega (arith, e))

two_there : (g h : Form Name) (fs : List (Form Name)) → length fs ≡ 2 → first_or g fs ∷ second_or h fs ∷ [] ≡ fs
two_there g h [] e = absurd (omega (arith, e))
two_there g h (f ∷ []) e = absurd (omega (arith, e))
two_there g h (f ∷ k ∷ []) e = refl
two_there g h (f ∷ k ∷ l ∷ fs) e = absurd (omega (arith, e))

sort_put : (fs : List (Form Name)) (s : EntrySort) → length fs ≡ length (sort_forms s) → sort_forms (put_sort_forms fs s) ≡ fs
sort_put fs Show e = none_there fs e
sort_put fs Positive e = none_there fs e
sort_put fs Negative e = none_there fs e
sort_put fs (Quotient g) e = one_there g fs e

-- forms that are put into a line are its forms
pub forms_put : (fs : List (Form Name)) (i : Item) → length fs ≡ length (line_forms i) → line_forms (put_forms fs i) ≡ fs
forms_put fs (PlaceItem s) e = none_there fs e
forms_put fs (SameItem name) e = none_there fs e
forms_put fs (FactItem f) e = one_there f fs e
forms_put fs (CongruenceItem c) e = one_there c.form fs e
forms_put fs (MultipleItem m) e = two_there m.form m.of fs e
forms_put fs (BoundItem b) e = one_there b.form fs e
forms_put fs (EntryItem n s) e = sort_put fs s e
forms_put fs (LemmaItem f) e = one_there f fs e
forms_put fs MainItem e = none_there fs e
forms_put fs (StepItem s) e = none_there fs e
forms_put fs EndItem e = none_there fs e

sort_put_back : (fs : List (Form Name)) (s : EntrySort) → put_sort_forms (sort_forms s) (put_sort_forms fs s) ≡ s
sort_put_back fs Show = refl
sort_put_back fs Positive = refl
sort_put_back fs Negative = refl
sort_put_back fs (Quotient g) = refl

-- and its own forms that are put back make it what it was
pub put_back : (fs : List (Form Name)) (i : Item) → put_forms (line_forms i) (put_forms fs i) ≡ i
put_back fs (PlaceItem s) = refl
put_back fs (SameItem name) = refl
put_back fs (FactItem f) = refl
put_back fs (CongruenceItem c) = refl
put_back fs (MultipleItem m) = refl
put_back fs (BoundItem b) = refl
put_back fs (EntryItem n s) = ap (EntryItem n) (sort_put_back fs s)
put_back fs (LemmaItem f) = refl
put_back fs MainItem = refl
put_back fs (StepItem s) = refl
put_back fs EndItem = refl

first_good : (f : Form Name) (fs : List (Form Name)) → is_form f ≡ true → all is_form fs ≡ true → is_form (first_or f fs) ≡ true
first_good f [] h a = h
first_good f (g ∷ fs) h a = (both (is_form g) (all is_form fs) a).0

second_good : (f : Form Name) (fs : List (Form Name)) → is_form f ≡ true → all is_form fs ≡ true → is_form (second_or f fs) ≡ true
second_good f [] h a = h
second_good f (g ∷ fs) h a = first_good f fs h (both (is_form g) (all is_form fs) a).1

sort_good : (fs : List (Form Name)) (s : EntrySort) → all is_form fs ≡ true → is_sort s ≡ true → is_sort (put_sort_forms fs s) ≡ true
sort_good fs Show a h = refl
sort_good fs Positive a h = refl
sort_good fs Negative a h = refl
sort_good fs (Quotient g) a h = first_good g fs h a

congruence_good : (fs : List (Form Name)) (c : Congruence) → all is_form fs ≡ true → is_congruence c ≡ true → is_congruence (record c { form = first_or c.form fs }) ≡ true
congruence_good fs c a g =
    let p = both (is_natural c.modulus) _ g in
    let q = both (nat_le 2 c.modulus) (is_form c.form) p.1 in
    three (is_natural c.modulus) (nat_le 2 c.modulus) (is_form (first_or c.form fs)) p.0 q.0 (first_good c.form fs q.1 a)

bound_good : (fs : List (Form Name)) (b : Bound) → all is_form fs ≡ true → is_bound b ≡ true → is_bound (record b { form = first_or b.form fs }) ≡ true
bound_good fs b a g =
    let p = both (is_natural b.loop) _ g in
    let q = both (is_descent b.descent) _ p.1 in
    let r = both (is_integer b.most) (is_form b.form) q.1 in
    andt (is_natural b.loop) _ p.0 (three (is_descent b.descent) (is_integer b.most) (is_form (first_or b.form fs)) q.0 r.0 (first_good b.form fs r.1 a))

entry_good : (fs : List (Form Name)) (n : ℕ) (s : EntrySort) → all is_form fs ≡ true → is_part (EntryItem n s) ≡ true → is_part (EntryItem n (put_sort_forms fs s)) ≡ true
entry_good fs n s a g = let p = both (is_natural n && nat_le 1 n) (is_sort s) g in andt _ (is_sort (put_sort_forms fs s)) p.0 (sort_good fs s a p.1)

pub put_good : (fs : List (Form Name)) (i : Item) → all is_form fs ≡ true → is_part i ≡ true → is_part (put_forms fs i) ≡ true
put_good fs (PlaceItem s) a g = g
put_good fs (SameItem name) a g = g
put_good fs (FactItem f) a g = first_good f fs g a
put_good fs (CongruenceItem c) a g = congruence_good fs c a g
put_good fs (MultipleItem m) a g = let p = both (is_form m.of) (is_form m.form) g in andt (is_form (second_or m.of fs)) (is_form (first_or m.form fs)) (second_good m.of fs p.0 a) (first_good m.form fs p.1 a)
put_good fs (BoundItem b) a g = bound_good fs b a g
put_good fs (EntryItem n s) a g = entry_good fs n s a g
put_good fs (LemmaItem f) a g = first_good f fs g a
put_good fs MainItem a g = refl
put_good fs (StepItem s) a g = g
put_good fs EndItem a g = refl

constants_good : (fs : List (Form Name)) → all is_constant fs ≡ true → all is_form fs ≡ true
constants_good [] h = refl
constants_good (f ∷ fs) h = let p = both (is_constant f) (all is_constant fs) h in andt (is_form f) (all is_form fs) (constant_form f p.0) (constants_good fs p.1)

multiple_raw : (m : Multiple) (fs : List (Form Name)) → length fs ≡ 2 → all is_constant fs ≡ true → is_item (put_forms fs (MultipleItem m)) ≡ true
multiple_raw m [] e a = absurd (omega (arith, e))
multiple_raw m (f ∷ []) e a = absurd (omega (arith, e))
multiple_raw m (f ∷ g ∷ fs) e a =
    let p = both (is_constant f) (all is_constant (g ∷ fs)) a in
    let q = both (is_constant g) (all is_constant fs) p.1 in
    andt (is_constant f) (is_constant g) p.0 q.0

-- a line with numbers in place of its forms is read
pub raw_good : (fs : List (Form Name)) (i : Item) → length fs ≡ length (line_forms i) → all is_constant fs ≡ true → is_part i ≡ true → is_item (put_forms fs i) ≡ true
raw_good fs (PlaceItem s) e a g = g
raw_good fs (SameItem name) e a g = g
raw_good fs (FactItem f) e a g = first_good f fs g (constants_good fs a)
raw_good fs (CongruenceItem c) e a g = congruence_good fs c (constants_good fs a) g
raw_good fs (MultipleItem m) e a g = multiple_raw m fs e a
raw_good fs (BoundItem b) e a g = bound_good fs b (constants_good fs a) g
raw_good fs (EntryItem n s) e a g = entry_good fs n s (constants_good fs a) g
raw_good fs (LemmaItem f) e a g = first_good f fs g (constants_good fs a)
raw_good fs MainItem e a g = refl
raw_good fs (StepItem s) e a g = g
raw_good fs EndItem e a g = refl
