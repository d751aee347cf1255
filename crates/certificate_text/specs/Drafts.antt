-- A certificate of which some lines are read, and what may stand behind them.
use Rattle.std.specs.Prelude.{ℕ, List, [], ◌∷◌, ◌++◌, Bool, true, false, not, nat_lt, ◌&&◌, ◌||◌, Option, None, Some}
use Rattle.std.specs.Option.{option_map}
use Rattle.linear.specs.Linear.{Form}
use Rattle.lines.specs.Lines.{is_empty, follows}
use Rattle.certificate_text.specs.Certificate.{Name, Anchor, KernelEntry, Barrier, Spot, Place, Bound, Step, Lemma, Entry, EntrySort, Certificate}
use Rattle.certificate_text.specs.Lines.{Item, PlaceItem, SameItem, FactItem, CongruenceItem, MultipleItem, BoundItem, EntryItem, LemmaItem, MainItem, StepItem, EndItem}
use Rattle.certificate_text.specs.Forms.{then, when}

abbrev pub anchor_is_before : (left right : Anchor) → Bool
anchor_is_before KernelEntry KernelEntry = false
anchor_is_before KernelEntry (Barrier k) = true
anchor_is_before (Barrier j) KernelEntry = false
anchor_is_before (Barrier j) (Barrier k) = nat_lt j k

abbrev pub head_is_before : (left right : Option ℕ) → Bool
head_is_before None None = false
head_is_before None (Some k) = true
head_is_before (Some j) None = false
head_is_before (Some j) (Some k) = nat_lt j k

-- an anchor before its heads, and both before the next anchor
abbrev pub spot_is_before : (left right : Spot) → Bool
spot_is_before left right =
    anchor_is_before left.anchor right.anchor || (not (anchor_is_before right.anchor left.anchor) && head_is_before left.head right.head)

-- what is open behind the part that is settled
pub data Open : Type 0 where
  Nothing : Open
  InPlace : (place : Place) → Open
  InEntry : (entry : Entry) → Open
  InLemma : (entry : Entry) (lemma : Lemma) → Open
  Ended : Open

pub record Draft : Type 0 where
  pub settled : Certificate
  pub opened : Open

abbrev pub draft : Certificate → Open → Draft
draft c o = record { settled = c; opened = o }

abbrev pub certificate_with : (is_wide joins : Bool) → List Place → List Bound → List Entry → Certificate
certificate_with is_wide joins places bounds entries =
    record { is_wide = is_wide; joins = joins; places = places; bounds = bounds; entries = entries }

abbrev pub certificate : List Place → List Bound → List Entry → Certificate
certificate places bounds entries = certificate_with false false places bounds entries

abbrev pub wide_certificate : (joins : Bool) → List Place → List Bound → List Entry → Certificate
wide_certificate joins places bounds entries = certificate_with true joins places bounds entries

-- of a certificate that is wide or not, and joins or not, before its first line
abbrev pub begun : (is_wide joins : Bool) → Draft
begun is_wide joins = draft (certificate_with is_wide joins [] [] []) Nothing

abbrev pub nothing_yet : Draft
nothing_yet = begun false false

abbrev pub has_line : Place → Bool
has_line p = not (is_empty p.same && (is_empty p.facts && (is_empty p.congruences && is_empty p.multiples)))

-- all that was read as settled: a place has a line, and behind the last lemma stands what shows the obligation
abbrev pub settle : Certificate → Open → Option Certificate
settle c Nothing = Some c
settle c (InPlace p) = when (has_line p) (record c { places = c.places ++ p ∷ [] })
settle c (InEntry e) = Some (record c { entries = c.entries ++ e ∷ [] })
settle c (InLemma e l) = None
settle c Ended = None

abbrev pub place_is_behind : Place → Spot → Bool
place_is_behind p spot = spot_is_before p.spot spot

abbrev pub bound_is_behind : Bound → ℕ → Bool
bound_is_behind b loop = nat_lt b.loop loop

abbrev pub entry_is_behind : Entry → ℕ → Bool
entry_is_behind e obligation = nat_lt e.obligation obligation

-- places come before bounds and entries, and rise
abbrev pub place_fits : Certificate → Spot → Bool
place_fits c spot = (is_empty c.bounds && is_empty c.entries) && follows place_is_behind c.places spot

-- bounds come before entries, and rise by their loops
abbrev pub bound_fits : Certificate → Bound → Bool
bound_fits c b = is_empty c.entries && follows bound_is_behind c.bounds b.loop

-- entries rise by their obligations
abbrev pub entry_fits : Certificate → ℕ → Bool
entry_fits c obligation = follows entry_is_behind c.entries obligation

abbrev pub place_at : Spot → Place
place_at spot = record { spot = spot; same = []; facts = []; congruences = []; multiples = [] }

abbrev pub entry_at : ℕ → EntrySort → Entry
entry_at obligation sort = record { obligation = obligation; sort = sort; lemmas = []; steps = [] }

-- in a place `same` lines come first, then `fact` lines, then `mod` lines, then `multiple` lines
abbrev pub add_to_place : Place → Item → Option Place
add_to_place p (SameItem name) = when (is_empty p.facts && (is_empty p.congruences && is_empty p.multiples)) (record p { same = p.same ++ name ∷ [] })
add_to_place p (FactItem f) = when (is_empty p.congruences && is_empty p.multiples) (record p { facts = p.facts ++ f ∷ [] })
add_to_place p (CongruenceItem c) = when (is_empty p.multiples) (record p { congruences = p.congruences ++ c ∷ [] })
add_to_place p (MultipleItem m) = Some (record p { multiples = p.multiples ++ m ∷ [] })
add_to_place p item = None

abbrev pub lemma_at : Form Name → Lemma
lemma_at f = record { form = f; steps = [] }

abbrev pub with_step : Entry → Step → Entry
with_step e s = record e { steps = e.steps ++ s ∷ [] }

abbrev pub with_lemma : Entry → Lemma → Entry
with_lemma e l = record e { lemmas = e.lemmas ++ l ∷ [] }

abbrev pub lemma_with_step : Lemma → Step → Lemma
lemma_with_step l s = record l { steps = l.steps ++ s ∷ [] }

-- lemmas come before all other lines of an entry
abbrev pub add_to_entry : Entry → Item → Option Open
add_to_entry e (StepItem s) = Some (InEntry (with_step e s))
add_to_entry e (LemmaItem f) = when (is_empty e.lemmas && is_empty e.steps) (InLemma e (lemma_at f))
add_to_entry e item = None

-- behind a lemma comes the next one, or what shows the obligation
abbrev pub add_to_lemma : Entry → Lemma → Item → Option Open
add_to_lemma e l (StepItem s) = Some (InLemma e (lemma_with_step l s))
add_to_lemma e l (LemmaItem f) = Some (InLemma (with_lemma e l) (lemma_at f))
add_to_lemma e l MainItem = Some (InEntry (with_lemma e l))
add_to_lemma e l item = None

-- what is open, with one more line
abbrev pub add_to : Open → Item → Option Open
add_to (InPlace p) item = option_map InPlace (add_to_place p item)
add_to (InEntry e) item = add_to_entry e item
add_to (InLemma e l) item = add_to_lemma e l item
add_to o item = None

abbrev pub add_place : Draft → Spot → Option Draft
add_place d spot = then (settle d.settled d.opened) (λ c. when (place_fits c spot) (draft c (InPlace (place_at spot))))

abbrev pub add_bound : Draft → Bound → Option Draft
add_bound d b = then (settle d.settled d.opened) (λ c. when (bound_fits c b) (draft (record c { bounds = c.bounds ++ b ∷ [] }) Nothing))

abbrev pub add_entry : Draft → ℕ → EntrySort → Option Draft
add_entry d n sort = then (settle d.settled d.opened) (λ c. when (entry_fits c n) (draft c (InEntry (entry_at n sort))))

abbrev pub add_end : Draft → Option Draft
add_end d = then (settle d.settled d.opened) (λ c. Some (draft c Ended))

abbrev pub add_within : Draft → Item → Option Draft
add_within d item = then (add_to d.opened item) (λ o. Some (draft d.settled o))

-- one more line
unfoldable pub add : Draft → Item → Option Draft
add d (PlaceItem spot) = add_place d spot
add d (BoundItem b) = add_bound d b
add d (EntryItem n sort) = add_entry d n sort
add d EndItem = add_end d
add d item = add_within d item
