-- What is open, with one more line.
use Rattle.std.proofs.Common.{◌≡◌, true, ◌&&◌, List, [], ◌∷◌, ◌++◌, map, Some, refl, ap, sym, subst, ◌∙◌, append_assoc}
use Rattle.std.specs.Prelude.{nat_le}
use Rattle.std.specs.List.{flat_map}
use Rattle.std.proofs.lemmas.Grind.{flat_map-append}
use Rattle.std.proofs.lemmas.List.{append-nil, map_push}
use Rattle.lines.specs.Lines.{is_empty, is_natural}
use Rattle.certificate_text.specs.Certificate.{Place, Step, Lemma, Entry, Certificate}
use Rattle.certificate_text.specs.Lines.{Item, PlaceItem, SameItem, FactItem, CongruenceItem, MultipleItem, BoundItem, EntryItem, LemmaItem, MainItem, StepItem, EndItem}
use Rattle.certificate_text.specs.Drafts.{Open, Nothing, InPlace, InEntry, InLemma, Ended, place_fits, entry_fits, lemma_at, with_step, with_lemma, lemma_with_step, add_to_place, add_to_entry, add_to_lemma, add_to}
use Rattle.certificate_text.specs.Rules.{all, is_form, is_spot, is_congruence, is_multiple, is_open_place, is_sort, is_step, is_lemma, is_entry}
use Rattle.lines.specs.Identifiers as identifiers
use Rattle.lines.proofs.Fronts.{both}
use Rattle.certificate_text.proofs.Cuts.{map_back, when_back, all_push, none_left}
use Rattle.certificate_text.proofs.FormsRead.{three}
use Rattle.certificate_text.specs.Items.{place_items, lemma_items, main_items, entry_items}
use Rattle.certificate_text.proofs.PartsRead.{is_part}
use Rattle.certificate_text.proofs.PartsRead.{andt, same}

-- an entry without what shows its obligation
abbrev pub entry_front : Entry → List Item
entry_front e = EntryItem e.obligation e.sort ∷ flat_map lemma_items e.lemmas

-- what is open fits behind what is settled
abbrev pub OpenFits : Certificate → Open → Type 0
OpenFits c Nothing = Unit {0}
OpenFits c (InPlace p) = (place_fits c p.spot ≡ true) × (is_open_place p ≡ true)
OpenFits c (InEntry e) = (entry_fits c e.obligation ≡ true) × (is_entry e ≡ true)
OpenFits c (InLemma e l) = (entry_fits c e.obligation ≡ true) × (is_entry e ≡ true) × (is_lemma l ≡ true) × (e.steps ≡ [])
OpenFits c Ended = Unit {0}

abbrev pub open_items : Open → List Item
open_items Nothing = []
open_items (InPlace p) = place_items p
open_items (InEntry e) = entry_items e
open_items (InLemma e l) = entry_front e ++ lemma_items l
open_items Ended = EndItem ∷ []

-- a place with one more line
record Extends (p : Place) (i : Item) (q : Place) : Type 0 where
  spot : q.spot ≡ p.spot
  good : is_open_place q ≡ true
  items : place_items q ≡ place_items p ++ i ∷ []

record PlaceParts (p : Place) : Type 0 where
  spot : is_spot p.spot ≡ true
  same : all identifiers.is_identifier p.same ≡ true
  facts : all is_form p.facts ≡ true
  congruences : all is_congruence p.congruences ≡ true
  multiples : all is_multiple p.multiples ≡ true

place_parts : (p : Place) → is_open_place p ≡ true → PlaceParts p
place_parts p h =
    let a = both _ _ h in
    let b = both _ _ a.1 in
    let c = both _ _ b.1 in
    let d = both _ _ c.1 in
    record { spot = a.0; same = b.0; facts = c.0; congruences = d.0; multiples = d.1 }

place_whole : (p : Place) → PlaceParts p → is_open_place p ≡ true
place_whole p h = andt _ _ h.spot (andt _ _ h.same (three _ _ _ h.facts h.congruences h.multiples))

extend_first : (head : Item) (own : List Item) (i : Item) (a b c : List Item) → a ≡ [] → b ≡ [] → c ≡ [] → head ∷ ((own ++ i ∷ []) ++ (a ++ (b ++ c))) ≡ (head ∷ (own ++ (a ++ (b ++ c)))) ++ i ∷ []
extend_first head own i a b c p q r = rw (p, q, r) (ap (λ t. head ∷ t) (append-nil (own ++ i ∷ []) ∙ ap (λ t. t ++ i ∷ []) (sym (append-nil own))))

extend_second : (head : Item) (before own : List Item) (i : Item) (b c : List Item) → b ≡ [] → c ≡ [] → head ∷ (before ++ ((own ++ i ∷ []) ++ (b ++ c))) ≡ (head ∷ (before ++ (own ++ (b ++ c)))) ++ i ∷ []
extend_second head before own i b c q r =
    rw (q, r) (ap (λ t. head ∷ (before ++ t)) (append-nil (own ++ i ∷ [])) ∙ ap (λ t. head ∷ t) (sym (append_assoc before own (i ∷ []))) ∙ ap (λ t. head ∷ ((before ++ t) ++ i ∷ [])) (sym (append-nil own)))

regrouped : (head : Item) (before middle own : List Item) (i : Item) → head ∷ (before ++ (middle ++ (own ++ i ∷ []))) ≡ head ∷ ((before ++ (middle ++ own)) ++ i ∷ [])
regrouped head before middle own i = simp append_assoc

extend_third : (head : Item) (before middle own : List Item) (i : Item) (c : List Item) → c ≡ [] → head ∷ (before ++ (middle ++ ((own ++ i ∷ []) ++ c))) ≡ (head ∷ (before ++ (middle ++ (own ++ c)))) ++ i ∷ []
extend_third head before middle own i c r =
    rw r (ap (λ t. head ∷ (before ++ (middle ++ t))) (append-nil (own ++ i ∷ [])) ∙ regrouped head before middle own i ∙ ap (λ t. head ∷ ((before ++ (middle ++ t)) ++ i ∷ [])) (sym (append-nil own)))

extend_last : (head : Item) (before middle late own : List Item) (i : Item) → head ∷ (before ++ (middle ++ (late ++ (own ++ i ∷ [])))) ≡ (head ∷ (before ++ (middle ++ (late ++ own)))) ++ i ∷ []
extend_last head before middle late own i = simp append_assoc

add_to_place_back : (p : Place) (i : Item) (q : Place) → is_part i ≡ true → is_open_place p ≡ true → add_to_place p i ≡ Some q → Extends p i q
add_to_place_back p (SameItem n) q g h e =
    let made : Place = record p { same = p.same ++ n ∷ [] } in
    let w = when_back (is_empty p.facts && (is_empty p.congruences && is_empty p.multiples)) made q e in
    let none = both (is_empty p.facts) _ w.0 in
    let more = both (is_empty p.congruences) (is_empty p.multiples) none.1 in
    let o = place_parts p h in
    let parts : PlaceParts made = record { spot = o.spot; same = all_push identifiers.is_identifier p.same n o.same g; facts = o.facts; congruences = o.congruences; multiples = o.multiples } in
    subst (Extends p (SameItem n)) w.1 (record {
      spot = refl;
      good = place_whole made parts;
      items = ap (λ t. PlaceItem p.spot ∷ (t ++ (map FactItem p.facts ++ (map CongruenceItem p.congruences ++ map MultipleItem p.multiples)))) (map_push SameItem p.same n)
          ∙ extend_first (PlaceItem p.spot) (map SameItem p.same) (SameItem n) (map FactItem p.facts) (map CongruenceItem p.congruences) (map MultipleItem p.multiples) (ap (map FactItem) (none_left p.facts none.0)) (ap (map CongruenceItem) (none_left p.congruences more.0)) (ap (map MultipleItem) (none_left p.multiples more.1));
    })
add_to_place_back p (FactItem f) q g h e =
    let made : Place = record p { facts = p.facts ++ f ∷ [] } in
    let w = when_back (is_empty p.congruences && is_empty p.multiples) made q e in
    let more = both (is_empty p.congruences) (is_empty p.multiples) w.0 in
    let o = place_parts p h in
    let parts : PlaceParts made = record { spot = o.spot; same = o.same; facts = all_push is_form p.facts f o.facts g; congruences = o.congruences; multiples = o.multiples } in
    subst (Extends p (FactItem f)) w.1 (record {
      spot = refl;
      good = place_whole made parts;
      items = ap (λ t. PlaceItem p.spot ∷ (map SameItem p.same ++ (t ++ (map CongruenceItem p.congruences ++ map MultipleItem p.multiples)))) (map_push FactItem p.facts f)
          ∙ extend_second (PlaceItem p.spot) (map SameItem p.same) (map FactItem p.facts) (FactItem f) (map CongruenceItem p.congruences) (map MultipleItem p.multiples) (ap (map CongruenceItem) (none_left p.congruences more.0)) (ap (map MultipleItem) (none_left p.multiples more.1));
    })
add_to_place_back p (CongruenceItem c) q g h e =
    let made : Place = record p { congruences = p.congruences ++ c ∷ [] } in
    let w = when_back (is_empty p.multiples) made q e in
    let o = place_parts p h in
    let parts : PlaceParts made = record { spot = o.spot; same = o.same; facts = o.facts; congruences = all_push is_congruence p.congruences c o.congruences g; multiples = o.multiples } in
    subst (Extends p (CongruenceItem c)) w.1 (record {
      spot = refl;
      good = place_whole made parts;
      items = ap (λ t. PlaceItem p.spot ∷ (map SameItem p.same ++ (map FactItem p.facts ++ (t ++ map MultipleItem p.multiples)))) (map_push CongruenceItem p.congruences c)
          ∙ extend_third (PlaceItem p.spot) (map SameItem p.same) (map FactItem p.facts) (map CongruenceItem p.congruences) (CongruenceItem c) (map MultipleItem p.multiples) (ap (map MultipleItem) (none_left p.multiples w.0));
    })
add_to_place_back p (MultipleItem m) q g h e =
    let made : Place = record p { multiples = p.multiples ++ m ∷ [] } in
    let o = place_parts p h in
    let parts : PlaceParts made = record { spot = o.spot; same = o.same; facts = o.facts; congruences = o.congruences; multiples = all_push is_multiple p.multiples m o.multiples g } in
    subst (Extends p (MultipleItem m)) (same made q e) (record {
      spot = refl;
      good = place_whole made parts;
      items = ap (λ t. PlaceItem p.spot ∷ (map SameItem p.same ++ (map FactItem p.facts ++ (map CongruenceItem p.congruences ++ t)))) (map_push MultipleItem p.multiples m)
          ∙ extend_last (PlaceItem p.spot) (map SameItem p.same) (map FactItem p.facts) (map CongruenceItem p.congruences) (map MultipleItem p.multiples) (MultipleItem m);
    })
add_to_place_back p (PlaceItem s) q g h e = absurd cc
add_to_place_back p (BoundItem b) q g h e = absurd cc
add_to_place_back p (EntryItem n c) q g h e = absurd cc
add_to_place_back p (LemmaItem f) q g h e = absurd cc
add_to_place_back p MainItem q g h e = absurd cc
add_to_place_back p (StepItem s) q g h e = absurd cc
add_to_place_back p EndItem q g h e = absurd cc

-- what is open with one more line
pub record Opens (c : Certificate) (o : Open) (i : Item) (n : Open) : Type 0 where
  pub fits : OpenFits c n
  pub items : open_items n ≡ open_items o ++ i ∷ []

record EntryParts (e : Entry) : Type 0 where
  number : (is_natural e.obligation && nat_le 1 e.obligation) ≡ true
  sort : is_sort e.sort ≡ true
  lemmas : all is_lemma e.lemmas ≡ true
  steps : all is_step e.steps ≡ true

entry_parts : (e : Entry) → is_entry e ≡ true → EntryParts e
entry_parts e h =
    let a = both _ _ h in
    let b = both (is_sort e.sort) _ a.1 in
    let c = both (all is_lemma e.lemmas) (all is_step e.steps) b.1 in
    record { number = a.0; sort = b.0; lemmas = c.0; steps = c.1 }

entry_whole : (e : Entry) → EntryParts e → is_entry e ≡ true
entry_whole e h = andt _ _ h.number (three _ _ _ h.sort h.lemmas h.steps)

with_step_good : (e : Entry) (s : Step) → is_entry e ≡ true → is_step s ≡ true → is_entry (with_step e s) ≡ true
with_step_good e s h g =
    let p = entry_parts e h in
    let parts : EntryParts (with_step e s) = record { number = p.number; sort = p.sort; lemmas = p.lemmas; steps = all_push is_step e.steps s p.steps g } in
    entry_whole (with_step e s) parts

with_lemma_good : (e : Entry) (l : Lemma) → is_entry e ≡ true → is_lemma l ≡ true → is_entry (with_lemma e l) ≡ true
with_lemma_good e l h g =
    let p = entry_parts e h in
    let parts : EntryParts (with_lemma e l) = record { number = p.number; sort = p.sort; lemmas = all_push is_lemma e.lemmas l p.lemmas g; steps = p.steps } in
    entry_whole (with_lemma e l) parts

lemma_step_good : (l : Lemma) (s : Step) → is_lemma l ≡ true → is_step s ≡ true → is_lemma (lemma_with_step l s) ≡ true
lemma_step_good l s h g = let p = both (is_form l.form) (all is_step l.steps) h in andt (is_form l.form) _ p.0 (all_push is_step l.steps s p.1 g)

step_last : (head : Item) (a b own : List Item) (i : Item) → head ∷ (a ++ (b ++ (own ++ i ∷ []))) ≡ (head ∷ (a ++ (b ++ own))) ++ i ∷ []
step_last head a b own i = simp append_assoc

lemma_last : (front : List Item) (head : Item) (own : List Item) (i : Item) → front ++ (head ∷ (own ++ i ∷ [])) ≡ (front ++ (head ∷ own)) ++ i ∷ []
lemma_last front head own i = simp append_assoc

front_with : (e : Entry) (l : Lemma) → entry_front (with_lemma e l) ≡ entry_front e ++ lemma_items l
front_with e l = ap (λ t. EntryItem e.obligation e.sort ∷ t) (flat_map-append lemma_items e.lemmas (l ∷ []) ∙ ap (λ t. flat_map lemma_items e.lemmas ++ t) (append-nil (lemma_items l)))

main_some : (ls : List Lemma) (l : Lemma) → main_items (ls ++ l ∷ []) ≡ MainItem ∷ []
main_some [] l = refl
main_some (k ∷ ls) l = refl

-- behind the last lemma comes what shows the obligation
main_with : (e : Entry) (l : Lemma) → e.steps ≡ [] → entry_items (with_lemma e l) ≡ (entry_front e ++ lemma_items l) ++ MainItem ∷ []
main_with e l s =
    ap (λ t. entry_front (with_lemma e l) ++ (t ++ map StepItem e.steps)) (main_some e.lemmas l)
    ∙ ap (λ t. entry_front (with_lemma e l) ++ (MainItem ∷ map StepItem t)) s ∙ ap (λ t. t ++ MainItem ∷ []) (front_with e l)

add_to_entry_back : (c : Certificate) (e : Entry) (i : Item) (n : Open) → is_part i ≡ true → OpenFits c (InEntry e) → add_to_entry e i ≡ Some n → Opens c (InEntry e) i n
add_to_entry_back c e (StepItem s) n g f q =
    subst (Opens c (InEntry e) (StepItem s)) (same (InEntry (with_step e s)) n q) (record {
      fits = (f.0, with_step_good e s f.1 g);
      items = ap (λ t. EntryItem e.obligation e.sort ∷ (flat_map lemma_items e.lemmas ++ (main_items e.lemmas ++ t))) (map_push StepItem e.steps s)
          ∙ step_last (EntryItem e.obligation e.sort) (flat_map lemma_items e.lemmas) (main_items e.lemmas) (map StepItem e.steps) (StepItem s);
    })
add_to_entry_back c e (LemmaItem x) n g f q =
    let w = when_back (is_empty e.lemmas && is_empty e.steps) (InLemma e (lemma_at x)) n q in
    let none = both (is_empty e.lemmas) (is_empty e.steps) w.0 in
    let lemmas = none_left e.lemmas none.0 in
    let steps = none_left e.steps none.1 in
    subst (Opens c (InEntry e) (LemmaItem x)) w.1 (record {
      fits = (f.0, f.1, andt (is_form x) true g refl, steps);
      items = rw (lemmas, steps) refl;
    })
add_to_entry_back c e (PlaceItem s) n g f q = absurd cc
add_to_entry_back c e (SameItem x) n g f q = absurd cc
add_to_entry_back c e (FactItem x) n g f q = absurd cc
add_to_entry_back c e (CongruenceItem x) n g f q = absurd cc
add_to_entry_back c e (MultipleItem x) n g f q = absurd cc
add_to_entry_back c e (BoundItem x) n g f q = absurd cc
add_to_entry_back c e (EntryItem x y) n g f q = absurd cc
add_to_entry_back c e MainItem n g f q = absurd cc
add_to_entry_back c e EndItem n g f q = absurd cc

add_to_lemma_back : (c : Certificate) (e : Entry) (l : Lemma) (i : Item) (n : Open) → is_part i ≡ true → OpenFits c (InLemma e l) → add_to_lemma e l i ≡ Some n → Opens c (InLemma e l) i n
add_to_lemma_back c e l (StepItem s) n g f q =
    subst (Opens c (InLemma e l) (StepItem s)) (same (InLemma e (lemma_with_step l s)) n q) (record {
      fits = (f.0, f.1, lemma_step_good l s f.2 g, f.3);
      items = ap (λ t. entry_front e ++ (LemmaItem l.form ∷ t)) (map_push StepItem l.steps s) ∙ lemma_last (entry_front e) (LemmaItem l.form) (map StepItem l.steps) (StepItem s);
    })
add_to_lemma_back c e l (LemmaItem x) n g f q =
    subst (Opens c (InLemma e l) (LemmaItem x)) (same (InLemma (with_lemma e l) (lemma_at x)) n q) (record {
      fits = (f.0, with_lemma_good e l f.1 f.2, andt (is_form x) true g refl, f.3);
      items = ap (λ t. t ++ LemmaItem x ∷ []) (front_with e l);
    })
add_to_lemma_back c e l MainItem n g f q =
    subst (Opens c (InLemma e l) MainItem) (same (InEntry (with_lemma e l)) n q) (record {
      fits = (f.0, with_lemma_good e l f.1 f.2);
      items = main_with e l f.3;
    })
add_to_lemma_back c e l (PlaceItem s) n g f q = absurd cc
add_to_lemma_back c e l (SameItem x) n g f q = absurd cc
add_to_lemma_back c e l (FactItem x) n g f q = absurd cc
add_to_lemma_back c e l (CongruenceItem x) n g f q = absurd cc
add_to_lemma_back c e l (MultipleItem x) n g f q = absurd cc
add_to_lemma_back c e l (BoundItem x) n g f q = absurd cc
add_to_lemma_back c e l (EntryItem x y) n g f q = absurd cc
add_to_lemma_back c e l EndItem n g f q = absurd cc

pub add_to_back : (c : Certificate) (o : Open) (i : Item) (n : Open) → is_part i ≡ true → OpenFits c o → add_to o i ≡ Some n → Opens c o i n
add_to_back c Nothing i n g f q = absurd cc
add_to_back c (InPlace p) i n g f q =
    let m = map_back InPlace (add_to_place p i) n q in
    let x = add_to_place_back p i m.0 g f.1 m.1 in
    subst (Opens c (InPlace p) i) m.2 (record { fits = (ap (place_fits c) x.spot ∙ f.0, x.good); items = x.items })
add_to_back c (InEntry e) i n g f q = add_to_entry_back c e i n g f q
add_to_back c (InLemma e l) i n g f q = add_to_lemma_back c e l i n g f q
add_to_back c Ended i n g f q = absurd cc
