-- What was read is a certificate as far as it goes, and its items are those that were read.
use Rattle.std.proofs.Common.{◌≡◌, ℕ, Bool, true, not, ◌&&◌, ◌||◌, List, [], ◌∷◌, ◌++◌, map, Some, refl, ap, sym, subst, ◌∙◌, append_assoc}
use Rattle.std.specs.List.{flat_map}
use Rattle.std.proofs.lemmas.Grind.{flat_map-append}
use Rattle.std.proofs.lemmas.List.{append-nil, map_push}
use Rattle.lines.specs.Lines.{is_empty, follows, words}
use Rattle.certificate_text.specs.Certificate.{Spot, Place, Bound, EntrySort, Entry, Certificate}
use Rattle.certificate_text.specs.Lines.{Item, PlaceItem, SameItem, FactItem, CongruenceItem, MultipleItem, BoundItem, EntryItem, LemmaItem, MainItem, StepItem, EndItem, item_of}
use Rattle.certificate_text.specs.Drafts.{place_is_behind, bound_is_behind, entry_is_behind, Open, Nothing, InPlace, InEntry, InLemma, Ended, Draft, draft, certificate_with, has_line, settle, place_fits, bound_fits, entry_fits, place_at, entry_at, add_to, add_place, add_bound, add_entry, add_end, add_within, add}
use Rattle.certificate_text.specs.Reading.{add_fitting, add_line}
use Rattle.certificate_text.specs.Rules.{all, rises, is_spot, is_open_place, is_place, is_bound, is_sort, is_entry, place_is_before, bound_is_before, entry_is_before, is_narrow_item, is_written}
use Rattle.lines.proofs.Fronts.{both}
use Rattle.certificate_text.proofs.Cuts.{then_back, when_back, cond_back, all_push, rises_push, none_left}
use Rattle.certificate_text.proofs.FormsRead.{three}
use Rattle.certificate_text.specs.Items.{place_items, entry_items, items_of, item_line}
use Rattle.certificate_text.proofs.PartsRead.{is_part}
use Rattle.certificate_text.proofs.ItemsRead.{item_part, item_back}
use Rattle.certificate_text.proofs.PartsRead.{andt, same}
use Rattle.certificate_text.proofs.Narrowness.{fits_in, Fits}
use Rattle.certificate_text.proofs.OpenRead.{OpenFits, open_items, add_to_back}

pub record IsDraft (d : Draft) : Type 0 where
  pub settled : is_written d.settled ≡ true
  pub opened : OpenFits d.settled d.opened

abbrev pub draft_items : Draft → List Item
draft_items d = items_of d.settled ++ open_items d.opened

abbrev pub draft_lines : Draft → List (List ℕ)
draft_lines d = map item_line (draft_items d)

-- the lines of a certificate with one part more
items_place : (w j : Bool) (places : List Place) (p : Place) (bounds : List Bound) (entries : List Entry) → bounds ≡ [] → entries ≡ [] → items_of (certificate_with w j (places ++ p ∷ []) bounds entries) ≡ items_of (certificate_with w j places bounds entries) ++ place_items p
items_place w j places p bounds entries b e =
    rw (b, e) (append-nil (flat_map place_items (places ++ p ∷ [])) ∙ flat_map-append place_items places (p ∷ []) ∙ ap (λ t. flat_map place_items places ++ t) (append-nil (place_items p)) ∙ ap (λ t. t ++ place_items p) (sym (append-nil (flat_map place_items places))))

items_bound : (w j : Bool) (places : List Place) (bounds : List Bound) (b : Bound) (entries : List Entry) → entries ≡ [] → items_of (certificate_with w j places (bounds ++ b ∷ []) entries) ≡ items_of (certificate_with w j places bounds entries) ++ BoundItem b ∷ []
items_bound w j places bounds b entries e =
    rw e (ap (λ t. flat_map place_items places ++ t) (append-nil (map BoundItem (bounds ++ b ∷ [])) ∙ map_push BoundItem bounds b ∙ ap (λ t. t ++ BoundItem b ∷ []) (sym (append-nil (map BoundItem bounds)))) ∙ sym (append_assoc (flat_map place_items places) (map BoundItem bounds ++ []) (BoundItem b ∷ [])))

items_entry : (w j : Bool) (places : List Place) (bounds : List Bound) (entries : List Entry) (e : Entry) → items_of (certificate_with w j places bounds (entries ++ e ∷ [])) ≡ items_of (certificate_with w j places bounds entries) ++ entry_items e
items_entry w j places bounds entries e =
    ap (λ t. flat_map place_items places ++ (map BoundItem bounds ++ t)) (flat_map-append entry_items entries (e ∷ []) ∙ ap (λ t. flat_map entry_items entries ++ t) (append-nil (entry_items e)))
    ∙ ap (λ t. flat_map place_items places ++ t) (sym (append_assoc (map BoundItem bounds) (flat_map entry_items entries) (entry_items e)))
    ∙ sym (append_assoc (flat_map place_items places) (map BoundItem bounds ++ flat_map entry_items entries) (entry_items e))

pub place_follows : (places : List Place) (p : Place) → follows place_is_behind places p.spot ≡ follows place_is_before places p
place_follows [] p = refl
place_follows (a ∷ []) p = refl
place_follows (a ∷ b ∷ places) p = place_follows (b ∷ places) p

pub bound_follows : (bounds : List Bound) (b : Bound) → follows bound_is_behind bounds b.loop ≡ follows bound_is_before bounds b
bound_follows [] b = refl
bound_follows (a ∷ []) b = refl
bound_follows (a ∷ c ∷ bounds) b = bound_follows (c ∷ bounds) b

pub entry_follows : (entries : List Entry) (e : Entry) → follows entry_is_behind entries e.obligation ≡ follows entry_is_before entries e
entry_follows [] e = refl
entry_follows (a ∷ []) e = refl
entry_follows (a ∷ c ∷ entries) e = entry_follows (c ∷ entries) e

-- a row with one more
row_push : {A : Type 0} (test : A → Bool) (before : A → A → Bool) (xs : List A) (x : A) → (all test xs && rises before xs) ≡ true → test x ≡ true → follows before xs x ≡ true → (all test (xs ++ x ∷ []) && rises before (xs ++ x ∷ [])) ≡ true
row_push test before xs x h t f =
    let p = both (all test xs) (rises before xs) h in
    andt (all test (xs ++ x ∷ [])) (rises before (xs ++ x ∷ [])) (all_push test xs x p.0 t) (rises_push before xs x p.1 f)

-- what settles is written, and its items are those of what was open behind those before it
record Settled (c : Certificate) (o : Open) (e : Certificate) : Type 0 where
  good : is_written e ≡ true
  items : items_of e ≡ items_of c ++ open_items o
  kind : e.is_wide ≡ c.is_wide
  joins : e.joins ≡ c.joins

settle_back : (c : Certificate) (o : Open) (e : Certificate) → is_written c ≡ true → OpenFits c o → settle c o ≡ Some e → Settled c o e
settle_back c Nothing e h f q = subst (Settled c Nothing) (same c e q) (record { good = h; items = sym (append-nil (items_of c)); kind = refl; joins = refl })
settle_back c (InPlace p) e h f q =
    let w = when_back (has_line p) _ e q in
    let parts = both _ _ h in
    let fits = both (is_empty c.bounds && is_empty c.entries) (follows place_is_behind c.places p.spot) f.0 in
    let none = both (is_empty c.bounds) (is_empty c.entries) fits.0 in
    let row = row_push is_place place_is_before c.places p parts.0 (andt (is_open_place p) (has_line p) f.1 w.0) (sym (place_follows c.places p) ∙ fits.1) in
    subst (Settled c (InPlace p)) w.1 (record { good = andt _ _ row parts.1; items = items_place c.is_wide c.joins c.places p c.bounds c.entries (none_left c.bounds none.0) (none_left c.entries none.1); kind = refl; joins = refl })
settle_back c (InEntry n) e h f q =
    let made : Certificate = record c { entries = c.entries ++ n ∷ [] } in
    let parts = both _ _ h in
    let later = both _ _ parts.1 in
    let row = row_push is_entry entry_is_before c.entries n later.1 f.1 (sym (entry_follows c.entries n) ∙ f.0) in
    subst (Settled c (InEntry n)) (same made e q) (record { good = andt _ _ parts.0 (andt _ _ later.0 row); items = items_entry c.is_wide c.joins c.places c.bounds c.entries n; kind = refl; joins = refl })
settle_back c (InLemma n l) e h f q = absurd cc
settle_back c Ended e h f q = absurd cc

-- a draft with one line more
pub record Added (d : Draft) (i : Item) (e : Draft) : Type 0 where
  pub draft : IsDraft e
  pub items : draft_items e ≡ draft_items d ++ i ∷ []
  pub kind : e.settled.is_wide ≡ d.settled.is_wide
  pub joins : e.settled.joins ≡ d.settled.joins

add_place_back : (d : Draft) (spot : Spot) (e : Draft) → IsDraft d → is_spot spot ≡ true → add_place d spot ≡ Some e → Added d (PlaceItem spot) e
add_place_back d spot e h g q =
    let c = then_back (settle d.settled d.opened) _ e q in
    let w = when_back (place_fits c.0 spot) (draft c.0 (InPlace (place_at spot))) e c.2 in
    let s = settle_back d.settled d.opened c.0 h.settled h.opened c.1 in
    let made : IsDraft (draft c.0 (InPlace (place_at spot))) = record { settled = s.good; opened = (w.0, three (is_spot spot) true true g refl refl) } in
    subst (Added d (PlaceItem spot)) w.1 (record { draft = made; items = ap (λ t. t ++ PlaceItem spot ∷ []) s.items; kind = s.kind; joins = s.joins })

add_bound_back : (d : Draft) (b : Bound) (e : Draft) → IsDraft d → is_bound b ≡ true → add_bound d b ≡ Some e → Added d (BoundItem b) e
add_bound_back d b e h g q =
    let c = then_back (settle d.settled d.opened) _ e q in
    let next : Certificate = record c.0 { bounds = c.0.bounds ++ b ∷ [] } in
    let w = when_back (bound_fits c.0 b) (draft next Nothing) e c.2 in
    let s = settle_back d.settled d.opened c.0 h.settled h.opened c.1 in
    let fits = both (is_empty c.0.entries) (follows bound_is_behind c.0.bounds b.loop) w.0 in
    let parts = both _ _ s.good in
    let later = both _ _ parts.1 in
    let row = row_push is_bound bound_is_before c.0.bounds b later.0 g (sym (bound_follows c.0.bounds b) ∙ fits.1) in
    let made : IsDraft (draft next Nothing) = record { settled = andt _ _ parts.0 (andt _ _ row later.1); opened = tt } in
    subst (Added d (BoundItem b)) w.1 (record {
      draft = made;
      items = append-nil (items_of next) ∙ items_bound c.0.is_wide c.0.joins c.0.places c.0.bounds b c.0.entries (none_left c.0.entries fits.0) ∙ ap (λ t. t ++ BoundItem b ∷ []) s.items;
      kind = s.kind;
      joins = s.joins;
    })

add_entry_back : (d : Draft) (n : ℕ) (sort : EntrySort) (e : Draft) → IsDraft d → is_part (EntryItem n sort) ≡ true → add_entry d n sort ≡ Some e → Added d (EntryItem n sort) e
add_entry_back d n sort e h g q =
    let c = then_back (settle d.settled d.opened) _ e q in
    let w = when_back (entry_fits c.0 n) (draft c.0 (InEntry (entry_at n sort))) e c.2 in
    let s = settle_back d.settled d.opened c.0 h.settled h.opened c.1 in
    let p = both _ (is_sort sort) g in
    let made : IsDraft (draft c.0 (InEntry (entry_at n sort))) = record { settled = s.good; opened = (w.0, andt _ (is_sort sort && true) p.0 (andt (is_sort sort) true p.1 refl)) } in
    subst (Added d (EntryItem n sort)) w.1 (record { draft = made; items = ap (λ t. t ++ EntryItem n sort ∷ []) s.items; kind = s.kind; joins = s.joins })

add_end_back : (d e : Draft) → IsDraft d → add_end d ≡ Some e → Added d EndItem e
add_end_back d e h q =
    let c = then_back (settle d.settled d.opened) _ e q in
    let s = settle_back d.settled d.opened c.0 h.settled h.opened c.1 in
    let made : IsDraft (draft c.0 Ended) = record { settled = s.good; opened = tt } in
    subst (Added d EndItem) (same (draft c.0 Ended) e c.2) (record { draft = made; items = ap (λ t. t ++ EndItem ∷ []) s.items; kind = s.kind; joins = s.joins })

add_within_back : (d : Draft) (i : Item) (e : Draft) → IsDraft d → is_part i ≡ true → add_within d i ≡ Some e → Added d i e
add_within_back d i e h g q =
    let o = then_back (add_to d.opened i) (λ o. Some (draft d.settled o)) e q in
    let x = add_to_back d.settled d.opened i o.0 g h.opened o.1 in
    let made : IsDraft (draft d.settled o.0) = record { settled = h.settled; opened = x.fits } in
    subst (Added d i) (same (draft d.settled o.0) e o.2) (record {
      draft = made;
      items = ap (λ t. items_of d.settled ++ t) x.items ∙ sym (append_assoc (items_of d.settled) (open_items d.opened) (i ∷ []));
      kind = refl;
      joins = refl;
    })

pub add_back : (d : Draft) (i : Item) (e : Draft) → IsDraft d → is_part i ≡ true → add d i ≡ Some e → Added d i e
unfolding add
add_back d (PlaceItem s) e h g q = add_place_back d s e h g q
add_back d (BoundItem b) e h g q = add_bound_back d b e h g q
add_back d (EntryItem n sort) e h g q = add_entry_back d n sort e h g q
add_back d EndItem e h g q = add_end_back d e h q
add_back d (SameItem n) e h g q = add_within_back d (SameItem n) e h g q
add_back d (FactItem f) e h g q = add_within_back d (FactItem f) e h g q
add_back d (CongruenceItem c) e h g q = add_within_back d (CongruenceItem c) e h g q
add_back d (MultipleItem m) e h g q = add_within_back d (MultipleItem m) e h g q
add_back d (LemmaItem f) e h g q = add_within_back d (LemmaItem f) e h g q
add_back d MainItem e h g q = add_within_back d MainItem e h g q
add_back d (StepItem s) e h g q = add_within_back d (StepItem s) e h g q

-- a draft, all of whose lines a certificate of its kind may have
pub record IsRead (d : Draft) : Type 0 where
  pub draft : IsDraft d
  pub fits : Fits d.settled.is_wide (draft_items d)
  pub may_join : (d.settled.is_wide || not d.settled.joins) ≡ true

-- one with one line more
pub record AddedFitting (d : Draft) (i : Item) (e : Draft) : Type 0 where
  pub read : IsRead e
  pub items : draft_items e ≡ draft_items d ++ i ∷ []
  pub kind : e.settled.is_wide ≡ d.settled.is_wide
  pub joins : e.settled.joins ≡ d.settled.joins

pub add_fitting_back : (d : Draft) (i : Item) (e : Draft) → IsRead d → is_part i ≡ true → add_fitting d i ≡ Some e → AddedFitting d i e
add_fitting_back d i e h g q =
    let c = cond_back (d.settled.is_wide || is_narrow_item i) (add d i) e q in
    let a = add_back d i e h.draft g c.1 in
    let fits : Fits d.settled.is_wide (draft_items e) = ap (all (fits_in d.settled.is_wide)) a.items ∙ all_push (fits_in d.settled.is_wide) (draft_items d) i h.fits c.0 in
    record {
      read = record { draft = a.draft; fits = subst (λ w. Fits w (draft_items e)) (sym a.kind) fits; may_join = ap (λ w. w || not e.settled.joins) a.kind ∙ ap (λ j. d.settled.is_wide || not j) a.joins ∙ h.may_join };
      items = a.items;
      kind = a.kind;
      joins = a.joins;
    }

-- with the line of one item more
pub record AddedLine (d : Draft) (line : List ℕ) (e : Draft) : Type 0 where
  pub read : IsRead e
  pub lines : draft_lines e ≡ draft_lines d ++ line ∷ []
  pub kind : e.settled.is_wide ≡ d.settled.is_wide
  pub joins : e.settled.joins ≡ d.settled.joins

pub add_line_back : (d : Draft) (line : List ℕ) (e : Draft) → IsRead d → add_line d line ≡ Some e → AddedLine d line e
add_line_back d line e h q =
    let i = then_back (item_of (words line)) (add_fitting d) e q in
    let b = item_back line i.0 i.1 in
    let a = add_fitting_back d i.0 e h (item_part i.0 b.1) i.2 in
    record {
      read = a.read;
      lines = ap (map item_line) a.items ∙ map_push item_line (draft_items d) i.0 ∙ ap (λ t. draft_lines d ++ t ∷ []) b.0;
      kind = a.kind;
      joins = a.joins;
    }
