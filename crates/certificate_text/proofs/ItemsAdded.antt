-- The items of a certificate may stand one behind the other.
use Rattle.std.proofs.Common.{◌≡◌, ℕ, Bool, true, false, ◌&&◌, ◌||◌, List, [], ◌∷◌, ◌++◌, map, Option, None, Some, refl, ap, sym, ◌∙◌, append_assoc}
use Rattle.std.specs.List.{flat_map}
use Rattle.std.proofs.lemmas.Bool.{cond-true}
use Rattle.std.proofs.lemmas.List.{append-nil}
use Rattle.linear.specs.Linear.{Form}
use Rattle.lines.specs.Lines.{follows}
use Rattle.certificate_text.specs.Certificate.{Name, Spot, Congruence, Multiple, Place, Bound, EntrySort, Step, Lemma, Entry, Certificate}
use Rattle.certificate_text.specs.Forms.{then, when}
use Rattle.certificate_text.specs.Lines.{Item, PlaceItem, SameItem, FactItem, CongruenceItem, MultipleItem, BoundItem, EntryItem, LemmaItem, MainItem, StepItem, EndItem}
use Rattle.certificate_text.specs.Items.{place_items, lemma_items, main_items, entry_items, items_of}
use Rattle.certificate_text.specs.Drafts.{bound_is_behind, entry_is_behind, Nothing, InPlace, InEntry, InLemma, Ended, Draft, draft, certificate_with, begun, has_line, settle, place_fits, place_at, entry_at, add}
use Rattle.certificate_text.specs.Reading.{add_fitting}
use Rattle.certificate_text.specs.Rules.{all, rises, is_open_place, is_place, place_is_before, bound_is_before, entry_is_before, is_narrow_item, is_written}
use Rattle.lines.proofs.Fronts.{both}
use Rattle.certificate_text.proofs.Cuts.{then_back}
use Rattle.certificate_text.proofs.FormsWritten.{rises_follow, moved}
use Rattle.certificate_text.proofs.PartsRead.{same}
use Rattle.certificate_text.proofs.Narrowness.{fits_in}
use Rattle.certificate_text.proofs.DraftsRead.{place_follows, bound_follows, entry_follows}

-- a draft with some items more
abbrev pub add_all : Draft → List Item → Option Draft
add_all d [] = Some d
add_all d (i ∷ items) = then (add d i) (λ e. add_all e items)

-- one that a certificate of its kind may have
pub fitting : (d : Draft) (i : Item) (e : Draft) → fits_in d.settled.is_wide i ≡ true → add d i ≡ Some e → add_fitting d i ≡ Some e
fitting d i e f q = cond-true (d.settled.is_wide || is_narrow_item i) (add d i) None f ∙ q

pub end_fits : (is_wide : Bool) → fits_in is_wide EndItem ≡ true
end_fits true = refl
end_fits false = refl

add_on : (d e f : Draft) (a b : List Item) → add_all d a ≡ Some e → add_all e b ≡ Some f → add_all d (a ++ b) ≡ Some f
add_on d e f [] b p q = ap (λ x. add_all x b) (same d e p) ∙ q
add_on d e f (i ∷ a) b p q = let n = then_back (add d i) (λ x. add_all x a) e p in ap (λ o. then o (λ x. add_all x (a ++ b))) n.1 ∙ add_on n.0 e f a b n.2 q

one_added : (d : Draft) (i : Item) (e : Draft) → add d i ≡ Some e → add_all d (i ∷ []) ≡ Some e
one_added d i e q = ap (λ o. then o (λ x. add_all x [])) q

-- items of one kind, in a row
row_added : {A : Type 0} (make : A → Item) (at : List A → Draft) → ((done : List A) (x : A) → add (at done) (make x) ≡ Some (at (done ++ x ∷ []))) → (done xs : List A) → add_all (at done) (map make xs) ≡ Some (at (done ++ xs))
row_added make at e done [] = ap (λ t. Some (at t)) (sym (append-nil done))
row_added make at e done (x ∷ xs) =
    ap (λ o. then o (λ d. add_all d (map make xs))) (e done x) ∙ row_added make at e (done ++ x ∷ []) xs ∙ ap (λ t. Some (at t)) (sym (moved done x xs))

abbrev in_place : Certificate → Spot → List (List ℕ) → List (Form Name) → List Congruence → List Multiple → Draft
in_place c spot names facts congruences multiples = draft c (InPlace (record { spot = spot; same = names; facts = facts; congruences = congruences; multiples = multiples }))

add_same : (c : Certificate) (spot : Spot) (done : List (List ℕ)) (x : List ℕ) → add (in_place c spot done [] [] []) (SameItem x) ≡ Some (in_place c spot (done ++ x ∷ []) [] [] [])
unfolding add
add_same c spot done x = refl

add_fact : (c : Certificate) (spot : Spot) (names : List (List ℕ)) (done : List (Form Name)) (x : Form Name) → add (in_place c spot names done [] []) (FactItem x) ≡ Some (in_place c spot names (done ++ x ∷ []) [] [])
unfolding add
add_fact c spot names done x = refl

add_congruence : (c : Certificate) (spot : Spot) (names : List (List ℕ)) (facts : List (Form Name)) (done : List Congruence) (x : Congruence) → add (in_place c spot names facts done []) (CongruenceItem x) ≡ Some (in_place c spot names facts (done ++ x ∷ []) [])
unfolding add
add_congruence c spot names facts done x = refl

add_multiple : (c : Certificate) (spot : Spot) (names : List (List ℕ)) (facts : List (Form Name)) (congruences : List Congruence) (done : List Multiple) (x : Multiple) → add (in_place c spot names facts congruences done) (MultipleItem x) ≡ Some (in_place c spot names facts congruences (done ++ x ∷ []))
unfolding add
add_multiple c spot names facts congruences done x = refl

add_place_on : (d : Draft) (c : Certificate) (spot : Spot) → settle d.settled d.opened ≡ Some c → place_fits c spot ≡ true → add d (PlaceItem spot) ≡ Some (in_place c spot [] [] [] [])
unfolding add
add_place_on d c spot s f = ap (λ o. then o (λ x. when (place_fits x spot) (draft x (InPlace (place_at spot))))) s ∙ cond-true (place_fits c spot) (Some (draft c (InPlace (place_at spot)))) None f

add_bound_on : (d : Draft) (is_wide joins : Bool) (places : List Place) (done : List Bound) (b : Bound) → settle d.settled d.opened ≡ Some (certificate_with is_wide joins places done []) → follows bound_is_behind done b.loop ≡ true → add d (BoundItem b) ≡ Some (draft (certificate_with is_wide joins places (done ++ b ∷ []) []) Nothing)
unfolding add
add_bound_on d is_wide joins places done b s f = rw (s, f) refl

add_entry_on : (d : Draft) (is_wide joins : Bool) (places : List Place) (bounds : List Bound) (done : List Entry) (n : ℕ) (sort : EntrySort) → settle d.settled d.opened ≡ Some (certificate_with is_wide joins places bounds done) → follows entry_is_behind done n ≡ true → add d (EntryItem n sort) ≡ Some (draft (certificate_with is_wide joins places bounds done) (InEntry (entry_at n sort)))
unfolding add
add_entry_on d is_wide joins places bounds done n sort s f = rw (s, f) refl

abbrev entry_of : ℕ → EntrySort → List Lemma → List Step → Entry
entry_of n sort lemmas steps = record { obligation = n; sort = sort; lemmas = lemmas; steps = steps }

abbrev lemma_of : Form Name → List Step → Lemma
lemma_of f steps = record { form = f; steps = steps }

add_step_on : (c : Certificate) (n : ℕ) (sort : EntrySort) (lemmas : List Lemma) (done : List Step) (x : Step) → add (draft c (InEntry (entry_of n sort lemmas done))) (StepItem x) ≡ Some (draft c (InEntry (entry_of n sort lemmas (done ++ x ∷ []))))
unfolding add
add_step_on c n sort lemmas done x = refl

add_lemma_step : (c : Certificate) (e : Entry) (f : Form Name) (done : List Step) (x : Step) → add (draft c (InLemma e (lemma_of f done))) (StepItem x) ≡ Some (draft c (InLemma e (lemma_of f (done ++ x ∷ []))))
unfolding add
add_lemma_step c e f done x = refl

add_first_lemma : (c : Certificate) (n : ℕ) (sort : EntrySort) (f : Form Name) → add (draft c (InEntry (entry_of n sort [] []))) (LemmaItem f) ≡ Some (draft c (InLemma (entry_of n sort [] []) (lemma_of f [])))
unfolding add
add_first_lemma c n sort f = refl

add_next_lemma : (c : Certificate) (n : ℕ) (sort : EntrySort) (done : List Lemma) (last : Lemma) (f : Form Name) → add (draft c (InLemma (entry_of n sort done []) last)) (LemmaItem f) ≡ Some (draft c (InLemma (entry_of n sort (done ++ last ∷ []) []) (lemma_of f [])))
unfolding add
add_next_lemma c n sort done last f = refl

add_main : (c : Certificate) (n : ℕ) (sort : EntrySort) (done : List Lemma) (last : Lemma) → add (draft c (InLemma (entry_of n sort done []) last)) MainItem ≡ Some (draft c (InEntry (entry_of n sort (done ++ last ∷ []) [])))
unfolding add
add_main c n sort done last = refl

add_end_on : (d : Draft) (c : Certificate) → settle d.settled d.opened ≡ Some c → add d EndItem ≡ Some (draft c Ended)
unfolding add
add_end_on d c s = rw s refl

-- from a draft that is settled
place_added : (d : Draft) (c : Certificate) (p : Place) → settle d.settled d.opened ≡ Some c → place_fits c p.spot ≡ true → add_all d (place_items p) ≡ Some (draft c (InPlace p))
place_added d c p s f =
    let zero = in_place c p.spot [] [] [] [] in
    let one = in_place c p.spot p.same [] [] [] in
    let two = in_place c p.spot p.same p.facts [] [] in
    let three = in_place c p.spot p.same p.facts p.congruences [] in
    let four = in_place c p.spot p.same p.facts p.congruences p.multiples in
    add_on d zero four (PlaceItem p.spot ∷ []) _ (one_added d (PlaceItem p.spot) zero (add_place_on d c p.spot s f))
    (add_on zero one four (map SameItem p.same) _ (row_added SameItem (λ ns. in_place c p.spot ns [] [] []) (add_same c p.spot) [] p.same)
    (add_on one two four (map FactItem p.facts) _ (row_added FactItem (λ fs. in_place c p.spot p.same fs [] []) (add_fact c p.spot p.same) [] p.facts)
    (add_on two three four (map CongruenceItem p.congruences) (map MultipleItem p.multiples) (row_added CongruenceItem (λ cs. in_place c p.spot p.same p.facts cs []) (add_congruence c p.spot p.same p.facts) [] p.congruences)
    (row_added MultipleItem (λ ms. in_place c p.spot p.same p.facts p.congruences ms) (add_multiple c p.spot p.same p.facts p.congruences) [] p.multiples))))

-- a draft that is settled as that certificate
record Settles (d : Draft) (items : List Item) (c : Certificate) : Type 0 where
  last : Draft
  added : add_all d items ≡ Some last
  settled : settle last.settled last.opened ≡ Some c

places_added : (d : Draft) (is_wide joins : Bool) (done places : List Place) → settle d.settled d.opened ≡ Some (certificate_with is_wide joins done [] []) → all is_place places ≡ true → rises place_is_before (done ++ places) ≡ true → Settles d (flat_map place_items places) (certificate_with is_wide joins (done ++ places) [] [])
places_added d is_wide joins done [] s h up = record { last = d; added = refl; settled = s ∙ ap (λ ps. Some (certificate_with is_wide joins ps [] [])) (sym (append-nil done)) }
places_added d is_wide joins done (p ∷ places) s h up =
    let a = both (is_place p) (all is_place places) h in
    let b = both (is_open_place p) (has_line p) a.0 in
    let c = certificate_with is_wide joins done [] [] in
    let e = draft c (InPlace p) in
    let now : settle c (InPlace p) ≡ Some (certificate_with is_wide joins (done ++ p ∷ []) [] []) = cond-true (has_line p) (Some (certificate_with is_wide joins (done ++ p ∷ []) [] [])) None b.1 in
    let r = places_added e is_wide joins (done ++ p ∷ []) places now a.1 (ap (rises place_is_before) (sym (moved done p places)) ∙ up) in
    record {
      last = r.last;
      added = add_on d e r.last (place_items p) (flat_map place_items places) (place_added d c p s (place_follows done p ∙ rises_follow place_is_before done p places up)) r.added;
      settled = r.settled ∙ ap (λ ps. Some (certificate_with is_wide joins ps [] [])) (sym (moved done p places));
    }

bounds_added : (d : Draft) (is_wide joins : Bool) (places : List Place) (done bounds : List Bound) → settle d.settled d.opened ≡ Some (certificate_with is_wide joins places done []) → rises bound_is_before (done ++ bounds) ≡ true → Settles d (map BoundItem bounds) (certificate_with is_wide joins places (done ++ bounds) [])
bounds_added d is_wide joins places done [] s up = record { last = d; added = refl; settled = s ∙ ap (λ bs. Some (certificate_with is_wide joins places bs [])) (sym (append-nil done)) }
bounds_added d is_wide joins places done (b ∷ bounds) s up =
    let e = draft (certificate_with is_wide joins places (done ++ b ∷ []) []) Nothing in
    let r = bounds_added e is_wide joins places (done ++ b ∷ []) bounds refl (ap (rises bound_is_before) (sym (moved done b bounds)) ∙ up) in
    record {
      last = r.last;
      added = add_on d e r.last (BoundItem b ∷ []) (map BoundItem bounds) (one_added d (BoundItem b) e (add_bound_on d is_wide joins places done b s (bound_follows done b ∙ rises_follow bound_is_before done b bounds up))) r.added;
      settled = r.settled ∙ ap (λ bs. Some (certificate_with is_wide joins places bs [])) (sym (moved done b bounds));
    }

-- the steps of a lemma, and those that show the obligation
lemma_added : (c : Certificate) (e : Entry) (l : Lemma) → add_all (draft c (InLemma e (lemma_of l.form []))) (map StepItem l.steps) ≡ Some (draft c (InLemma e l))
lemma_added c e l = row_added StepItem (λ ss. draft c (InLemma e (lemma_of l.form ss))) (add_lemma_step c e l.form) [] l.steps

steps_added : (c : Certificate) (n : ℕ) (sort : EntrySort) (lemmas : List Lemma) (steps : List Step) → add_all (draft c (InEntry (entry_of n sort lemmas []))) (map StepItem steps) ≡ Some (draft c (InEntry (entry_of n sort lemmas steps)))
steps_added c n sort lemmas steps = row_added StepItem (λ ss. draft c (InEntry (entry_of n sort lemmas ss))) (add_step_on c n sort lemmas) [] steps

-- lemmas behind a lemma, and the line behind them
lemmas_added : (c : Certificate) (n : ℕ) (sort : EntrySort) (done : List Lemma) (last : Lemma) (ls : List Lemma) → add_all (draft c (InLemma (entry_of n sort done []) last)) (flat_map lemma_items ls ++ MainItem ∷ []) ≡ Some (draft c (InEntry (entry_of n sort (done ++ last ∷ ls) [])))
lemmas_added c n sort done last [] = one_added (draft c (InLemma (entry_of n sort done []) last)) MainItem _ (add_main c n sort done last)
lemmas_added c n sort done last (l ∷ ls) =
    let start = draft c (InLemma (entry_of n sort done []) last) in
    let e = entry_of n sort (done ++ last ∷ []) [] in
    let end = draft c (InEntry (entry_of n sort ((done ++ last ∷ []) ++ l ∷ ls) [])) in
    let first = add_on start (draft c (InLemma e (lemma_of l.form []))) (draft c (InLemma e l)) (LemmaItem l.form ∷ []) (map StepItem l.steps) (one_added start (LemmaItem l.form) _ (add_next_lemma c n sort done last l.form)) (lemma_added c e l) in
    ap (add_all start) (append_assoc (lemma_items l) (flat_map lemma_items ls) (MainItem ∷ []))
    ∙ add_on start (draft c (InLemma e l)) end (lemma_items l) (flat_map lemma_items ls ++ MainItem ∷ []) first (lemmas_added c n sort (done ++ last ∷ []) l ls)
    ∙ ap (λ t. Some (draft c (InEntry (entry_of n sort t [])))) (sym (moved done last (l ∷ ls)))

shown_added : (c : Certificate) (n : ℕ) (sort : EntrySort) (lemmas : List Lemma) (steps : List Step) → add_all (draft c (InEntry (entry_of n sort [] []))) (flat_map lemma_items lemmas ++ (main_items lemmas ++ map StepItem steps)) ≡ Some (draft c (InEntry (entry_of n sort lemmas steps)))
shown_added c n sort [] steps = steps_added c n sort [] steps
shown_added c n sort (l ∷ ls) steps =
    let e = entry_of n sort [] [] in
    let zero = draft c (InEntry e) in
    let one = draft c (InLemma e l) in
    let two = draft c (InEntry (entry_of n sort (l ∷ ls) [])) in
    let three = draft c (InEntry (entry_of n sort (l ∷ ls) steps)) in
    let first = add_on zero (draft c (InLemma e (lemma_of l.form []))) one (LemmaItem l.form ∷ []) (map StepItem l.steps) (one_added zero (LemmaItem l.form) _ (add_first_lemma c n sort l.form)) (lemma_added c e l) in
    let regrouped : flat_map lemma_items (l ∷ ls) ++ (MainItem ∷ map StepItem steps) ≡ lemma_items l ++ ((flat_map lemma_items ls ++ MainItem ∷ []) ++ map StepItem steps) = append_assoc (lemma_items l) (flat_map lemma_items ls) (MainItem ∷ map StepItem steps) ∙ ap (λ t. lemma_items l ++ t) (sym (append_assoc (flat_map lemma_items ls) (MainItem ∷ []) (map StepItem steps))) in
    ap (add_all zero) regrouped
    ∙ add_on zero one three (lemma_items l) ((flat_map lemma_items ls ++ MainItem ∷ []) ++ map StepItem steps) first (add_on one two three (flat_map lemma_items ls ++ MainItem ∷ []) (map StepItem steps) (lemmas_added c n sort [] l ls) (steps_added c n sort (l ∷ ls) steps))

entries_added : (d : Draft) (is_wide joins : Bool) (places : List Place) (bounds : List Bound) (done entries : List Entry) → settle d.settled d.opened ≡ Some (certificate_with is_wide joins places bounds done) → rises entry_is_before (done ++ entries) ≡ true → Settles d (flat_map entry_items entries) (certificate_with is_wide joins places bounds (done ++ entries))
entries_added d is_wide joins places bounds done [] s up = record { last = d; added = refl; settled = s ∙ ap (λ es. Some (certificate_with is_wide joins places bounds es)) (sym (append-nil done)) }
entries_added d is_wide joins places bounds done (x ∷ entries) s up =
    let c = certificate_with is_wide joins places bounds done in
    let zero = draft c (InEntry (entry_of x.obligation x.sort [] [])) in
    let e = draft c (InEntry x) in
    let r = entries_added e is_wide joins places bounds (done ++ x ∷ []) entries refl (ap (rises entry_is_before) (sym (moved done x entries)) ∙ up) in
    let first = one_added d (EntryItem x.obligation x.sort) zero (add_entry_on d is_wide joins places bounds done x.obligation x.sort s (entry_follows done x ∙ rises_follow entry_is_before done x entries up)) in
    record {
      last = r.last;
      added = add_on d e r.last (entry_items x) (flat_map entry_items entries) (add_on d zero e (EntryItem x.obligation x.sort ∷ []) _ first (shown_added c x.obligation x.sort x.lemmas x.steps)) r.added;
      settled = r.settled ∙ ap (λ es. Some (certificate_with is_wide joins places bounds es)) (sym (moved done x entries));
    }

-- all of a certificate's items, and the end
pub all_added : (c : Certificate) → is_written c ≡ true → add_all (begun c.is_wide c.joins) (items_of c ++ EndItem ∷ []) ≡ Some (draft c Ended)
all_added c h =
    let a = both (all is_place c.places && rises place_is_before c.places) _ h in
    let p = both (all is_place c.places) (rises place_is_before c.places) a.0 in
    let b = both _ _ a.1 in
    let q = both _ (rises bound_is_before c.bounds) b.0 in
    let r = both _ (rises entry_is_before c.entries) b.1 in
    let x = places_added (begun c.is_wide c.joins) c.is_wide c.joins [] c.places refl p.0 p.1 in
    let y = bounds_added x.last c.is_wide c.joins c.places [] c.bounds x.settled q.1 in
    let z = entries_added y.last c.is_wide c.joins c.places c.bounds [] c.entries y.settled r.1 in
    let body = add_on (begun c.is_wide c.joins) x.last z.last (flat_map place_items c.places) (map BoundItem c.bounds ++ flat_map entry_items c.entries) x.added (add_on x.last y.last z.last (map BoundItem c.bounds) (flat_map entry_items c.entries) y.added z.added) in
    add_on (begun c.is_wide c.joins) z.last (draft c Ended) (items_of c) (EndItem ∷ []) body (one_added z.last EndItem (draft c Ended) (add_end_on z.last c z.settled))
