-- Obligations by their numbers.
use Rattle.std.proofs.Common.{◌≡◌, ℕ, zero, suc, refl, ◌+◌, ◌-◌, ◌<◌, ◌≤◌, ◌&&◌, Bool, true, false, List, [], ◌∷◌, ◌++◌, length, map, drop, get_or, sym, ap, subst, ◌∙◌, arith}
use Rattle.std.proofs.Math.ListN.{drop_of_length-le}
use Rattle.std.proofs.lemmas.List.{get_or-map, length-map, length-append, get_or_append_left, get_or-append-add}
use Rattle.facts.specs.declared.error.WalkError.{WalkError}
use Rattle.facts.specs.declared.error.WalkError.TheVariants as walks
use Rattle.facts.proofs.Tests.{and_left, and_right}
use Rattle.walk_trees.specs.Fitting.{denials_fit}
use Rattle.obligations.specs.Crossings as specs
use Rattle.obligations.specs.Fitting.{crossing_fits, crossings_fit}
use Rattle.path_steps.specs.Paths.{Claimed}
use Rattle.two_thread.specs.Fitting.{claims_fit}
use Rattle.two_thread.specs.Listed.{found_meetings, found_crossings, found_fits, claims_listed, meetings_listed, crossings_listed, listed, nth_fits, nth_obligation, no_obligation}
use Rattle.two_thread.specs.Alike.{notes_of}
use Rattle.two_thread.specs.Goals.{owed}
use Rattle.two_thread.specs.declared.numbered.Obligations.{Obligations}
use Rattle.domain.specs.declared.Domain.{Ghosts}
use Rattle.linear.specs.Forms.{forms}
use Rattle.facts.specs.View.{known_seen}
use Rattle.two_thread.specs.Meetings as seen
use Rattle.two_thread.specs.Meetings.{meeting_seen, meeting_fits, meetings_fit}
use Rattle.two_thread.specs.Paths.{no_claim}
use Rattle.two_thread.specs.Refusals.{IsInside, IsUnfitCrossing, DoNotFit}
use Rattle.std.specs.List.{All}
use Rattle.std.proofs.lemmas.List.Elements.{All-get_or}
use Rattle.two_thread.specs.View.{met_claims, met_accesses, met_ends, nth_claim, crossing}
use Rattle.two_thread.specs.declared.met.Met.{Met}
use Rattle.two_thread.specs.declared.crossings.Crossing.{Crossing}
use Rattle.two_thread.specs.declared.meetings.Meeting.{Meeting}
use Rattle.two_thread.proofs.Growing.{front}
use Rattle.two_thread.proofs.Nth.{length_met_claims}

-- one of them does not fit
claims_unfit_at : (cs : List Claimed) (i : ℕ) (d : Claimed) → i < length cs → denials_fit (get_or cs i d).goal ≡ false → claims_fit cs ≡ false
claims_unfit_at [] i d h f = absurd (omega arith)
claims_unfit_at (c ∷ cs) zero d h f = and_left (denials_fit c.goal) (claims_fit cs) f
claims_unfit_at (c ∷ cs) (suc i) d h f = and_right (denials_fit c.goal) (claims_fit cs) (claims_unfit_at cs i d (omega arith) f)

pub claim_unfit : {E : Type 0} (m : Met E) (i : ℕ) (e : WalkError) → i < length m.claims.items → DoNotFit (denials_fit (nth_claim m i).goal) e → DoNotFit (claims_fit (met_claims m)) e
claim_unfit m i walks.TooMany h u = u
claim_unfit m i walks.TooLarge h u = claims_unfit_at (met_claims m) i no_claim (subst (λ n. i < n) (length_met_claims m) h) u
claim_unfit m i walks.Memory h u = tt

crossings_unfit_at : {E : Type 0} (ps : List (specs.Crossing E)) (i : ℕ) (d : specs.Crossing E) → i < length ps → crossing_fits (get_or ps i d) ≡ false → crossings_fit ps ≡ false
crossings_unfit_at [] i d h f = absurd (omega arith)
crossings_unfit_at (p ∷ ps) zero d h f = and_left (crossing_fits p) (crossings_fit ps) f
crossings_unfit_at (p ∷ ps) (suc i) d h f = and_right (crossing_fits p) (crossings_fit ps) (crossings_unfit_at ps i d (omega arith) f)

pub crossing_unfit : {E : Type 0} (m : Met E) (ps : List Crossing) (i : ℕ) (r : Crossing) (e : WalkError) → i < length ps → r ≡ get_or ps i r → IsUnfitCrossing e (crossing (met_accesses m) r) → DoNotFit (crossings_fit (found_crossings m ps)) e
crossing_unfit m ps i r walks.TooMany h d u = u
crossing_unfit m ps i r walks.TooLarge h d u =
    let view = crossing (met_accesses m) in
    crossings_unfit_at (map view ps) i (view r) (subst (λ n. i < n) (sym (length-map ps view)) h) (ap crossing_fits (get_or-map view ps i r (view r) h ∙ ap view (sym d)) ∙ u)
crossing_unfit m ps i r walks.Memory h d u = tt

meetings_unfit_at : {E : Type 0} (ps : List (seen.Meeting E)) (i : ℕ) (d : seen.Meeting E) → i < length ps → meeting_fits (get_or ps i d) ≡ false → meetings_fit ps ≡ false
meetings_unfit_at [] i d h f = absurd (omega arith)
meetings_unfit_at (p ∷ ps) zero d h f = and_left (meeting_fits p) (meetings_fit ps) f
meetings_unfit_at (p ∷ ps) (suc i) d h f = and_right (meeting_fits p) (meetings_fit ps) (meetings_unfit_at ps i d (omega arith) f)

pub meeting_unfit : {E : Type 0} (m : Met E) (ps : List Meeting) (i : ℕ) (r : Meeting) (e : WalkError) → i < length ps → r ≡ get_or ps i r → DoNotFit (meeting_fits (meeting_seen (met_ends m) r)) e → DoNotFit (meetings_fit (found_meetings m ps)) e
meeting_unfit m ps i r walks.TooMany h d u = u
meeting_unfit m ps i r walks.TooLarge h d u =
    let view = meeting_seen (met_ends m) in
    meetings_unfit_at (map view ps) i (view r) (subst (λ n. i < n) (sym (length-map ps view)) h) (ap meeting_fits (get_or-map view ps i r (view r) h ∙ ap view (sym d)) ∙ u)
meeting_unfit m ps i r walks.Memory h d u = tt

-- one more fits
true_and : (a b : Bool) → a ≡ true → (a && b) ≡ b
true_and true b e = refl
true_and false b e = cc

pub claims-next : {E : Type 0} (m : Met E) (i : ℕ) (all : Bool) → i < length m.claims.items → denials_fit (nth_claim m i).goal ≡ true → claims_fit (drop i (met_claims m)) ≡ all → claims_fit (drop (i + 1) (met_claims m)) ≡ all
claims-next m i all h f e =
    let cs = met_claims m in
    sym (ap claims_fit (front cs i no_claim (subst (λ n. i < n) (length_met_claims m) h)) ∙ true_and (denials_fit (nth_claim m i).goal) (claims_fit (drop (i + 1) cs)) f) ∙ e

pub claims-end : {E : Type 0} (m : Met E) (i : ℕ) (all : Bool) → length m.claims.items ≤ i → claims_fit (drop i (met_claims m)) ≡ all → all ≡ true
claims-end m i all h e = sym e ∙ ap claims_fit (drop_of_length-le (met_claims m) (subst (λ n. n ≤ i) (length_met_claims m) h))

pub crossings-next : {E : Type 0} (m : Met E) (ps : List Crossing) (i : ℕ) (r : Crossing) (all : Bool) → i < length ps → r ≡ get_or ps i r → crossing_fits (crossing (met_accesses m) r) ≡ true → crossings_fit (drop i (found_crossings m ps)) ≡ all → crossings_fit (drop (i + 1) (found_crossings m ps)) ≡ all
crossings-next m ps i r all h d f e =
    let view = crossing (met_accesses m) in
    let l : i < length (map view ps) = subst (λ n. i < n) (sym (length-map ps view)) h in
    let q : get_or (map view ps) i (view r) ≡ view r = get_or-map view ps i r (view r) h ∙ ap view (sym d) in
    sym (ap crossings_fit (front (map view ps) i (view r) l) ∙ true_and (crossing_fits (get_or (map view ps) i (view r))) (crossings_fit (drop (i + 1) (map view ps))) (ap crossing_fits q ∙ f)) ∙ e

pub crossings-end : {E : Type 0} (m : Met E) (ps : List Crossing) (i : ℕ) (all : Bool) → length ps ≤ i → crossings_fit (drop i (found_crossings m ps)) ≡ all → all ≡ true
crossings-end m ps i all h e = sym e ∙ ap crossings_fit (drop_of_length-le (found_crossings m ps) (subst (λ n. n ≤ i) (sym (length-map ps (crossing (met_accesses m)))) h))

pub meetings-next : {E : Type 0} (m : Met E) (ps : List Meeting) (i : ℕ) (r : Meeting) (all : Bool) → i < length ps → r ≡ get_or ps i r → meeting_fits (meeting_seen (met_ends m) r) ≡ true → meetings_fit (drop i (found_meetings m ps)) ≡ all → meetings_fit (drop (i + 1) (found_meetings m ps)) ≡ all
meetings-next m ps i r all h d f e =
    let view = meeting_seen (met_ends m) in
    let l : i < length (map view ps) = subst (λ n. i < n) (sym (length-map ps view)) h in
    let q : get_or (map view ps) i (view r) ≡ view r = get_or-map view ps i r (view r) h ∙ ap view (sym d) in
    sym (ap meetings_fit (front (map view ps) i (view r) l) ∙ true_and (meeting_fits (get_or (map view ps) i (view r))) (meetings_fit (drop (i + 1) (map view ps))) (ap meeting_fits q ∙ f)) ∙ e

pub meetings-end : {E : Type 0} (m : Met E) (ps : List Meeting) (i : ℕ) (all : Bool) → length ps ≤ i → meetings_fit (drop i (found_meetings m ps)) ≡ all → all ≡ true
meetings-end m ps i all h e = sym e ∙ ap meetings_fit (drop_of_length-le (found_meetings m ps) (subst (λ n. n ≤ i) (sym (length-map ps (meeting_seen (met_ends m)))) h))

pub claims_length : {E : Type 0} (o : Obligations E) → length (claims_listed o) ≡ length o.met.claims.items
claims_length o = length-map (met_claims o.met) (owed (forms o.launch.items)) ∙ sym (length_met_claims o.met)

pub meetings_length : {E : Type 0} (g : Ghosts E) (o : Obligations E) → length (meetings_listed g o) ≡ length o.meetings.items
meetings_length g o = length-map (found_meetings o.met o.meetings.items) _ ∙ length-map o.meetings.items _

pub crossings_length : {E : Type 0} (g : Ghosts E) (o : Obligations E) → length (crossings_listed g o) ≡ length o.crossings.items
crossings_length g o = length-map (found_crossings o.met o.crossings.items) _ ∙ length-map o.crossings.items _

pub listed_length : {E : Type 0} (g : Ghosts E) (o : Obligations E) → length (listed g o) ≡ length o.met.claims.items + (length o.meetings.items + length o.crossings.items)
listed_length g o =
    length-append (claims_listed o) (meetings_listed g o ++ crossings_listed g o)
    ∙ (λ i. claims_length o i + (length-append (meetings_listed g o) (crossings_listed g o) ∙ (λ j. meetings_length g o j + crossings_length g o j)) i)

-- the first numbers are those of the claims
pub nth_is_claim : {E : Type 0} (g : Ghosts E) (o : Obligations E) (n i : ℕ) → i ≡ n - 1 → i < length o.met.claims.items → nth_obligation (listed g o) n ≡ owed (forms o.launch.items) (nth_claim o.met i)
nth_is_claim g o n i e h =
    let cs = met_claims o.met in
    let l : i < length cs = subst (λ m. i < m) (length_met_claims o.met) h in
    let k : i < length (claims_listed o) = subst (λ m. i < m) (sym (claims_length o)) h in
    ap (λ j. get_or (listed g o) j no_obligation) (sym e)
    ∙ get_or_append_left (claims_listed o) (meetings_listed g o ++ crossings_listed g o) no_obligation i k
    ∙ get_or-map (owed (forms o.launch.items)) cs i no_claim no_obligation l

-- then come those of the pairs of stops
pub nth_is_meeting : {E : Type 0} (g : Ghosts E) (o : Obligations E) (n i j : ℕ) (p : Meeting) → i ≡ n - 1 → i ≡ length o.met.claims.items + j → j < length o.meetings.items → p ≡ get_or o.meetings.items j p → nth_obligation (listed g o) n ≡ seen.meeting_obligation g (known_seen o.known) (forms o.launch.items) (notes_of o.alike.items) (meeting_seen (met_ends o.met) p)
nth_is_meeting g o n i j p e q h d =
    let view = meeting_seen (met_ends o.met) in
    let one = seen.meeting_obligation g (known_seen o.known) (forms o.launch.items) (notes_of o.alike.items) in
    let ps = found_meetings o.met o.meetings.items in
    let l : j < length ps = subst (λ m. j < m) (sym (length-map o.meetings.items view)) h in
    let k : j < length (meetings_listed g o) = subst (λ m. j < m) (sym (meetings_length g o)) h in
    ap (λ k. get_or (listed g o) k no_obligation) (sym e ∙ q ∙ ap (λ m. m + j) (sym (claims_length o)))
    ∙ get_or-append-add (claims_listed o) (meetings_listed g o ++ crossings_listed g o) j no_obligation
    ∙ get_or_append_left (meetings_listed g o) (crossings_listed g o) no_obligation j k
    ∙ get_or-map one ps j (view p) no_obligation l
    ∙ ap one (get_or-map view o.meetings.items j p (view p) h ∙ ap view (sym d))

-- then those of the pairs of accesses
pub nth_is_crossing : {E : Type 0} (g : Ghosts E) (o : Obligations E) (n i j : ℕ) (p : Crossing) → i ≡ n - 1 → i ≡ length o.met.claims.items + (length o.meetings.items + j) → j < length o.crossings.items → p ≡ get_or o.crossings.items j p → nth_obligation (listed g o) n ≡ specs.crossing_obligation g (known_seen o.known) (forms o.launch.items) (notes_of o.alike.items) (crossing (met_accesses o.met) p)
nth_is_crossing g o n i j p e q h d =
    let view = crossing (met_accesses o.met) in
    let one = specs.crossing_obligation g (known_seen o.known) (forms o.launch.items) (notes_of o.alike.items) in
    let ps = found_crossings o.met o.crossings.items in
    let l : j < length ps = subst (λ m. j < m) (sym (length-map o.crossings.items view)) h in
    ap (λ k. get_or (listed g o) k no_obligation) (sym e ∙ q ∙ (λ i. sym (claims_length o) i + (sym (meetings_length g o) i + j)))
    ∙ get_or-append-add (claims_listed o) (meetings_listed g o ++ crossings_listed g o) (length (meetings_listed g o) + j) no_obligation
    ∙ get_or-append-add (meetings_listed g o) (crossings_listed g o) j no_obligation
    ∙ get_or-map one ps j (view p) no_obligation l
    ∙ ap one (get_or-map view o.crossings.items j p (view p) h ∙ ap view (sym d))

-- whether the own forms of a number fit: of a claim, of a pair of stops, and of a pair of accesses
pub claim_fit_at : {E : Type 0} (o : Obligations E) (n i : ℕ) → i ≡ n - 1 → i < length o.met.claims.items → nth_fits (found_fits o) n ≡ true
claim_fit_at o n i e h =
    let cs = met_claims o.met in
    let fit = λ (c : Claimed). true in
    let l : i < length cs = subst (λ m. i < m) (length_met_claims o.met) h in
    let k : i < length (map fit cs) = subst (λ m. i < m) (sym (length-map cs fit)) l in
    ap (λ j. get_or (found_fits o) j true) (sym e)
    ∙ get_or_append_left (map fit cs) (map meeting_fits (found_meetings o.met o.meetings.items) ++ map crossing_fits (found_crossings o.met o.crossings.items)) true i k
    ∙ get_or-map fit cs i no_claim true l

pub meeting_fit_at : {E : Type 0} (o : Obligations E) (n i j : ℕ) (p : Meeting) → i ≡ n - 1 → i ≡ length o.met.claims.items + j → j < length o.meetings.items → p ≡ get_or o.meetings.items j p → nth_fits (found_fits o) n ≡ meeting_fits (meeting_seen (met_ends o.met) p)
meeting_fit_at o n i j p e q h d =
    let cs = met_claims o.met in
    let fit = λ (c : Claimed). true in
    let view = meeting_seen (met_ends o.met) in
    let ps = found_meetings o.met o.meetings.items in
    let xs = map crossing_fits (found_crossings o.met o.crossings.items) in
    let l : j < length ps = subst (λ m. j < m) (sym (length-map o.meetings.items view)) h in
    let k : j < length (map meeting_fits ps) = subst (λ m. j < m) (sym (length-map ps meeting_fits)) l in
    ap (λ k. get_or (found_fits o) k true) (sym e ∙ q ∙ ap (λ m. m + j) (length_met_claims o.met ∙ sym (length-map cs fit)))
    ∙ get_or-append-add (map fit cs) (map meeting_fits ps ++ xs) j true
    ∙ get_or_append_left (map meeting_fits ps) xs true j k
    ∙ get_or-map meeting_fits ps j (view p) true l
    ∙ ap meeting_fits (get_or-map view o.meetings.items j p (view p) h ∙ ap view (sym d))

pub crossing_fit_at : {E : Type 0} (o : Obligations E) (n i j : ℕ) (p : Crossing) → i ≡ n - 1 → i ≡ length o.met.claims.items + (length o.meetings.items + j) → j < length o.crossings.items → p ≡ get_or o.crossings.items j p → nth_fits (found_fits o) n ≡ crossing_fits (crossing (met_accesses o.met) p)
crossing_fit_at o n i j p e q h d =
    let cs = met_claims o.met in
    let fit = λ (c : Claimed). true in
    let view = crossing (met_accesses o.met) in
    let ms = found_meetings o.met o.meetings.items in
    let ps = found_crossings o.met o.crossings.items in
    let l : j < length ps = subst (λ m. j < m) (sym (length-map o.crossings.items view)) h in
    ap (λ k. get_or (found_fits o) k true) (sym e ∙ q ∙ ap (λ m. m + (length o.meetings.items + j)) (length_met_claims o.met ∙ sym (length-map cs fit)))
    ∙ get_or-append-add (map fit cs) (map meeting_fits ms ++ map crossing_fits ps) (length o.meetings.items + j) true
    ∙ ap (λ k. get_or (map meeting_fits ms ++ map crossing_fits ps) (k + j) true) (sym (length-map ms meeting_fits ∙ length-map o.meetings.items (meeting_seen (met_ends o.met))))
    ∙ get_or-append-add (map meeting_fits ms) (map crossing_fits ps) j true
    ∙ get_or-map crossing_fits ps j (view p) true l
    ∙ ap crossing_fits (get_or-map view o.crossings.items j p (view p) h ∙ ap view (sym d))

pub unfit_fit : {E : Type 0} (p : specs.Crossing E) (e : WalkError) → IsUnfitCrossing e p → DoNotFit (crossing_fits p) e
unfit_fit p walks.TooMany u = absurd u
unfit_fit p walks.TooLarge u = u
unfit_fit p walks.Memory u = tt

-- one of several is inside
pub stops_at : (n : ℕ) (ps : List Meeting) (j : ℕ) (p : Meeting) → All (seen.IsInside n) ps → j < length ps → p ≡ get_or ps j p → seen.IsInside n p
stops_at n ps j p a h e = subst (seen.IsInside n) (sym e) (All-get_or (seen.IsInside n) ps j p h a)

pub inside_at : (n : ℕ) (ps : List Crossing) (j : ℕ) (p : Crossing) → All (IsInside n) ps → j < length ps → p ≡ get_or ps j p → IsInside n p
inside_at n ps j p a h e = subst (IsInside n) (sym e) (All-get_or (IsInside n) ps j p h a)
