-- A path with one claim, fact, new symbol, narrowed element, access or choice more.
use Rattle.std.proofs.Common.{◌≡◌, ◌<◌, ◌≤◌, ℕ, zero, suc, true, false, ◌&&◌, List, [], ◌∷◌, ◌++◌, length, take, drop, map, refl, sym, ap, subst, ◌∙◌, append-nil, add-one, nat_lt, nat_le, arith}
use Rattle.std.specs.Prelude.{get_or}
use Rattle.std.specs.List.{All}
use Rattle.std.proofs.lemmas.Bool.Decides.{nat_tests}
use Rattle.std.proofs.lemmas.List.{take-append-le, map-append, length-append}
use Rattle.std.proofs.lemmas.List.Elements.{All-head, All-tail}
use Rattle.std.proofs.Math.Seq.{take-length}
use Rattle.std.proofs.Math.ListN.{drop_of_length-le}
use Rattle.linear.specs.Exact.{fits}
use Rattle.linear.specs.Forms.{form, forms}
use Rattle.linear.specs.declared.form.Form.{Form}
use Rattle.linear.proofs.FormLists.{length-forms, forms_more, form-fits}
use Rattle.facts.specs.Symbols.{Fact}
use Rattle.walk_trees.specs.Fitting.{all_fit}
use Rattle.walk_trees.specs.Walks.{is_none}
use Rattle.path_steps.specs.Before.{HasFacts, HasAll}
use Rattle.path_steps.specs.Paths as paths
use Rattle.path_steps.specs.Paths.{noted, is_goal_fit, front, behind}
use Rattle.path_steps.specs.View.{sort, spot, target, goal_seen, claim_seen, access_seen, held_seen, invented_seen, narrowed_seen, choice}
use Rattle.path_steps.specs.declared.path.Claim.{Claim}
use Rattle.path_steps.specs.declared.path.Access.{Access}
use Rattle.path_steps.specs.declared.path.Invented.{Invented}
use Rattle.path_steps.specs.declared.path.Narrowed.{Narrowed}
use Rattle.path_steps.specs.declared.path.Choice.{Choice}
use Rattle.path_steps.specs.declared.path.Goal.{Goal}
use Rattle.path_steps.specs.declared.path.Goal.TheVariants as goals

pub noted_last : {A : Type 0} (cs : List paths.Choice) (x : A) (xs : List A) → is_none cs ≡ true → noted cs x xs ≡ xs ++ x ∷ []
noted_last [] x xs h = refl
noted_last (c ∷ cs) x xs h = absurd cc

pub noted_none : {A : Type 0} (cs : List paths.Choice) (x : A) (xs : List A) → is_none cs ≡ false → noted cs x xs ≡ xs
noted_none [] x xs h = absurd cc
noted_none (c ∷ cs) x xs h = refl

forms-fit : (fs : List Form) → all_fit (forms fs) ≡ true
forms-fit [] = refl
forms-fit (f ∷ fs) = ap (λ b. b && all_fit (forms fs)) (form-fits f) ∙ forms-fit fs

pub goal_fits : (g : Goal) → is_goal_fit (goal_seen g) ≡ true
goal_fits (goals.AtLeastZero f) = form-fits f
goal_fits (goals.Either p n) = ap (λ b. b && fits (form n)) (form-fits p) ∙ form-fits n
goal_fits (goals.Replaced made f) = ap (λ b. b && fits (form f)) (forms-fit made.items) ∙ form-fits f
goal_fits (goals.Divided made f) = ap (λ b. b && fits (form f)) (forms-fit made.items) ∙ form-fits f

pub few : (n : ℕ) → n < 65536 → nat_lt n 65536 ≡ true
few n h = grind (arith, nat_tests)

pub many : (n : ℕ) → 65536 ≤ n → nat_lt n 65536 ≡ false
many n h = grind (arith, nat_tests)

pub is_past : {A B : Type 0} (view : A → B) (n : ℕ) (xs : List A) → nat_le (length xs) n ≡ is_none (map view (drop n xs))
is_past view zero [] = grind (arith, nat_tests)
is_past view zero (x ∷ xs) = grind (arith, nat_tests)
is_past view (suc n) [] = grind (arith, nat_tests)
is_past view (suc n) (x ∷ xs) = step (length xs) ∙ is_past view n xs
  where
    step : (k : ℕ) → nat_le (suc k) (suc n) ≡ nat_le k n
    step k = grind (arith, nat_tests)

pub front_left : (n : ℕ) (cs : List Choice) (d : Choice) → n < length cs → choice (get_or cs n d) ≡ front (map choice (drop n cs))
front_left zero [] d h = absurd (omega (arith, h))
front_left zero (c ∷ cs) d h = refl
front_left (suc n) [] d h = absurd (omega (arith, h))
front_left (suc n) (c ∷ cs) d h = front_left n cs d (omega (arith, h))

pub front_none : (n : ℕ) (cs : List Choice) → length cs ≤ n → paths.First ≡ front (map choice (drop n cs))
front_none n cs h = ap (λ l. front (map choice l)) (sym (drop_of_length-le cs h))

pub left_more : (n : ℕ) (cs : List Choice) → map choice (drop (suc n) cs) ≡ behind (map choice (drop n cs))
left_more zero [] = refl
left_more zero (c ∷ cs) = refl
left_more (suc n) [] = refl
left_more (suc n) (c ∷ cs) = left_more n cs

pub taken_more : (cs ds given : List Choice) (c : Choice) → ds ≡ cs ++ c ∷ [] → map choice (drop (length ds) given) ≡ behind (map choice (drop (length cs) given))
taken_more cs ds given c e = ap (λ n. map choice (drop n given)) (ap length e ∙ length-append cs (c ∷ []) ∙ add-one (length cs)) ∙ left_more (length cs) given

pub whole : (fs : List Form) (n : ℕ) → n ≡ length fs → take n (forms fs) ≡ forms fs
whole fs n e = ap (λ k. take k (forms fs)) (e ∙ sym (length-forms fs)) ∙ take-length (forms fs)

pub all_of : {A : Type 0} (xs : List A) (n : ℕ) → n ≡ length xs → take n xs ≡ xs
all_of xs n e = ap (λ k. take k xs) e ∙ take-length xs

pub claims_more : (fs : List Form) (cs ds : List Claim) (c : Claim) → ds ≡ cs ++ c ∷ [] → c.facts ≡ length fs → map (claim_seen (forms fs)) ds ≡ map (claim_seen (forms fs)) cs ++ record { demand = record { sort = sort c.sort; spot = spot c.spot }; needed = c.needed; settled = c.settled; goal = goal_seen c.goal; facts = forms fs } ∷ []
claims_more fs cs ds c e n =
    ap (map (claim_seen (forms fs))) e ∙ map-append (claim_seen (forms fs)) cs (c ∷ [])
    ∙ ap (λ l. map (claim_seen (forms fs)) cs ++ record { demand = record { sort = sort c.sort; spot = spot c.spot }; needed = c.needed; settled = c.settled; goal = goal_seen c.goal; facts = l } ∷ []) (whole fs c.facts n)

pub accesses_more : {E : Type 0} (fs : List Form) (es : List (Invented E)) (ns : List (Narrowed E)) (cs ds : List Access) (c : Access) → ds ≡ cs ++ c ∷ [] → c.facts ≡ length fs → c.news ≡ length es → c.narrowed ≡ length ns → map (access_seen (forms fs) es ns) ds ≡ map (access_seen (forms fs) es ns) cs ++ record { target = target c.target; index = form c.index; held = held_seen es ns; facts = forms fs } ∷ []
accesses_more fs es ns cs ds c e n m k =
    ap (map (access_seen (forms fs) es ns)) e ∙ map-append (access_seen (forms fs) es ns) cs (c ∷ [])
    ∙ (λ i. map (access_seen (forms fs) es ns) cs ++ record { target = target c.target; index = form c.index; held = held_seen (all_of es c.news m i) (all_of ns c.narrowed k i); facts = whole fs c.facts n i } ∷ [])

same_claims : (F G : List Fact) (n : ℕ) (cs : List Claim) → n ≡ length F → All (HasFacts n) cs → map (claim_seen (F ++ G)) cs ≡ map (claim_seen F) cs
same_claims F G n [] e h = refl
same_claims F G n (c ∷ cs) e h = λ i. record { demand = record { sort = sort c.sort; spot = spot c.spot }; needed = c.needed; settled = c.settled; goal = goal_seen c.goal; facts = take-append-le c.facts F G (subst (λ k. c.facts ≤ k) e (All-head (HasFacts n) c cs h)) i } ∷ same_claims F G n cs e (All-tail (HasFacts n) c cs h) i

pub claims_kept : (fs gs : List Form) (f : Form) (cs : List Claim) → gs ≡ fs ++ f ∷ [] → All (HasFacts (length fs)) cs → map (claim_seen (forms gs)) cs ≡ map (claim_seen (forms fs)) cs
claims_kept fs gs f cs e h = ap (λ F. map (claim_seen F) cs) (forms_more fs gs f e) ∙ same_claims (forms fs) (form f ∷ []) (length fs) cs (sym (length-forms fs)) h

same_accesses : {E : Type 0} (F G : List Fact) (A B : List (Invented E)) (M N : List (Narrowed E)) (n m k : ℕ) (cs : List Access) → n ≡ length F → m ≡ length A → k ≡ length M → All (HasAll n m k) cs → map (access_seen (F ++ G) (A ++ B) (M ++ N)) cs ≡ map (access_seen F A M) cs
same_accesses F G A B M N n m k [] e d u h = refl
same_accesses F G A B M N n m k (c ∷ cs) e d u h = λ i. record { target = target c.target; index = form c.index; held = held_seen (take-append-le c.news A B (subst (λ x. c.news ≤ x) d (All-head (HasAll n m k) c cs h).1.0) i) (take-append-le c.narrowed M N (subst (λ x. c.narrowed ≤ x) u (All-head (HasAll n m k) c cs h).1.1) i); facts = take-append-le c.facts F G (subst (λ x. c.facts ≤ x) e (All-head (HasAll n m k) c cs h).0) i } ∷ same_accesses F G A B M N n m k cs e d u (All-tail (HasAll n m k) c cs h) i

pub accesses_kept : {E : Type 0} (fs gs : List Form) (f : Form) (es : List (Invented E)) (ns : List (Narrowed E)) (cs : List Access) → gs ≡ fs ++ f ∷ [] → All (HasAll (length fs) (length es) (length ns)) cs → map (access_seen (forms gs) es ns) cs ≡ map (access_seen (forms fs) es ns) cs
accesses_kept fs gs f es ns cs e h =
    (λ i. map (access_seen (forms_more fs gs f e i) (sym (append-nil es) i) (sym (append-nil ns) i)) cs) ∙ same_accesses (forms fs) (form f ∷ []) es [] ns [] (length fs) (length es) (length ns) cs (sym (length-forms fs)) refl refl h

pub accesses_known : {E : Type 0} (fs : List Form) (es ds : List (Invented E)) (x : Invented E) (ns : List (Narrowed E)) (cs : List Access) → ds ≡ es ++ x ∷ [] → All (HasAll (length fs) (length es) (length ns)) cs → map (access_seen (forms fs) ds ns) cs ≡ map (access_seen (forms fs) es ns) cs
accesses_known fs es ds x ns cs e h =
    (λ i. map (access_seen (sym (append-nil (forms fs)) i) (e i) (sym (append-nil ns) i)) cs) ∙ same_accesses (forms fs) [] es (x ∷ []) ns [] (length fs) (length es) (length ns) cs (sym (length-forms fs)) refl refl h

pub accesses_narrowed : {E : Type 0} (fs : List Form) (es : List (Invented E)) (ns ms : List (Narrowed E)) (x : Narrowed E) (cs : List Access) → ms ≡ ns ++ x ∷ [] → All (HasAll (length fs) (length es) (length ns)) cs → map (access_seen (forms fs) es ms) cs ≡ map (access_seen (forms fs) es ns) cs
accesses_narrowed fs es ns ms x cs e h =
    (λ i. map (access_seen (sym (append-nil (forms fs)) i) (sym (append-nil es) i) (e i)) cs) ∙ same_accesses (forms fs) [] es [] ns (x ∷ []) (length fs) (length es) (length ns) cs (sym (length-forms fs)) refl refl h

pub news_more : {E : Type 0} (es ds : List (Invented E)) (x : Invented E) → ds ≡ es ++ x ∷ [] → map invented_seen ds ≡ map invented_seen es ++ x.element ∷ []
news_more es ds x e = ap (map invented_seen) e ∙ map-append invented_seen es (x ∷ [])

pub narrowed_more : {E : Type 0} (ns ms : List (Narrowed E)) (x : Narrowed E) → ms ≡ ns ++ x ∷ [] → map narrowed_seen ms ≡ map narrowed_seen ns ++ narrowed_seen x ∷ []
narrowed_more ns ms x e = ap (map narrowed_seen) e ∙ map-append narrowed_seen ns (x ∷ [])

pub choices_more : (cs ds : List Choice) (c : Choice) → ds ≡ cs ++ c ∷ [] → map choice ds ≡ map choice cs ++ choice c ∷ []
choices_more cs ds c e = ap (map choice) e ∙ map-append choice cs (c ∷ [])
