-- Accesses and claims of paths by their numbers.
use Rattle.std.proofs.Common.{◌≡◌, ℕ, ◌-◌, ◌<◌, ◌≤◌, true, List, [], ◌∷◌, length, map, get_or, sym, ap, ◌∙◌, subst, arith}
use Rattle.std.proofs.lemmas.List.{get_or-map, length-map}
use Rattle.std.proofs.lemmas.List.Elements.{All-get_or}
use Rattle.linear.specs.Forms.{forms}
use Rattle.walk_trees.specs.Seconds.{is_own_access}
use Rattle.walk_trees.specs.Trees as trees
use Rattle.path_steps.specs.Before.{HasFacts, HasAll}
use Rattle.path_steps.specs.View.{followed, access_seen, claim_seen}
use Rattle.path_steps.specs.declared.path.Access.{Access}
use Rattle.path_steps.specs.declared.path.Claim.{Claim}
use Rattle.path_steps.specs.declared.path.Path.{Path}
use Rattle.obligations.specs.Listing.{Of}
use Rattle.two_thread.specs.Places.{rows, claim_count, access_count}
use Rattle.two_thread.specs.Paths.{claims_on, accesses_on, tagged, claims_seen, accesses_seen, no_claim, no_access}
use Rattle.two_thread.specs.View.{met_claims, nth_claim, met_accesses, met_access, IsPlaceOf, IsPlaceOfClaim}
use Rattle.two_thread.specs.declared.on_path.OnPath.{OnPath}
use Rattle.two_thread.specs.declared.met.Met.{Met}
use Rattle.two_thread.specs.declared.walked.Tagged.{Tagged}
use Rattle.two_thread.proofs.Copies.{own-access}
use Rattle.two_thread.proofs.Located.{Located, located, located-length}

length_on : {E : Type 0} (p : Path E) → length (accesses_on p) ≡ length p.accesses.items
unfolding followed
length_on p = length-map p.accesses.items (access_seen (forms p.facts.items) p.news.items p.narrowed.items)

pub length_seen : {E : Type 0} (t : Tagged E) → length (accesses_seen t) ≡ length t.path.accesses.items
length_seen t = length-map (accesses_on t.path) (tagged t) ∙ length_on t.path

nth_on : {E : Type 0} (p : Path E) (i : ℕ) (a : Access) (d : trees.Access E) → i < length p.accesses.items → a ≡ get_or p.accesses.items i a → access_seen (forms p.facts.items) p.news.items p.narrowed.items a ≡ get_or (accesses_on p) i d
unfolding followed
nth_on p i a d h e =
    ap (access_seen (forms p.facts.items) p.news.items p.narrowed.items) e
    ∙ sym (get_or-map (access_seen (forms p.facts.items) p.news.items p.narrowed.items) p.accesses.items i a d h)

pub nth_of : {E A : Type 0} (t : Tagged E) (xs : List A) (i n : ℕ) (x d : A) (past : Of A) → length xs ≡ n → i < n → x ≡ get_or xs i d → tagged t x ≡ get_or (map (tagged t) xs) i past
nth_of t xs i n x d past l h e = ap (tagged t) e ∙ sym (get_or-map (tagged t) xs i d past (subst (λ m. i < m) (sym l) h))

pub nth_seen : {E : Type 0} (t : Tagged E) (i : ℕ) (a : Access) → i < length t.path.accesses.items → a ≡ get_or t.path.accesses.items i a → tagged t (access_seen (forms t.path.facts.items) t.path.news.items t.path.narrowed.items a) ≡ get_or (accesses_seen t) i no_access
nth_seen t i a h e = let s = access_seen (forms t.path.facts.items) t.path.news.items t.path.narrowed.items a in nth_of t (accesses_on t.path) i (length t.path.accesses.items) s s no_access (length_on t.path) h (nth_on t.path i a s h e)

pub facts_fit : {E : Type 0} (p : Path E) (i : ℕ) (a : Access) → i < length p.accesses.items → a ≡ get_or p.accesses.items i a → HasAll (length p.facts.items) (length p.news.items) (length p.narrowed.items) a
facts_fit p i a h e = subst (HasAll (length p.facts.items) (length p.news.items) (length p.narrowed.items)) (sym e) (All-get_or (HasAll (length p.facts.items) (length p.news.items) (length p.narrowed.items)) p.accesses.items i a h p.accesses_in)

pub zero_less : (n : ℕ) → n ≡ n - 0
zero_less n = omega arith

-- all accesses together
pub length_met : {E : Type 0} (m : Met E) → length m.accesses.items ≡ length (met_accesses m)
length_met m = ap length m.accesses_are ∙ located-length access_count accesses_seen length_seen no_access m.paths.items 0

pub is_place : {E : Type 0} (m : Met E) (i : ℕ) (x : OnPath) → i < length m.accesses.items → x ≡ get_or m.accesses.items i x → IsPlaceOf m i x
is_place m i x h e =
    let rs = rows 0 (map access_count m.paths.items) in
    let f : x ≡ get_or rs i x = e ∙ ap (λ l. get_or l i x) m.accesses_are in
    let l : Located access_count accesses_seen length_seen no_access m.paths.items 0 i (get_or rs i x) = located access_count accesses_seen length_seen no_access m.paths.items 0 i x (let g = ap length m.accesses_are in omega (arith, g, h)) in
    subst (IsPlaceOf m i) (sym f) (omega (arith, l.last), λ p d. l.inside p (d ∙ ap (λ k. get_or m.paths.items k p) (zero_less (get_or rs i x).path)))

-- what stands at an access's place is that access
pub access_is : {E : Type 0} (m : Met E) (i : ℕ) (x : OnPath) (t : Tagged E) (a : Access) → IsPlaceOf m i x → t ≡ get_or m.paths.items x.path t → a ≡ get_or t.path.accesses.items x.item a → tagged t (access_seen (forms t.path.facts.items) t.path.news.items t.path.narrowed.items a) ≡ met_access m i
access_is m i x t a h e d = let l = h.1 t e in nth_seen t x.item a l.0 d ∙ l.1

pub met-own : {E : Type 0} (m : Met E) (i : ℕ) → i < length m.accesses.items → is_own_access (met_access m i).it ≡ true
met-own m i h = own-access (met_accesses m) i no_access (let l = length_met m in omega (arith, l, h)) m.own

-- the place of a list's element is known where there is one
pub tag_from : {E A : Type 0} (t : Tagged E) (xs : List A) (i n : ℕ) (past u : Of A) → length xs ≡ n → i < n → get_or (map (tagged t) xs) i past ≡ u → (t.anchor ≡ u.anchor) × (t.is_head ≡ u.is_head)
tag_from t [] i n past u l h e = absurd (omega (arith, l, h))
tag_from t (x ∷ xs) i n past u l h e = let f : tagged t (get_or (x ∷ xs) i x) ≡ u = sym (get_or-map (tagged t) (x ∷ xs) i x past (subst (λ m. i < m) (sym l) h)) ∙ e in (ap (λ (o : Of _). o.anchor) f, ap (λ (o : Of _). o.is_head) f)

pub access_tag : {E : Type 0} (m : Met E) (i : ℕ) (x : OnPath) (t : Tagged E) → IsPlaceOf m i x → t ≡ get_or m.paths.items x.path t → (t.anchor ≡ (met_access m i).anchor) × (t.is_head ≡ (met_access m i).is_head)
access_tag m i x t h e = let l = h.1 t e in tag_from t (accesses_on t.path) x.item (length t.path.accesses.items) no_access (met_access m i) (length_on t.path) l.0 l.1

-- the same of claims
pub length_claims : {E : Type 0} (t : Tagged E) → length (claims_seen t) ≡ length t.path.claims.items
unfolding followed
length_claims t = length-map t.path.claims.items (claim_seen (forms t.path.facts.items))

nth_claim_seen : {E : Type 0} (p : Path E) (i : ℕ) (a : Claim) → i < length p.claims.items → a ≡ get_or p.claims.items i a → claim_seen (forms p.facts.items) a ≡ get_or (claims_on p) i no_claim
unfolding followed
nth_claim_seen p i a h e = ap (claim_seen (forms p.facts.items)) e ∙ sym (get_or-map (claim_seen (forms p.facts.items)) p.claims.items i a no_claim h)

pub claim_facts_fit : {E : Type 0} (p : Path E) (i : ℕ) (a : Claim) → i < length p.claims.items → a ≡ get_or p.claims.items i a → a.facts ≤ length p.facts.items
claim_facts_fit p i a h e = subst (HasFacts (length p.facts.items)) (sym e) (All-get_or (HasFacts (length p.facts.items)) p.claims.items i a h p.claims_in)

pub length_met_claims : {E : Type 0} (m : Met E) → length m.claims.items ≡ length (met_claims m)
length_met_claims m = ap length m.claims_are ∙ located-length claim_count claims_seen length_claims no_claim m.paths.items 0

pub is_claim_place : {E : Type 0} (m : Met E) (i : ℕ) (x : OnPath) → i < length m.claims.items → x ≡ get_or m.claims.items i x → IsPlaceOfClaim m i x
is_claim_place m i x h e =
    let rs = rows 0 (map claim_count m.paths.items) in
    let f : x ≡ get_or rs i x = e ∙ ap (λ l. get_or l i x) m.claims_are in
    let l : Located claim_count claims_seen length_claims no_claim m.paths.items 0 i (get_or rs i x) = located claim_count claims_seen length_claims no_claim m.paths.items 0 i x (let g = ap length m.claims_are in omega (arith, g, h)) in
    subst (IsPlaceOfClaim m i) (sym f) (omega (arith, l.last), λ p d. l.inside p (d ∙ ap (λ k. get_or m.paths.items k p) (zero_less (get_or rs i x).path)))

pub claim_is : {E : Type 0} (m : Met E) (i : ℕ) (x : OnPath) (t : Tagged E) (a : Claim) → IsPlaceOfClaim m i x → t ≡ get_or m.paths.items x.path t → a ≡ get_or t.path.claims.items x.item a → claim_seen (forms t.path.facts.items) a ≡ nth_claim m i
claim_is m i x t a h e d = let l = h.1 t e in nth_claim_seen t.path x.item a l.0 d ∙ l.1
