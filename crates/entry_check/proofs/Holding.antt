-- Paths that are held, one more at a time, and the lists of what stands on them.
use Rattle.std.proofs.Common.{◌≡◌, ◌<◌, ◌≤◌, ℕ, zero, suc, ◌+◌, ◌-◌, List, [], ◌∷◌, ◌++◌, map, take, drop, get_or, length, Bool, true, false, ◌&&◌, ◌||◌, cond, append_assoc, append-nil, refl, sym, ap, ◌∙◌, arith}
use Rattle.std.proofs.lemmas.Bool.{and_parts}
use Rattle.std.proofs.Math.Seq.{drop-append_seam, take-append_seam}
use Rattle.std.proofs.lemmas.List.{drop_all, get_or_append_left, length-append, take-append-drop}
use Rattle.semantics.specs.Core.{Array, Space, Global, Local}
use Rattle.core_code.specs.View.{space}
use Rattle.core_code.specs.declared.tree.Space as code
use Rattle.core_code.specs.declared.tree.Space.TheVariants as codes
use Rattle.semantics.specs.Launch.{Three}
use Rattle.semantics.specs.Conditions.{Conditions}
use Rattle.domain.specs.declared.Domain.{Ghosts}
use Rattle.walk_trees.specs.Fitting.{denials_fit}
use Rattle.walk_trees.specs.Pairs.{Scope, Within, Across, where_so}
use Rattle.walk_trees.specs.Trees.{Access, Ended}
use Rattle.path_steps.specs.Paths.{Claimed}
use Rattle.obligations.specs.Crossings.{Crossing, all_orders, array, conflict, crossings_in, crossings_of, is_array, may_meet, with_each, with_one}
use Rattle.obligations.specs.Listing.{Of}
use Rattle.obligations.specs.Meetings.{is_rest}
use Rattle.obligations.specs.Owning.{all_own_accesses, all_own_ends}
use Rattle.obligations.specs.Notes.{Notes}
use Rattle.two_thread.specs.Fitting.{claims_fit}
use Rattle.two_thread.specs.Meetings.{all_meetings, meet_each, meet_from, two_meet}
use Rattle.two_thread.specs.Paths.{accesses_seen, all_accesses, all_ends, claims_seen, ends_seen, no_access, no_claim, no_end}
use Rattle.two_thread.specs.Places.{joined}
use Rattle.two_thread.specs.View.{nth_access, nth_end}
use Rattle.two_thread.specs.declared.walked.Tagged.{Tagged}
use Rattle.two_thread.proofs.OwnRows.{accesses-part, ends-part}
use Rattle.two_thread.proofs.Spreading.{front-and}
use Rattle.walk.specs.Cursors.{Gives, left_accesses, left_claims, left_count, left_ends}
use Rattle.walk.specs.declared.cursor.Paths.{Paths}
use Rattle.walk.specs.declared.terrain.Terrain.{Terrain}
use Rattle.entry_check.specs.Held.{Holds}
use Rattle.entry_check.proofs.Taking.{next_at}

-- what stands on paths, and on one more
pub last : {E A : Type 0} (f : Tagged E → List A) (ts : List (Tagged E)) (t : Tagged E) → joined (map f (ts ++ t ∷ [])) ≡ joined (map f ts) ++ f t
last f ts t = front-and f ts (t ∷ []) ∙ ap (λ l. joined (map f ts) ++ l) (append-nil (f t))

more : {E A : Type 0} (f : Tagged E → List A) (all ts : List (Tagged E)) (t : Tagged E) (all' left left' : List A) → all ≡ ts ++ t ∷ [] → left ≡ f t ++ left' → all' ≡ joined (map f ts) ++ left → all' ≡ joined (map f all) ++ left'
more f all ts t all' left left' e q h =
    h ∙ ap (λ l. joined (map f ts) ++ l) q ∙ sym (append_assoc (joined (map f ts)) (f t) left')
    ∙ ap (λ l. l ++ left') (sym (ap (λ ps. joined (map f ps)) e ∙ last f ts t))

module _ {E : Type 0} (g : Ghosts E) (t : Terrain E) where
  -- one path more is held
  pub holds_more : (x y z : Paths) (from held held' : List (Tagged E)) (p : Tagged E) → Holds g t x from y held → Gives g t y p z → held' ≡ held ++ p ∷ [] → Holds g t x from z held'
  holds_more x y z from held held' p h v e = record {
    claims = more claims_seen held' held p _ _ _ e v.claims h.claims;
    accesses = more accesses_seen held' held p _ _ _ e v.accesses h.accesses;
    ends = more ends_seen held' held p _ _ _ e v.ends h.ends;
    count = let a = h.count in let b = v.count in omega (arith, a, b);
  }

  -- what a cursor gave, that stood where another one does
  pub gives_alike : (x y z : Paths) (p : Tagged E) → left_claims g t y ≡ left_claims g t x → left_accesses g t y ≡ left_accesses g t x → left_ends g t y ≡ left_ends g t x → left_count g t y ≡ left_count g t x → Gives g t y p z → Gives g t x p z
  gives_alike x y z p a b d e v = record {
    claims = sym a ∙ v.claims;
    accesses = sym b ∙ v.accesses;
    ends = sym d ∙ v.ends;
    count = sym e ∙ v.count;
    own_accesses = v.own_accesses;
    own_ends = v.own_ends;
  }

-- what denies claims, list by list
pub denied_both : (xs ys : List Claimed) → claims_fit (xs ++ ys) ≡ (claims_fit xs && claims_fit ys)
denied_both [] ys = refl
denied_both (x ∷ xs) ys = ap (λ b. denials_fit x.goal && b) (denied_both xs ys) ∙ apart (denials_fit x.goal) (claims_fit xs) (claims_fit ys)
  where
    apart : (a b c : Bool) → (a && (b && c)) ≡ ((a && b) && c)
    apart true b c = refl
    apart false b c = refl

-- of a list, and one more list behind it
module _ {A : Type 0} (xs ys : List A) where
  pub seam : (zs : List A) (from : ℕ) → zs ≡ xs ++ ys → from ≡ length xs → drop from zs ≡ ys
  seam zs from e f = ap (drop from) e ∙ ap (λ k. drop k (xs ++ ys)) f ∙ drop-append_seam xs ys

  pub in_first : (zs : List A) (i : ℕ) (d : A) → zs ≡ xs ++ ys → i < length xs → get_or zs i d ≡ get_or xs i d
  in_first zs i d e h = ap (λ l. get_or l i d) e ∙ get_or_append_left xs ys d i h

-- pairs of ends
module _ {E : Type 0} (n : Notes) where
  pub each_both : (u : Of (Ended E)) (xs ys : List (Of (Ended E))) → meet_each n u (xs ++ ys) ≡ meet_each n u xs ++ meet_each n u ys
  each_both u [] ys = refl
  each_both u (x ∷ xs) ys = ap (λ l. two_meet n u x ++ l) (each_both u xs ys) ∙ sym (append_assoc (two_meet n u x) (meet_each n u xs) (meet_each n u ys))

  pub from_rest : (u : Of (Ended E)) (us : List (Of (Ended E))) → is_rest u.it.arrived.stop ≡ true → meet_from n u us ≡ meet_each n u us
  from_rest u us h = ap (λ b. cond b (meet_each n u us) []) h

  pub from_head : (u : Of (Ended E)) (us : List (Of (Ended E))) → is_rest u.it.arrived.stop ≡ false → meet_from n u us ≡ []
  from_head u us h = ap (λ b. cond b (meet_each n u us) []) h

  pub all_next : (xs ys : List (Of (Ended E))) (i : ℕ) → i < length xs → all_meetings n (drop i xs ++ ys) ≡ meet_from n (nth_end xs i) (drop i xs ++ ys) ++ all_meetings n (drop (i + 1) xs ++ ys)
  all_next xs ys i h =
      ap (λ l. all_meetings n (l ++ ys)) (next_at xs i no_end h)
      ∙ ap (λ l. meet_from n (nth_end xs i) (l ++ ys) ++ all_meetings n (drop (i + 1) xs ++ ys)) (sym (next_at xs i no_end h))

-- pairs of accesses
module _ {E : Type 0} (sizes : Three ℕ) (c : Conditions) (b : Bool) (a : Array) (s : Scope) where
  pub with_both : (u : Of (Access E)) (xs ys : List (Of (Access E))) → with_each sizes c b a s u (xs ++ ys) ≡ with_each sizes c b a s u xs ++ with_each sizes c b a s u ys
  with_both u [] ys = refl
  with_both u (x ∷ xs) ys = ap (λ l. with_one sizes c b a s u x ++ l) (with_both u xs ys) ∙ sym (append_assoc (with_one sizes c b a s u x) (with_each sizes c b a s u xs) (with_each sizes c b a s u ys))

  pub in_next : (xs ys : List (Of (Access E))) (i : ℕ) → i < length xs → crossings_in sizes c b a s (drop i xs ++ ys) ≡ with_each sizes c b a s (nth_access xs i) (drop i xs ++ ys) ++ crossings_in sizes c b a s (drop (i + 1) xs ++ ys)
  in_next xs ys i h =
      ap (λ l. crossings_in sizes c b a s (l ++ ys)) (next_at xs i no_access h)
      ∙ ap (λ l. with_each sizes c b a s (nth_access xs i) (l ++ ys) ++ crossings_in sizes c b a s (drop (i + 1) xs ++ ys)) (sym (next_at xs i no_access h))

-- an access that is not of the array has none
where_not : {A : Type 0} (b : Bool) (xs : List A) → b ≡ false → where_so b xs ≡ []
where_not true xs h = absurd cc
where_not false xs h = refl

not_both : (a b c : Bool) → a ≡ false → ((a && b) && c) ≡ false
not_both true b c h = absurd cc
not_both false b c h = refl

pub each_foreign : {E : Type 0} (sizes : Three ℕ) (c : Conditions) (b : Bool) (a : Array) (s : Scope) (u : Of (Access E)) (vs : List (Of (Access E))) → is_array a u.it.target ≡ false → with_each sizes c b a s u vs ≡ []
each_foreign sizes c b a s u [] h = refl
each_foreign sizes c b a s u (v ∷ vs) h =
    ap (λ l. l ++ with_each sizes c b a s u vs) (where_not (conflict a u v && may_meet b s u.anchor v.anchor) (all_orders sizes c s b u v) (not_both (is_array a u.it.target) (is_array a v.it.target && (u.it.target.is_store || v.it.target.is_store)) (may_meet b s u.anchor v.anchor) h))
    ∙ each_foreign sizes c b a s u vs h

-- an array's pairs, scope by scope
module _ {E : Type 0} (sizes : Three ℕ) (c : Conditions) (b : Bool) (us : List (Of (Access E))) (n : ℕ) where
  pub of_begins : (sp : Space) → (more : List (Crossing E)) × (crossings_of sizes c (λ _. b) us sp n ≡ crossings_in sizes c b (array sp n) Within us ++ more)
  of_begins Global = (crossings_in sizes c b (array Global n) Across us, refl)
  of_begins Local = ([], sym (append-nil (crossings_in sizes c b (array Local n) Within us)))

  pub of_buffer : (x : code.Space) → x ≡ codes.Global → crossings_of sizes c (λ _. b) us (space x) n ≡ crossings_in sizes c b (array (space x) n) Within us ++ crossings_in sizes c b (array (space x) n) Across us
  of_buffer codes.Global e = refl
  of_buffer codes.Local e = absurd cc

  pub of_local : (x : code.Space) → ((x ≡ codes.Global) → ⊥) → crossings_of sizes c (λ _. b) us (space x) n ≡ crossings_in sizes c b (array (space x) n) Within us
  of_local codes.Global h = absurd (h refl)
  of_local codes.Local h = refl

-- none is left of the first list
pub past_all : {A : Type 0} (xs ys : List A) (i : ℕ) → length xs ≤ i → drop i xs ++ ys ≡ ys
past_all xs ys i h = ap (λ l. l ++ ys) (drop_all i xs h)

-- all but the last
pub before_last : {A : Type 0} (all ps : List A) (p : A) (n : ℕ) → all ≡ ps ++ p ∷ [] → n ≡ length all - 1 → take n all ≡ ps
before_last all ps p n e h =
    let a = ap length e in
    let b = length-append ps (p ∷ []) in
    let k : n ≡ length ps = omega (arith, a, b, h) in
    ap (take n) e ∙ ap (λ m. take m (ps ++ p ∷ [])) k ∙ take-append_seam ps (p ∷ [])

-- what is of the first paths alone
pub own_first : {E : Type 0} (ts : List (Tagged E)) (n : ℕ) → all_own_accesses (all_accesses ts) ≡ true → all_own_accesses (all_accesses (take n ts)) ≡ true
own_first ts n h = (accesses-part (all_accesses (take n ts)) (all_accesses (drop n ts)) (ap all_own_accesses (sym (front-and accesses_seen (take n ts) (drop n ts)) ∙ ap all_accesses (take-append-drop n ts)) ∙ h)).0

pub own_ends_first : {E : Type 0} (ts : List (Tagged E)) (n : ℕ) → all_own_ends (all_ends ts) ≡ true → all_own_ends (all_ends (take n ts)) ≡ true
own_ends_first ts n h = (ends-part (all_ends (take n ts)) (all_ends (drop n ts)) (ap all_own_ends (sym (front-and ends_seen (take n ts) (drop n ts)) ∙ ap all_ends (take-append-drop n ts)) ∙ h)).0

-- of claims what denies each is of i64, where that of all is
pub denied_at : (xs : List Claimed) (i : ℕ) → i < length xs → claims_fit xs ≡ true → denials_fit (get_or xs i no_claim).goal ≡ true
denied_at [] i l h = absurd (omega (arith, l))
denied_at (x ∷ xs) zero l h = (and_parts (denials_fit x.goal) (claims_fit xs) h).0
denied_at (x ∷ xs) (suc i) l h = denied_at xs i (omega (arith, l)) (and_parts (denials_fit x.goal) (claims_fit xs) h).1

-- what stands on one path alone
pub alone_is : {E A : Type 0} (f : Tagged E → List A) (ps : List (Tagged E)) (p : Tagged E) → ps ≡ p ∷ [] → joined (map f ps) ≡ f p
alone_is f ps p e = ap (λ l. joined (map f l)) e ∙ append-nil (f p)

pub denied_front : (xs us ys : List Claimed) → xs ≡ us ++ ys → claims_fit xs ≡ true → (claims_fit us ≡ true) × (claims_fit ys ≡ true)
denied_front xs us ys e h = and_parts (claims_fit us) (claims_fit ys) (sym (denied_both us ys) ∙ sym (ap claims_fit e) ∙ h)

pub denied_more : (all one : Bool) (xs us ys : List Claimed) (whole : Bool) → xs ≡ us ++ ys → one ≡ claims_fit us → (all && claims_fit xs) ≡ whole → ((all && one) && claims_fit ys) ≡ whole
denied_more all one xs us ys whole e q h =
    sym (regroup all one (claims_fit ys)) ∙ ap (λ b. all && b) (ap (λ b. b && claims_fit ys) q ∙ sym (denied_both us ys) ∙ sym (ap claims_fit e)) ∙ h
  where
    regroup : (a b c : Bool) → (a && (b && c)) ≡ ((a && b) && c)
    regroup true b c = refl
    regroup false b c = refl
