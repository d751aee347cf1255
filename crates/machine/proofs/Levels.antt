-- Epochs of the items of a group, and of accesses.
use Rattle.std.proofs.Common.{◌≡◌, ◌<◌, ◌≤◌, ◌+◌, ◌%◌, ◌⊎◌, ℕ, zero, suc, ℤ, List, [], ◌∷◌, Bool, true, false, cond, Contains, Option, Some, None, refl, sym, ap, ◌∙◌, subst, arith, inl, inr, nat_eq, get_or, add-zero}
use Rattle.std.specs.Prelude.{pos}
use Rattle.std.specs.Option.{option_map}
use Rattle.std.proofs.lemmas.Bool.Decides.{nat_tests}
use Rattle.std.proofs.lemmas.List.Elements.{Contains-push_cases}
use Rattle.std.proofs.lemmas.Slice.Eq.{bytes_eq-Decides}
use Rattle.semantics.specs.Setup.{Setup, group_of, group_size, item_count, member}
use Rattle.semantics.specs.Item.{Entry, Item, Waiting, trail}
use Rattle.semantics.specs.Ask.{Ask, Loads, Stores, Goes, Waits, Rests, passes}
use Rattle.semantics.specs.Solo.{Access, touch, moved, epoch, opening}
use Rattle.semantics.specs.World.{World, opening_world, noted, put_item, released, may_go, past, waits}
use Rattle.semantics.proofs.Groups.{every-at, both-true}
use Rattle.semantics.proofs.Events.{some-is}
use Rattle.work_item.specs.Asks.{asked}
use Rattle.work_item.specs.declared.ask.Ask as code
use Rattle.work_item.specs.declared.ask.Ask.TheVariants as variants
use Rattle.clashes.specs.View.{access}
use Rattle.clashes.specs.Histories.{IsNext}
use Rattle.clashes.specs.Watched.{AreNext}
use Rattle.clashes.specs.declared.access.Access as accesses
use Rattle.machine.specs.Worlds.{is_move, is_alike, past_barrier, AreLevel, KeepsEpochs}
use Rattle.machine.proofs.Blocks.{member_waits, passes_so}

epoch_level : (a b : Item) (owner : ℕ) → AreLevel a b → epoch a owner ≡ epoch b owner
epoch_level a b zero l = l.1
epoch_level a b (suc g) l = l.0

turned : (a b : Item) → AreLevel a b → AreLevel b a
turned a b l = (sym l.0, sym l.1)

joined : (a b c : Item) → AreLevel a b → AreLevel b c → AreLevel a c
joined a b c l m = (l.0 ∙ m.0, l.1 ∙ m.1)

-- a step raises no epoch
moves_level : (c : code.Ask) (it : Item) (z : ℤ) → is_move c ≡ true → AreLevel (moved it (asked c it) z) it
moves_level (variants.Loads at k s) it z h = (refl, refl)
moves_level (variants.Stores at s v) it z h = (refl, refl)
moves_level (variants.Faults f s) it z h = (refl, refl)
moves_level (variants.Sets slot v) it z h = (refl, refl)
moves_level (variants.Takes block) it z h = (refl, refl)
moves_level (variants.Repeats body update) it z h = (refl, refl)
moves_level variants.PassesBy it z h = (refl, refl)
moves_level variants.Arrives it z h = (refl, refl)
moves_level variants.Ends it z h = (refl, refl)
moves_level (variants.Leaves n) it z h = (refl, refl)
moves_level (variants.Resumes n) it z h = (refl, refl)
moves_level variants.Waits it z h = cc
moves_level variants.Rests it z h = cc

put_level : (i : ℕ) (it : Item) (items : ℕ → Item) (j : ℕ) → AreLevel it (items i) → AreLevel (put_item i it items j) (items j)
unfolding put_item
put_level i it items j l = by (nat_eq j i) refl
  where
    by : (b : Bool) → nat_eq j i ≡ b → AreLevel (cond b it (items j)) (items j)
    by true e = let same : j ≡ i = grind (arith, nat_tests) in rw same l
    by false e = (refl, refl)

-- what an item touches it touches at its epoch
touched : (i : ℕ) (it : Item) (k : Ask) (a : Access) → touch i it k ≡ Some a → (a.item ≡ i) × (a.epoch ≡ epoch it a.at.owner)
touched i it (Loads at kind site) a h = subst (λ (x : Access). (x.item ≡ i) × (x.epoch ≡ epoch it x.at.owner)) (some-is _ a h) (refl, refl)
touched i it (Stores at site value next) a h = subst (λ (x : Access). (x.item ≡ i) × (x.epoch ≡ epoch it x.at.owner)) (some-is _ a h) (refl, refl)
touched i it (Goes next) a h = cc
touched i it (Waits next) a h = cc
touched i it Rests a h = cc

noted-cases : (o : Option Access) (h : List Access) (a : Access) → Contains (noted o h) a → Contains h a ⊎ (o ≡ Some a)
noted-cases None h a c = inl c
noted-cases (Some b) h a c = elim (Contains-push_cases h b a c) [ inl old ↦ inl old | inr new ↦ inr (ap (λ (x : Access). Some x) new) ]

pub steps_keep : (s : Setup) (w v : World) (i : ℕ) (c : code.Ask) (z : ℤ) → i < item_count s → is_move c ≡ true → KeepsEpochs s w
    → v.items ≡ put_item i (moved (w.items i) (asked c (w.items i)) z) w.items → v.history ≡ noted (touch i (w.items i) (asked c (w.items i))) w.history → KeepsEpochs s v
steps_keep s w v i c z below goes k ei eh = record {
  level = λ a b la lb same. joined (v.items a) (w.items a) (v.items b) (stays a) (joined (w.items a) (w.items b) (v.items b) (k.level a b la lb same) (turned (v.items b) (w.items b) (stays b)));
  noted = λ a p j lj same. elim (noted-cases (touch i (w.items i) (asked c (w.items i))) w.history a (subst (λ h. Contains h a) eh p)) [
    | inl old ↦ subst (λ n. a.epoch ≤ n) (sym (epoch_level (v.items j) (w.items j) a.at.owner (stays j))) (k.noted a old j lj same)
    | inr fresh ↦
        let t = touched i (w.items i) (asked c (w.items i)) a fresh in
        let l = k.level i j below lj (ap (group_of s) (sym t.0) ∙ same) in
        let e : a.epoch ≡ epoch (v.items j) a.at.owner = t.1 ∙ epoch_level (w.items i) (w.items j) a.at.owner l ∙ sym (epoch_level (v.items j) (w.items j) a.at.owner (stays j)) in omega (arith, e)
  ];
}
  where
    stays : (j : ℕ) → AreLevel (v.items j) (w.items j)
    stays j = subst (λ f. AreLevel (f j) (w.items j)) (sym ei) (put_level i (moved (w.items i) (asked c (w.items i)) z) w.items j (moves_level c (w.items i) z goes))

-- the access of a step comes after those so far
next_one : (s : Setup) (w : World) (i : ℕ) (k : Ask) (a : Access) → KeepsEpochs s w → i < item_count s → touch i (w.items i) k ≡ Some a → IsNext s w.history a
next_one s w i k a e below h b p at same =
    let t = touched i (w.items i) k a h in
    let n : b.epoch ≤ epoch (w.items i) b.at.owner = e.noted b p i below (same ∙ ap (group_of s) t.0) in
    let q : epoch (w.items i) b.at.owner ≡ a.epoch = ap (λ x. epoch (w.items i) x.owner) at ∙ sym t.1 in
    omega (arith, n, q)

pub next_of : (s : Setup) (w : World) (i : ℕ) (k : Ask) (o : Option accesses.Access) → KeepsEpochs s w → i < item_count s → option_map access o ≡ touch i (w.items i) k → AreNext s w.history o
next_of s w i k None e below h = tt
next_of s w i k (Some a) e below h = next_one s w i k (access a) e below (sym h)

-- the items of a group that may go stand at one barrier
one_trail : (s : Setup) (items : ℕ → Item) (g i : ℕ) → 0 < group_size s → may_go s items g ≡ true → group_of s i ≡ g → trail (items i).left ≡ trail (items (member s g 0)).left
unfolding may_go
one_trail s items g i some h e =
    let l : i % group_size s < group_size s = omega arith in
    let m : member s g (i % group_size s) ≡ i = ap (λ x. member s x (i % group_size s)) (sym e) ∙ omega arith in
    let t = every-at (group_size s) (λ k. is_alike items (member s g k) (member s g 0)) (i % group_size s) h l in
    let at = items (member s g (i % group_size s)) in
    ap (λ j. trail (items j).left) (sym m) ∙ (bytes_eq-Decides (trail at.left) (trail (items (member s g 0)).left)).0 (both-true (waits at.status) _ t).1

-- the flags of the barrier in front raise the epochs
abbrev IsRaised : Item → Item → Type 0
IsRaised it new = (new.local_epoch ≡ it.local_epoch + get_or (trail it.left) 2 0) × (new.global_epoch ≡ it.global_epoch + get_or (trail it.left) 3 0)

passes_raise : (it : Item) → IsRaised it (past_barrier it)
passes_raise it = by it.left
  where
    by : (left : List Entry) → ((moved it (passes it left) (pos 0)).local_epoch ≡ it.local_epoch + get_or (trail left) 2 0) × ((moved it (passes it left) (pos 0)).global_epoch ≡ it.global_epoch + get_or (trail left) 3 0)
    by [] = (sym (add-zero it.local_epoch), sym (add-zero it.global_epoch))
    by (e ∷ rest) = (refl, refl)

past_raises : (s : Setup) (i : ℕ) (it : Item) → it.status ≡ Waiting → IsRaised it (past s i it)
past_raises s i it h = subst (IsRaised it) (passes_so s i it h) (passes_raise it)

raised_level : (a b x y : Item) → AreLevel a b → trail a.left ≡ trail b.left → IsRaised a x → IsRaised b y → AreLevel x y
raised_level a b x y l t p q = (
  p.0 ∙ ap (λ n. n + get_or (trail a.left) 2 0) l.0 ∙ ap (λ ns. b.local_epoch + get_or ns 2 0) t ∙ sym q.0,
  p.1 ∙ ap (λ n. n + get_or (trail a.left) 3 0) l.1 ∙ ap (λ ns. b.global_epoch + get_or ns 3 0) t ∙ sym q.1,
)

raised_more : (it new : Item) (owner : ℕ) → IsRaised it new → epoch it owner ≤ epoch new owner
raised_more it new zero r = let e = r.1 in omega (arith, e)
raised_more it new (suc g) r = let e = r.0 in omega (arith, e)

release_keeps : (s : Setup) (g : ℕ) (w : World) → 0 < group_size s → may_go s w.items g ≡ true → KeepsEpochs s w → KeepsEpochs s (released s g w)
unfolding released
release_keeps s g w some may k = record {
  level = λ i j li lj same. level i j li lj same (nat_eq (group_of s i) g) (nat_eq (group_of s j) g) refl refl;
  noted = λ a p j lj same. let o = k.noted a p j lj same in let m = more j a.at.owner (nat_eq (group_of s j) g) refl in omega (arith, o, m);
}
  where
    goes : (i : ℕ) → nat_eq (group_of s i) g ≡ true → IsRaised (w.items i) (past s i (w.items i))
    goes i e = past_raises s i (w.items i) (member_waits s w.items g i some may (grind (arith, nat_tests)))

    level : (i j : ℕ) → i < item_count s → j < item_count s → group_of s i ≡ group_of s j → (a b : Bool) → nat_eq (group_of s i) g ≡ a → nat_eq (group_of s j) g ≡ b → AreLevel (cond a (past s i (w.items i)) (w.items i)) (cond b (past s j (w.items j)) (w.items j))
    level i j li lj same true true p q =
        let t = one_trail s w.items g i some may (grind (arith, nat_tests)) ∙ sym (one_trail s w.items g j some may (grind (arith, nat_tests))) in
        raised_level (w.items i) (w.items j) (past s i (w.items i)) (past s j (w.items j)) (k.level i j li lj same) t (goes i p) (goes j q)
    level i j li lj same true false p q = absurd (grind (arith, nat_tests))
    level i j li lj same false true p q = absurd (grind (arith, nat_tests))
    level i j li lj same false false p q = k.level i j li lj same

    more : (j owner : ℕ) (b : Bool) → nat_eq (group_of s j) g ≡ b → epoch (w.items j) owner ≤ epoch (cond b (past s j (w.items j)) (w.items j)) owner
    more j owner true e = raised_more (w.items j) (past s j (w.items j)) owner (goes j e)
    more j owner false e = omega arith

pub released_keep : (s : Setup) (g : ℕ) (w v : World) → 0 < group_size s → may_go s w.items g ≡ true → v ≡ released s g w → KeepsEpochs s w → KeepsEpochs s v
released_keep s g w v some may e k = subst (KeepsEpochs s) (sym e) (release_keeps s g w some may k)

opens : (s : Setup) → KeepsEpochs s (opening_world s)
unfolding opening_world opening
opens s = record { level = λ i j li lj same. (refl, refl); noted = λ a p. absurd (let l : p.0 < 0 = p.1 in omega (arith, l)) }

pub opening_keeps : (s : Setup) (w : World) → w ≡ opening_world s → KeepsEpochs s w
opening_keeps s w e = subst (KeepsEpochs s) (sym e) (opens s)
