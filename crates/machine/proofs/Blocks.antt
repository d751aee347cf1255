-- The items of a group, and what its release leaves.
use Rattle.std.proofs.Common.{◌≡◌, ◌<◌, ◌≤◌, ◌+◌, ◌*◌, ◌/◌, ◌%◌, ◌-◌, ◌&&◌, ℕ, suc, Bool, true, false, cond, refl, sym, ap, ◌∙◌, subst, arith, inl, inr, nat_eq, nat_lt, lt-ltb}
use Rattle.std.specs.Prelude.{Some, None, nat_le, pos}
use Rattle.std.proofs.lemmas.Bool.{cases_eq}
use Rattle.std.proofs.lemmas.Bool.Decides.{nat_tests}
use Rattle.std.proofs.Math.Nat.{mul-le-mul_right}
use Rattle.std.proofs.Math.Path.{fun_ext}
use Rattle.semantics.specs.Setup.{Setup, group_of, group_size, group_count, member}
use Rattle.semantics.specs.Item.{Item, Status, Running, Waiting, Ended, Stopped}
use Rattle.semantics.specs.Ask.{ask, by_status}
use Rattle.semantics.specs.Solo.{moved}
use Rattle.semantics.specs.World.{World, Release, happens, released, may_go, guarded, every, waits, past}
use Rattle.semantics.proofs.Groups.{every-at, every-by, both-true}
use Rattle.work_item.specs.Proper.{is_proper_left}
use Rattle.work_item.proofs.Keeping.{keeps_proper}
use Rattle.machine.specs.declared.world.Applied.TheVariants as answers
use Rattle.machine.specs.Worlds.{is_alike, is_among, past_barrier, Answers}
use Rattle.machine.proofs.Steps.{the_world}

pub block_within : (g a b : ℕ) → g < a → g * b + b ≤ a * b
block_within g a b h =
    let k : suc g * b ≤ a * b = mul-le-mul_right b h in
    let e : suc g * b ≡ g * b + b = omega arith in
    omega (arith, k, e)

-- the next one is not yet among them
pub not_yet : (first n : ℕ) → is_among first n (first + n) ≡ false
not_yet first n = by (nat_le first (first + n)) (nat_lt (first + n) (first + n)) refl refl
  where
    by : (a b : Bool) → nat_le first (first + n) ≡ a → nat_lt (first + n) (first + n) ≡ b → (a && b) ≡ false
    by true true p q = absurd (grind (arith, nat_tests))
    by true false p q = refl
    by false b p q = refl

pub up_to : (P : ℕ → Type 0) (first n : ℕ) → ((i : ℕ) → first ≤ i → i < first + n → P i) → P (first + n) → (i : ℕ) → first ≤ i → i < first + (n + 1) → P i
up_to P first n h here i low high = elim (cases_eq i (first + n)) [ inl same ↦ subst P (sym same) here | inr other ↦ h i low (omega (arith, high, other)) ]

-- one item more past its barrier
pub one_more_passed : {A : Type 0} (first n i : ℕ) (now new old : ℕ → A) (g : A → A) (x : A) → ((j : ℕ) → now j ≡ cond (is_among first n j) (g (old j)) (old j)) → new i ≡ cond (nat_eq i (first + n)) x (now i) → x ≡ g (now (first + n)) → new i ≡ cond (is_among first (n + 1) i) (g (old i)) (old i)
one_more_passed first n i now new old g x h k e = by (nat_eq i (first + n)) refl
  where
    here : now (first + n) ≡ old (first + n)
    here = h (first + n) ∙ ap (λ b. cond b (g (old (first + n))) (old (first + n))) (not_yet first n)

    by : (b : Bool) → nat_eq i (first + n) ≡ b → new i ≡ cond (is_among first (n + 1) i) (g (old i)) (old i)
    by true p =
        let same : i ≡ first + n = grind (arith, nat_tests) in
        let a : nat_le first i ≡ true = grind (arith, nat_tests) in
        let c : nat_lt i (first + (n + 1)) ≡ true = grind (arith, nat_tests) in
        let t : is_among first (n + 1) i ≡ true = rw (a, c) refl in
        k ∙ ap (λ b. cond b x (now i)) p ∙ e ∙ ap g here ∙ ap (λ j. g (old j)) (sym same) ∙ sym (ap (λ b. cond b (g (old i)) (old i)) t)
    by false p =
        let c : nat_lt i (first + (n + 1)) ≡ nat_lt i (first + n) = tests (nat_lt i (first + (n + 1))) (nat_lt i (first + n)) refl refl in
        k ∙ ap (λ b. cond b x (now i)) p ∙ h i ∙ sym (ap (λ t. cond (nat_le first i && t) (g (old i)) (old i)) c)
      where
        tests : (s t : Bool) → nat_lt i (first + (n + 1)) ≡ s → nat_lt i (first + n) ≡ t → s ≡ t
        tests true true u v = refl
        tests true false u v = absurd (grind (arith, nat_tests))
        tests false true u v = absurd (grind (arith, nat_tests))
        tests false false u v = refl

pub not_every : (n : ℕ) (test : ℕ → Bool) (k : ℕ) → k < n → test k ≡ false → every n test ≡ false
not_every n test k l h = by (every n test) refl
  where
    by : (b : Bool) → every n test ≡ b → b ≡ false
    by true e = let x = sym (every-at n test k e l) ∙ h in cc
    by false e = refl

pub all_wait : (s : Setup) (items : ℕ → Item) (g first : ℕ) → first ≡ g * group_size s → ((k : ℕ) → k < group_size s → is_alike items (first + k) first ≡ true) → may_go s items g ≡ true
unfolding may_go
all_wait s items g first e h =
    every-by (group_size s) (λ k. is_alike items (member s g k) (member s g 0)) (λ k l. subst (λ n. is_alike items (n + k) (n + 0) ≡ true) e (ap (is_alike items (first + k)) (omega arith) ∙ h k l))

pub one_does_not : (s : Setup) (items : ℕ → Item) (g first k : ℕ) → first ≡ g * group_size s → k < group_size s → is_alike items (first + k) first ≡ false → may_go s items g ≡ false
unfolding may_go
one_does_not s items g first k e l h =
    not_every (group_size s) (λ k. is_alike items (member s g k) (member s g 0)) k l (subst (λ n. is_alike items (n + k) (n + 0) ≡ false) e (ap (is_alike items (first + k)) (omega arith) ∙ h))

among_group : (i g n : ℕ) → 0 < n → is_among (g * n) n i ≡ nat_eq (i / n) g
among_group i g n some = by (nat_le (g * n) i) (nat_lt i (g * n + n)) (nat_eq (i / n) g) refl refl refl
  where
    whole : i / n * n + i % n ≡ i
    whole = omega arith

    small : i % n < n
    small = omega arith

    quotient : (k : ℕ) → k < n → (g * n + k) / n ≡ g
    quotient k h = grind arith

    by : (a b c : Bool) → nat_le (g * n) i ≡ a → nat_lt i (g * n + n) ≡ b → nat_eq (i / n) g ≡ c → (a && b) ≡ c
    by true true true p q r = refl
    by true true false p q r =
        let low : g * n ≤ i = grind (arith, nat_tests) in
        let high : i < g * n + n = grind (arith, nat_tests) in
        let k : i - g * n < n = omega (arith, low, high) in
        let e : g * n + (i - g * n) ≡ i = omega (arith, low) in
        let same : i / n ≡ g = ap (λ m. m / n) (sym e) ∙ quotient (i - g * n) k in
        absurd (grind (arith, nat_tests))
    by true false true p q r =
        let same : i / n ≡ g = grind (arith, nat_tests) in
        let e : g * n + i % n ≡ i = ap (λ m. m * n + i % n) (sym same) ∙ whole in
        absurd (let high : i < g * n + n = omega (arith, e, small) in grind (arith, nat_tests))
    by true false false p q r = refl
    by false b true p q r =
        let same : i / n ≡ g = grind (arith, nat_tests) in
        let e : g * n + i % n ≡ i = ap (λ m. m * n + i % n) (sym same) ∙ whole in
        absurd (let low : g * n ≤ i = omega (arith, e) in grind (arith, nat_tests))
    by false b false p q r = refl

waiting : (st : Status) → waits st ≡ true → st ≡ Waiting
waiting Running h = cc
waiting Waiting h = refl
waiting Ended h = cc
waiting (Stopped f at) h = cc

pub passes_so : (s : Setup) (i : ℕ) (it : Item) → it.status ≡ Waiting → past_barrier it ≡ past s i it
unfolding ask
passes_so s i it h = ap (λ st. moved it (by_status s i it st) (pos 0)) (sym h)

-- all members of a group that may go wait
pub member_waits : (s : Setup) (items : ℕ → Item) (g i : ℕ) → 0 < group_size s → may_go s items g ≡ true → group_of s i ≡ g → (items i).status ≡ Waiting
unfolding may_go
member_waits s items g i some h e =
    let l : i % group_size s < group_size s = omega arith in
    let m : member s g (i % group_size s) ≡ i = ap (λ x. member s x (i % group_size s)) (sym e) ∙ omega arith in
    let t = every-at (group_size s) (λ k. is_alike items (member s g k) (member s g 0)) (i % group_size s) h l in
    ap (λ j. (items j).status) (sym m) ∙ waiting (items (member s g (i % group_size s))).status (both-true (waits (items (member s g (i % group_size s))).status) _ t).0

pub lets_go : (s : Setup) (g first : ℕ) (w : World) (new : ℕ → Item) → 0 < group_size s → first ≡ g * group_size s → may_go s w.items g ≡ true
    → ((i : ℕ) → new i ≡ cond (is_among first (group_size s) i) (past_barrier (w.items i)) (w.items i))
    → the_world w.memory new w.history ≡ released s g w
unfolding released
lets_go s g first w new some e h n = ap (λ f. the_world w.memory f w.history) (fun_ext at)
  where
    at : (i : ℕ) → new i ≡ cond (nat_eq (group_of s i) g) (past s i (w.items i)) (w.items i)
    at i = n i ∙ ap (λ b. cond b (past_barrier (w.items i)) (w.items i)) (ap (λ x. is_among x (group_size s) i) e ∙ among_group i g (group_size s) some) ∙ by (nat_eq (group_of s i) g) refl
      where
        by : (b : Bool) → nat_eq (group_of s i) g ≡ b → cond b (past_barrier (w.items i)) (w.items i) ≡ cond b (past s i (w.items i)) (w.items i)
        by true p = passes_so s i (w.items i) (member_waits s w.items g i some h (grind (arith, nat_tests)))
        by false p = refl

pub released_proper : (s : Setup) (g : ℕ) (w v : World) → v ≡ released s g w → ((i : ℕ) → is_proper_left (w.items i).left ≡ true) → (i : ℕ) → is_proper_left (v.items i).left ≡ true
unfolding released
released_proper s g w v e h i = ap (λ (x : World). is_proper_left (x.items i).left) e ∙ by (nat_eq (group_of s i) g)
  where
    by : (b : Bool) → is_proper_left (cond b (past s i (w.items i)) (w.items i)).left ≡ true
    by true = keeps_proper s i (w.items i) (pos 0) (h i)
    by false = h i

pub no_group : (s : Setup) (w : World) (g : ℕ) → group_count s ≤ g → happens s w (Release g) ≡ None
unfolding happens
no_group s w g h = by (nat_lt g (group_count s)) refl
  where
    by : (b : Bool) → nat_lt g (group_count s) ≡ b → guarded (b && may_go s w.items g) (Some (released s g w)) ≡ None
    by true e = absurd (grind (arith, nat_tests))
    by false e = refl

pub not_alike : (s : Setup) (w : World) (g : ℕ) → may_go s w.items g ≡ false → happens s w (Release g) ≡ None
unfolding happens
not_alike s w g h = rw h (by (nat_lt g (group_count s)))
  where
    by : (b : Bool) → guarded (b && false) (Some (released s g w)) ≡ None
    by true = refl
    by false = refl

pub release_answers : (s : Setup) (w v : World) (g : ℕ) → g < group_count s → may_go s w.items g ≡ true → v ≡ released s g w → Answers s (Release g) w v answers.Done
unfolding happens
release_answers s w v g l h e = (rw (lt-ltb g (group_count s) l, h) (ap Some (sym e)), λ f at x. x)
