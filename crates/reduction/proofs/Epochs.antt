-- Items of one group that have passed equally many barriers have equal epochs.
use Rattle.std.proofs.Common.{◌≡◌, ◌≢◌, ℕ, ◌+◌, ◌<◌, ℤ, List, [], ◌∷◌, get_or, refl, sym, ap, ap₂, ◌∙◌, arith}
use Rattle.semantics.specs.Conditions.{Content}
use Rattle.semantics.specs.Setup.{Setup, group_of, item_count}
use Rattle.semantics.specs.Item.{Item}
use Rattle.semantics.specs.Solo.{after, opening, passed}
use Rattle.semantics.specs.Contents.{IsHonest}
use Rattle.semantics.specs.Safety.{IsPairSafeWithin}
use Rattle.semantics.proofs.Steps.{Passed, over-not_waiting}
use Rattle.semantics.proofs.Turns.{Turn, Steps, Passes, Stays, turn}

-- the same epochs of both spaces
pub record Level (a b : Item) : Type 0 where
  pub local : a.local_epoch ≡ b.local_epoch
  pub global : a.global_epoch ≡ b.global_epoch

-- a move that passes nothing changes no epoch; one that passes a barrier raises both by its flags
pub data Moved (s : Setup) (i : ℕ) (z : ℤ) (ws : List ℤ) : Type 0 where
  Keeps : passed s i (z ∷ ws) ≡ passed s i ws → Level (after s i (z ∷ ws)) (after s i ws) → Moved s i z ws
  Raises : Passed (after s i ws) (after s i (z ∷ ws)) → passed s i (z ∷ ws) ≡ passed s i ws + 1 → Moved s i z ws

pub moved_on : (s : Setup) (i : ℕ) (z : ℤ) (ws : List ℤ) → Moved s i z ws
moved_on s i z ws = go (turn s i (after s i ws) z)
  where
    go : Turn (after s i ws) (after s i (z ∷ ws)) → Moved s i z ws
    go (Steps n) = Keeps (rw n.was (omega arith)) (record { local = n.local; global = n.global })
    go (Passes q) = Raises q (rw q.was refl)
    go (Stays o e) = Keeps (rw (over-not_waiting (after s i ws).status o) (omega arith)) (record { local = ap (λ (it : Item). it.local_epoch) e; global = ap (λ (it : Item). it.global_epoch) e })

none_on : (s : Setup) (i j : ℕ) (y : ℤ) (vs : List ℤ) → 0 ≡ passed s j (y ∷ vs) → (0 ≡ passed s j vs → Level (after s i []) (after s j vs)) → Moved s j y vs → Level (after s i []) (after s j (y ∷ vs))
none_on s i j y vs h before (Keeps e l) =
    let r = before (h ∙ e) in
    record { local = r.local ∙ sym l.local; global = r.global ∙ sym l.global }
none_on s i j y vs h before (Raises q e) = absurd (omega arith)

-- two items that have passed no barrier are level
none_passed : (s : Setup) (i j : ℕ) (vs : List ℤ) → 0 ≡ passed s j vs → Level (after s i []) (after s j vs)
unfolding opening
none_passed s i j [] h = record { local = refl; global = refl }
none_passed s i j (y ∷ vs) h = none_on s i j y vs h (none_passed s i j vs) (moved_on s j y vs)

-- the pair of items that the rest is about
pub record Pair (cs : List Content) (s : Setup) (bound : ℕ) (i j : ℕ) : Type 0 where
  pub safe : IsPairSafeWithin cs s bound
  pub first : i < item_count s
  pub second : j < item_count s
  pub distinct : i ≢ j
  pub group : group_of s i ≡ group_of s j

-- both have just passed a barrier
both_raised : {cs : List Content} (s : Setup) (bound : ℕ) (i j : ℕ) (p : Pair cs s bound i j) (z y : ℤ) (ws vs : List ℤ) → IsHonest s cs i ws → IsHonest s cs j vs → Passed (after s i ws) (after s i (z ∷ ws)) → Passed (after s j vs) (after s j (y ∷ vs)) → passed s i ws ≡ passed s j vs → Level (after s i ws) (after s j vs) → Level (after s i (z ∷ ws)) (after s j (y ∷ vs))
both_raised {cs} s bound i j p z y ws vs hw hv a b e l =
    let t = p.safe.agree i j p.first p.second p.distinct p.group ws vs hw hv a.was b.was e in
    record {
      local = a.local ∙ ap₂ (λ m n. m + n) l.local (ap (λ k. get_or k 2 0) t) ∙ sym b.local;
      global = a.global ∙ ap₂ (λ m n. m + n) l.global (ap (λ k. get_or k 3 0) t) ∙ sym b.global;
    }

second_on : {cs : List Content} (s : Setup) (bound : ℕ) (i j : ℕ) (p : Pair cs s bound i j) (z y : ℤ) (ws vs : List ℤ) → IsHonest s cs i ws → IsHonest s cs j vs → Passed (after s i ws) (after s i (z ∷ ws)) → passed s i ws + 1 ≡ passed s j (y ∷ vs) → (passed s i ws ≡ passed s j vs → Level (after s i ws) (after s j vs)) → (passed s i ws + 1 ≡ passed s j vs → Level (after s i (z ∷ ws)) (after s j vs)) → Moved s j y vs → Level (after s i (z ∷ ws)) (after s j (y ∷ vs))
second_on {cs} s bound i j p z y ws vs hw hv a h earlier before (Keeps e l) =
    let r = before (h ∙ e) in
    record { local = r.local ∙ sym l.local; global = r.global ∙ sym l.global }
second_on {cs} s bound i j p z y ws vs hw hv a h earlier before (Raises b e) =
    let same : passed s i ws ≡ passed s j vs = omega arith in
    both_raised s bound i j p z y ws vs hw hv a b same (earlier same)

-- where the first has just passed a barrier, the second stands behind one that it passed with it
second : {cs : List Content} (s : Setup) (bound : ℕ) (i j : ℕ) (p : Pair cs s bound i j) (z : ℤ) (ws : List ℤ) → IsHonest s cs i ws → Passed (after s i ws) (after s i (z ∷ ws)) → ((vs : List ℤ) → IsHonest s cs j vs → passed s i ws ≡ passed s j vs → Level (after s i ws) (after s j vs)) → (vs : List ℤ) → IsHonest s cs j vs → passed s i ws + 1 ≡ passed s j vs → Level (after s i (z ∷ ws)) (after s j vs)
second {cs} s bound i j p z ws hw a earlier [] hv h = absurd (omega arith)
second {cs} s bound i j p z ws hw a earlier (y ∷ vs) hv h =
    second_on s bound i j p z y ws vs hw hv.0 a h (earlier vs hv.0) (second s bound i j p z ws hw a earlier vs hv.0) (moved_on s j y vs)

first_on : {cs : List Content} (s : Setup) (bound : ℕ) (i j : ℕ) (p : Pair cs s bound i j) (z : ℤ) (ws vs : List ℤ) → IsHonest s cs i ws → IsHonest s cs j vs → ((us : List ℤ) → IsHonest s cs j us → passed s i ws ≡ passed s j us → Level (after s i ws) (after s j us)) → passed s i (z ∷ ws) ≡ passed s j vs → Moved s i z ws → Level (after s i (z ∷ ws)) (after s j vs)
first_on {cs} s bound i j p z ws vs hw hv earlier h (Keeps e l) =
    let r = earlier vs hv (sym e ∙ h) in
    record { local = l.local ∙ r.local; global = l.global ∙ r.global }
first_on {cs} s bound i j p z ws vs hw hv earlier h (Raises a e) = second s bound i j p z ws hw a earlier vs hv (sym e ∙ h)

-- two items of a group that have passed equally many barriers are level
pub epochs : {cs : List Content} (s : Setup) (bound : ℕ) (i j : ℕ) (p : Pair cs s bound i j) (ws vs : List ℤ) → IsHonest s cs i ws → IsHonest s cs j vs → passed s i ws ≡ passed s j vs → Level (after s i ws) (after s j vs)
epochs {cs} s bound i j p [] vs hw hv h = none_passed s i j vs h
epochs {cs} s bound i j p (z ∷ ws) vs hw hv h = first_on s bound i j p z ws vs hw.0 hv (λ us hu. epochs s bound i j p ws us hw.0 hu) h (moved_on s i z ws)
