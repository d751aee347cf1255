-- What every list left keeps, whatever the item's variables are.
use Rattle.std.proofs.Common.{◌≡◌, ℕ, ◌+◌, arith, Bool, true, false, nat_lt, List, [], ◌∷◌, Option, Some, None, refl, ap, ◌∙◌, subst}
use Rattle.semantics.specs.Core.{If, Statements, none, one}
use Rattle.semantics.specs.Item.{Entry, enter}
use Rattle.arrivals.specs.Loops.{has_barrier, have_barrier, first_of, unmet, unmet_one}
use Rattle.arrivals.specs.Points.{Has, Point, points, points_one, has_loop, have_loop, IsFormed, AreFormed, join, Left, fresh}
use Rattle.arrivals.proofs.Tests.{or_left, or_right, neither}
use Rattle.arrivals.proofs.Counting.{Counts, Fits, FitsAll, fits-enter, own, owned, owned-enter, own-have}
use Rattle.arrivals.proofs.Joined.{has_left, has_right}

-- no loop without a barrier has turned
abbrev pub Settled : List Entry → Type 0
Settled [] = Unit {0}
Settled (e ∷ r) = (has_barrier e.statement ≡ false → e.turns ≡ 0) × Settled r

-- none has turned behind a statement that holds a barrier
abbrev pub Calm : List Entry → Type 0
Calm [] = Unit {0}
Calm (e ∷ r) = (has_barrier e.statement ≡ true → Settled r) × Calm r

-- no loop of a statement stands behind it once more
abbrev pub Separate : List Entry → Type 0
Separate [] = Unit {0}
Separate (e ∷ r) = IsFormed e.statement × (((k : ℕ) → has_loop k e.statement ≡ true → owned k r ≡ false) × Separate r)

-- a loop has turned
abbrev pub has_turned : ℕ → Bool
has_turned t = nat_lt 0 t

pub turned-once_more : (t : ℕ) → has_turned (t + 1) ≡ true
turned-once_more t = grind arith

-- what is left, without turns
abbrev pub bare : List Entry → List Left
bare [] = []
bare (e ∷ r) = record { statement = e.statement; again = has_turned e.turns } ∷ bare r

-- each loop and barrier of what is left is a point of the kernel, with what is left behind it
abbrev pub Covered : List Point → List Entry → Type 0
Covered all [] = Unit {0}
Covered all (e ∷ r) = ((p : Point) → Has p (points_one e.statement (bare r)) → Has p all) × Covered all r

-- each loop with a barrier meets one on each way through
abbrev pub Met : List Entry → Type 0
Met [] = Unit {0}
Met (e ∷ r) = (unmet_one e.statement ≡ None) × Met r

pub first_none : (a b : Option ℕ) → first_of a b ≡ None → a ≡ None
first_none None b h = refl
first_none (Some n) b h = cc

pub second_none : (a b : Option ℕ) → first_of a b ≡ None → b ≡ None
second_none None b h = h
second_none (Some n) b h = cc

met-enter : (ss : Statements) (r : List Entry) → unmet ss ≡ None → Met r → Met (enter ss r)
met-enter none r f h = h
met-enter (one s ss) r f h = (first_none (unmet_one s) (unmet ss) f, met-enter ss r (second_none (unmet_one s) (unmet ss) f) h)

pub bare-enter : (ss : Statements) (r : List Entry) → bare (enter ss r) ≡ join ss (bare r)
bare-enter none r = refl
bare-enter (one s ss) r = ap (λ left. fresh s ∷ left) (bare-enter ss r)

pub settled-enter : (ss : Statements) (r : List Entry) → Settled r → Settled (enter ss r)
settled-enter none r h = h
settled-enter (one s ss) r h = ((λ e. refl), settled-enter ss r h)

calm-enter : (ss : Statements) (r : List Entry) → (have_barrier ss ≡ true → Settled r) → Calm r → Calm (enter ss r)
calm-enter none r f h = h
calm-enter (one s ss) r f h = ((λ e. settled-enter ss r (f (or_left (has_barrier s) (have_barrier ss) e))), calm-enter ss r (λ e. f (or_right (has_barrier s) (have_barrier ss) e)) h)

separate-enter : (ss : Statements) (r : List Entry) → AreFormed ss → ((k : ℕ) → have_loop k ss ≡ true → owned k r ≡ false) → Separate r → Separate (enter ss r)
separate-enter none r d f h = h
separate-enter (one s ss) r d f h = (
  d.0,
  (
    (λ k e. owned-enter k ss r ∙ neither (own k ss) (owned k r) (own-have k ss (d.1.1.loops k e)) (f k (or_left (has_loop k s) (have_loop k ss) e))),
    separate-enter ss r d.1.0 (λ k e. f k (or_right (has_loop k s) (have_loop k ss) e)) h,
  ),
)

covered-enter : (all : List Point) (ss : Statements) (r : List Entry) → ((p : Point) → Has p (points ss (bare r)) → Has p all) → Covered all r → Covered all (enter ss r)
covered-enter all none r f h = h
covered-enter all (one s ss) r f h = (
  (λ p k. f p (has_left p (points_one s (join ss (bare r))) (points ss (bare r)) (subst (λ b. Has p (points_one s b)) (bare-enter ss r) k))),
  covered-enter all ss r (λ p k. f p (has_right p (points_one s (join ss (bare r))) (points ss (bare r)) k)) h,
)

pub record Controlled (all : List Point) (c : Counts) (left : List Entry) : Type 0 where
  pub fits : Fits c left
  pub calm : Calm left
  pub separate : Separate left
  pub covered : Covered all left
  pub met : Met left

pub nothing_left : (all : List Point) (c : Counts) → Controlled all c []
nothing_left all c = record { fits = tt; calm = tt; separate = tt; covered = tt; met = tt }

-- past the statement in front
pub controlled-rest : (all : List Point) (c : Counts) (e : Entry) (r : List Entry) → Controlled all c (e ∷ r) → Controlled all c r
controlled-rest all c e r h = record { fits = h.fits.1; calm = h.calm.1; separate = h.separate.1.1; covered = h.covered.1; met = h.met.1 }

-- statements that are new in front
pub controlled-enter : (all : List Point) (c : Counts) (ss : Statements) (r : List Entry) → FitsAll c ss → (have_barrier ss ≡ true → Settled r) → AreFormed ss → ((k : ℕ) → have_loop k ss ≡ true → owned k r ≡ false) → ((p : Point) → Has p (points ss (bare r)) → Has p all) → unmet ss ≡ None → Controlled all c r → Controlled all c (enter ss r)
controlled-enter all c ss r f t d o p m h = record {
  fits = fits-enter c ss r f h.fits;
  calm = calm-enter ss r t h.calm;
  separate = separate-enter ss r d o h.separate;
  covered = covered-enter all ss r p h.covered;
  met = met-enter ss r m h.met;
}

module _ (all : List Point) (c : Counts) (n : ℕ) (e : _) (yeses noes : Statements) (t : ℕ) (r : List Entry) (h : Controlled all c (record { statement = If n e yeses noes; turns = t } ∷ r)) where
  pub controlled-taken : Controlled all c (enter yeses r)
  controlled-taken = controlled-enter all c yeses r h.fits.0.1.0 (λ b. h.calm.0 (or_left (have_barrier yeses) (have_barrier noes) b)) h.separate.0.0
      (λ k q. h.separate.1.0 k (or_left (have_loop k yeses) (have_loop k noes) q)) (λ p k. h.covered.0 p (has_left p (points yeses (bare r)) (points noes (bare r)) k)) (first_none (unmet yeses) (unmet noes) h.met.0) (controlled-rest all c _ r h)

  pub controlled-skipped : Controlled all c (enter noes r)
  controlled-skipped = controlled-enter all c noes r h.fits.0.1.1 (λ b. h.calm.0 (or_right (have_barrier yeses) (have_barrier noes) b)) h.separate.0.1
      (λ k q. h.separate.1.0 k (or_right (have_loop k yeses) (have_loop k noes) q)) (λ p k. h.covered.0 p (has_right p (points yeses (bare r)) (points noes (bare r)) k)) (second_none (unmet yeses) (unmet noes) h.met.0) (controlled-rest all c _ r h)
