-- What is to be shown of the trees: of one item at each arrival, of two items at each pair of leaves and of accesses.
use Rattle.std.specs.Prelude.{ℕ, ◌<◌, ◌≤◌, ℤ, pos, Bool, true, false, ◌&&◌, cond, nat_eq, List, [], Option, Some, None, ◌≡◌, ◌≢◌, ◌⊎◌}
use Rattle.semantics.specs.Core.{number}
use Rattle.semantics.specs.Conditions.{Content}
use Rattle.semantics.specs.Setup.{Setup, group_of, item_count}
use Rattle.semantics.specs.Solo.{opening, after}
use Rattle.semantics.specs.Contents.{IsHonest}
use Rattle.arrivals.specs.Loops.{unmet}
use Rattle.arrivals.specs.Points.{Has, Point, points, AreFormed, IsNumbered}
use Rattle.arrivals.specs.Trees.{Turns, Stop, AtBarrier, AtHead, AtEnd, End, IsEnd}
use Rattle.arrivals.specs.Places.{Place, places, tree, own_place, same_numbers}
use Rattle.arrivals.specs.Paths.{Follows, Same, Held, held, Ranking}

-- what is noted of the places: of a barrier the slots that two items have alike there, of a loop what ranks it, and of a place a fact of
-- one item, who has these of its own at the anchor and here; and what lines of the conditions say that buffers hold
pub record Notes : Type 0 where
  pub same : ℕ → List ℕ
  pub rank : Ranking
  pub line : Place → (item : ℕ) → (anchor here : Held) → Bool
  pub contents : List Content

abbrev pub Line : Notes → Place → (item : ℕ) → (anchor here : Held) → Type 0
Line k p i anchor here = k.line p i anchor here ≡ true

-- an item has come along a path from a place
pub record Came (s : Setup) (k : Notes) (p : Place) (i : ℕ) (path : _) (anchor here : Held) : Type 0 where
  pub root : Held
  pub line : Line k p i anchor root
  pub own : p.head ≡ None → root ≡ anchor
  pub follows : Follows s k.contents k.rank i path root here

-- two items of one group
pub record Two (s : Setup) (i j : ℕ) : Type 0 where
  pub first : i < item_count s
  pub second : j < item_count s
  pub distinct : i ≢ j
  pub group : group_of s i ≡ group_of s j

-- an anchor's slots that are alike
abbrev pub alike_at : Notes → Option Point → List ℕ
alike_at k None = []
alike_at k (Some p) = k.same (number p.statement)

-- what a pair of leaves owes
pub data Owed : Type 0 where
  Nothing : Owed
  Agreement : (barrier : ℕ) → Owed
  Never : Owed

abbrev pub same_turns : Turns → Turns → Bool
same_turns None v = false
same_turns (Some l) None = false
same_turns (Some l) (Some m) = same_numbers l m

abbrev pub owed : Stop → Stop → (same : Bool) → Owed
owed AtEnd AtEnd b = Nothing
owed (AtBarrier n) (AtBarrier m) b = cond (nat_eq n m && b) (Agreement n) Never
owed t u b = Never

-- two items of one group, alike at the anchor, that have come to both
pub record Both (s : Setup) (k : Notes) (p q : Place) (u v : End) (here there : Held) : Type 0 where
  pub i : ℕ
  pub j : ℕ
  pub two : Two s i j
  pub a : Held
  pub b : Held
  pub same : Same (alike_at k p.anchor) a.variables b.variables
  pub one : Came s k p i u.path a here
  pub other : Came s k q j v.path b there

abbrev pub Shows : Setup → Notes → (p q : Place) (u v : End) → Owed → Type 0
Shows s k p q u v Nothing = Unit {0}
Shows s k p q u v (Agreement n) = (here there : Held) → Both s k p q u v here there → Same (k.same n) here.variables there.variables
Shows s k p q u v Never = (here there : Held) → Both s k p q u v here there → ⊥

abbrev pub PairShown : Setup → Notes → (p q : Place) (u v : End) → Type 0
PairShown s k p q u v = Shows s k p q u v (owed u.stop v.stop (same_turns u.turns v.turns))

abbrev pub IsHead : Stop → Type 0
IsHead (AtBarrier n) = ⊥
IsHead (AtHead n a) = Unit {0}
IsHead AtEnd = ⊥

-- the place is the head of that loop
abbrev pub HasHead : ℕ → Option Point → Type 0
HasHead n None = ⊥
HasHead n (Some h) = number h.statement ≡ n

-- no loop has been entered
abbrev pub at_opening : Setup → ℕ → Held
at_opening s i = held (opening s i).variables (λ n. pos 0)

-- everything that is owed but of accesses
pub record Shown (s : Setup) (k : Notes) : Type 0 where
  pub opens : (i : ℕ) → i < item_count s → Line k (own_place None) i (at_opening s i) (at_opening s i)
  pub at_heads : (p q : Place) (u : End) (n : ℕ) (again : Bool) → Has p (places s.kernel.body) → Has q (places s.kernel.body) → q.anchor ≡ p.anchor → HasHead n q.head → IsEnd u [] (tree s.kernel.body p) → u.stop ≡ AtHead n again
      → (i : ℕ) (anchor here : Held) → i < item_count s → Came s k p i u.path anchor here → Line k q i anchor here
  pub at_barriers : (p : Place) (b : Point) (u : End) → Has p (places s.kernel.body) → Has (own_place (Some b)) (places s.kernel.body) → IsEnd u [] (tree s.kernel.body p) → u.stop ≡ AtBarrier (number b.statement)
      → (i : ℕ) (anchor here : Held) → i < item_count s → Came s k p i u.path anchor here → Line k (own_place (Some b)) i here here
  -- one of the two orders is enough
  pub pairs : (p q : Place) (u v : End) → Has p (places s.kernel.body) → Has q (places s.kernel.body) → p.anchor ≡ q.anchor → IsEnd u [] (tree s.kernel.body p) → IsEnd v [] (tree s.kernel.body q) → (IsHead u.stop → ⊥) → (IsHead v.stop → ⊥)
      → PairShown s k p q u v ⊎ PairShown s k q p v u

-- what a kernel has to be: the numbers of its loops and barriers tell them apart, exits are of the loop around, and each loop with a
-- barrier meets one on each way through
pub record IsSound (s : Setup) : Type 0 where
  pub formed : AreFormed s.kernel.body
  pub numbered : IsNumbered (points s.kernel.body [])
  pub met : unmet s.kernel.body ≡ None

-- no solo run has more steps whose loads are answered by numbers that the lines let buffers hold
abbrev pub IsShort : Setup → List Content → (bound : ℕ) → Type 0
IsShort s cs bound = (i : ℕ) (ws : List ℤ) → i < item_count s → IsHonest s cs i ws → (after s i ws).steps ≤ bound
