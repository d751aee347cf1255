-- So items of one group wait with equal lists left, and one that has ended has arrived at least as often as the others.
use Rattle.std.proofs.Common.{◌≡◌, ℕ, zero, suc, ◌+◌, ◌<◌, ◌≤◌, ℤ, Bool, true, List, [], ◌∷◌, Option, refl, sym, ap, ap₂, ◌∙◌, inl, inr, subst, arith}
use Rattle.std.specs.Prelude.{◌⊎◌}
use Rattle.std.proofs.lemmas.Bool.{cases_lt}
use Rattle.semantics.specs.Word.{Word}
use Rattle.semantics.specs.Core.{Statement, Set, Store, If, Loop, Barrier, Return, Break, Continue, number}
use Rattle.semantics.specs.Setup.{Setup, item_count}
use Rattle.semantics.specs.Item.{Entry, Status, Running, Waiting, Ended, Stopped, trail}
use Rattle.semantics.specs.Solo.{after, passed, arrived, is_waiting}
use Rattle.semantics.specs.Contents.{IsHonest}
use Rattle.semantics.specs.Safety.{WaitAlikeWithin, EndsLastWithin}
use Rattle.arrivals.specs.Points.{Has, Point, point, fresh}
use Rattle.arrivals.specs.Trees.{AtBarrier, AtEnd}
use Rattle.arrivals.specs.Places.{is_barrier}
use Rattle.arrivals.specs.Paths.{Held, held}
use Rattle.arrivals.specs.Shown.{Notes, Two, Shown, IsSound}
use Rattle.arrivals.proofs.Tests.{true_false}
use Rattle.arrivals.proofs.Counting.{Counts, counted}
use Rattle.arrivals.proofs.Controlled.{bare}
use Rattle.arrivals.proofs.Turning.{dressed, left-dressed}
use Rattle.arrivals.proofs.Standing.{all_points, AreLoops, Arrives, Visited}
use Rattle.arrivals.proofs.Placing.{IsAtBarrier, Stands, Placed, Somewhere}
use Rattle.arrivals.proofs.Runs.{is_placed}
use Rattle.arrivals.proofs.Meetings.{meet, loops-same, level}

-- an item at a barrier: how it came there, and what is left
pub record Waits (s : Setup) (k : Notes) (i n : ℕ) (left : List Entry) (vars : List Word) : Type 0 where
  pub anchor : Option Point
  pub base : Counts
  pub start : Held
  pub visited : Visited s k i n anchor base start
  pub ls : List Statement
  pub loops : AreLoops s ls
  pub barrier : Point
  pub is_point : Has barrier (all_points s)
  pub is_a_barrier : is_barrier barrier.statement ≡ true
  pub ranks : ℕ → ℤ
  pub arrives : Arrives s k i anchor start ls (AtBarrier (number barrier.statement)) (held vars ranks)
  pub left_is : left ≡ dressed (counted base ls) (fresh barrier.statement ∷ barrier.rest)

waits_at : (s : Setup) (k : Notes) (i n m : ℕ) (l g : Bool) (t : ℕ) (r : List Entry) (vars : List Word) → Stands s k i n (record { statement = Barrier m l g; turns = t } ∷ r) vars → Waits s k i n (record { statement = Barrier m l g; turns = t } ∷ r) vars
waits_at s k i n m l g t r vars h = record {
  anchor = h.anchor;
  base = h.base;
  start = h.start;
  visited = h.visited;
  ls = h.ls;
  loops = h.loops;
  barrier = point (Barrier m l g) (bare r);
  is_point = h.control.covered.0 (point (Barrier m l g) (bare r)) (inl refl);
  is_a_barrier = refl;
  ranks = h.ranks;
  arrives = record { place = h.place; is_place = h.is_place; of = h.of; leaf = record { stop = AtBarrier m; turns = h.turns; path = h.path }; is_leaf = h.ends (record { stop = AtBarrier m; turns = h.turns; path = h.path }) refl; stops = refl; agrees = h.agrees; came = h.came };
  left_is = left-dressed (counted h.base h.ls) (record { statement = Barrier m l g; turns = t } ∷ r) h.control.fits ((λ q. absurd (true_false true refl q)), h.control.calm.0 refl);
}

waits_by : (s : Setup) (k : Notes) (i n : ℕ) (st : Statement) (t : ℕ) (r : List Entry) (vars : List Word) → is_barrier st ≡ true → Stands s k i n (record { statement = st; turns = t } ∷ r) vars → Waits s k i n (record { statement = st; turns = t } ∷ r) vars
waits_by s k i n (Set m x e) t r vars b h = cc
waits_by s k i n (Store m a site x e) t r vars b h = cc
waits_by s k i n (If m e yeses noes) t r vars b h = cc
waits_by s k i n (Loop m e x u) t r vars b h = cc
waits_by s k i n (Barrier m l g) t r vars b h = waits_at s k i n m l g t r vars h
waits_by s k i n (Return m) t r vars b h = cc
waits_by s k i n (Break m j) t r vars b h = cc
waits_by s k i n (Continue m j) t r vars b h = cc

pub waits : (s : Setup) (k : Notes) (i n : ℕ) (left : List Entry) (vars : List Word) → IsAtBarrier left → Stands s k i n left vars → Waits s k i n left vars
waits s k i n [] vars b h = absurd b
waits s k i n (e ∷ r) vars b h = waits_by s k i n e.statement e.turns r vars b h

-- the n-th anchor of an item that has come to a barrier from there
record Onward (s : Setup) (k : Notes) (i n : ℕ) : Type 0 where
  anchor : Option Point
  base : Counts
  start : Held
  visited : Visited s k i n anchor base start
  ls : List Statement
  barrier : ℕ
  here : Held
  arrives : Arrives s k i anchor start ls (AtBarrier barrier) here

earlier : (s : Setup) (k : Notes) (i n m : ℕ) (anchor : Option Point) (c : Counts) (start : Held) → n < m → Visited s k i m anchor c start → Onward s k i n
earlier s k i n zero anchor c start lt v = absurd (omega (arith, lt))
earlier s k i n (suc m) anchor c start lt v = by (cases_lt n m) (λ less. earlier s k i n m v.from v.base v.first less v.visited)
  where
    there : Onward s k i m
    there = record { anchor = v.from; base = v.base; start = v.first; visited = v.visited; ls = v.ls; barrier = number v.barrier.statement; here = start; arrives = v.arrives }

    by : (n < m) ⊎ (m ≤ n) → (n < m → Onward s k i n) → Onward s k i n
    by (inl less) f = f less
    by (inr more) f = let e : m ≡ n = omega (arith, lt, more) in subst (Onward s k i) e there

somewhere_of : (s : Setup) (k : Notes) (i n : ℕ) (left : List Entry) (vars : List Word) (st : Status) → Placed s k i n left vars st → Somewhere s k i n
somewhere_of s k i n left vars Running h = record { anchor = h.anchor; counts = h.base; start = h.start; visited = h.visited }
somewhere_of s k i n left vars Waiting h = record { anchor = h.1.anchor; counts = h.1.base; start = h.1.start; visited = h.1.visited }
somewhere_of s k i n left vars Ended h = record { anchor = h.1.anchor; counts = h.1.base; start = h.1.start; visited = h.1.visited }
somewhere_of s k i n left vars (Stopped f site) h = h

-- an item that has arrived more often than n times came from its n-th anchor to a barrier
onward_of : (s : Setup) (k : Notes) (i n m : ℕ) (left : List Entry) (vars : List Word) (st : Status) → n < m + is_waiting st → Placed s k i m left vars st → Onward s k i n
onward_of s k i n m left vars Running lt h = let w = somewhere_of s k i m left vars Running h in earlier s k i n m w.anchor w.counts w.start (omega (arith, lt)) w.visited
onward_of s k i n m left vars Ended lt h = let w = somewhere_of s k i m left vars Ended h in earlier s k i n m w.anchor w.counts w.start (omega (arith, lt)) w.visited
onward_of s k i n m left vars (Stopped f site) lt h = let w = somewhere_of s k i m left vars (Stopped f site) h in earlier s k i n m w.anchor w.counts w.start (omega (arith, lt)) w.visited
onward_of s k i n m left vars Waiting lt h = by (cases_lt n m)
  where
    w : Waits s k i m left vars
    w = waits s k i m left vars h.0 h.1

    now : Onward s k i m
    now = record { anchor = w.anchor; base = w.base; start = w.start; visited = w.visited; ls = w.ls; barrier = number w.barrier.statement; here = held vars w.ranks; arrives = w.arrives }

    by : (n < m) ⊎ (m ≤ n) → Onward s k i n
    by (inl less) = earlier s k i n m w.anchor w.base w.start less w.visited
    by (inr more) = let e : m ≡ n = omega (arith, lt, more) in subst (Onward s k i) e now

module _ (s : Setup) (k : Notes) (sound : IsSound s) (shown : Shown s k) (i j : ℕ) (two : Two s i j) where
  both_wait : (n : ℕ) (left other : List Entry) (vars others : List Word) → Waits s k i n left vars → Waits s k j n other others → left ≡ other
  both_wait n left other vars others v w =
      let h = level s k shown sound.numbered n i j two v.anchor w.anchor v.base w.base v.start w.start v.visited w.visited in
      let m = meet s k shown sound.numbered i j two v.anchor v.start w.start v.ls w.ls (AtBarrier (number v.barrier.statement)) (AtBarrier (number w.barrier.statement)) (held vars v.ranks) (held others w.ranks) (λ x. x) (λ x. x) h.same v.arrives
      (subst (λ f. Arrives s k j f w.start w.ls (AtBarrier (number w.barrier.statement)) (held others w.ranks)) (sym h.anchors) w.arrives) in
      let p = sound.numbered v.barrier w.barrier v.is_point w.is_point m.0 in
      let c = ap₂ counted h.counts (loops-same s k shown sound.numbered v.ls w.ls v.loops w.loops m.1.0) in
      v.left_is ∙ ap₂ (λ c (p : Point). dressed c (fresh p.statement ∷ p.rest)) c p ∙ sym w.left_is

  waiting : (ws : List ℤ) (l : ℕ) (is : l < item_count s) → IsHonest s k.contents l ws → (after s l ws).status ≡ Waiting → Waits s k l (passed s l ws) (after s l ws).left (after s l ws).variables
  waiting ws l is fair h =
      let p = subst (Placed s k l (passed s l ws) (after s l ws).left (after s l ws).variables) h (is_placed s k shown l is sound ws fair) in
      waits s k l (passed s l ws) (after s l ws).left (after s l ws).variables p.0 p.1

  pub waits-alike : WaitAlikeWithin k.contents s i j
  waits-alike ws vs fair honest a b e = ap trail (both_wait (passed s i ws) (after s i ws).left (after s j vs).left (after s i ws).variables (after s j vs).variables (waiting ws i two.first fair a) (subst (λ n. Waits s k j n (after s j vs).left (after s j vs).variables) (sym e) (waiting vs j two.second honest b)))

  none_onward : (n : ℕ) (left : List Entry) (vars : List Word) → left ≡ [] → Stands s k i n left vars → Onward s k j n → ⊥
  none_onward n [] vars e v w =
      let h = level s k shown sound.numbered n i j two v.anchor w.anchor v.base w.base v.start w.start v.visited w.visited in
      meet s k shown sound.numbered i j two v.anchor v.start w.start v.ls w.ls AtEnd (AtBarrier w.barrier) (held vars v.ranks) w.here (λ x. x) (λ x. x) h.same
      (record { place = v.place; is_place = v.is_place; of = v.of; leaf = record { stop = AtEnd; turns = v.turns; path = v.path }; is_leaf = v.ends (record { stop = AtEnd; turns = v.turns; path = v.path }) refl; stops = refl; agrees = v.agrees; came = v.came })
      (subst (λ f. Arrives s k j f w.start w.ls (AtBarrier w.barrier) w.here) (sym h.anchors) w.arrives)
  none_onward n (x ∷ r) vars e v w = cc

  pub ends-last : EndsLastWithin k.contents s i j
  ends-last ws vs fair honest a = by (cases_lt (passed s i ws) (arrived s j vs))
    where
      ended : ((after s i ws).left ≡ []) × Stands s k i (passed s i ws) (after s i ws).left (after s i ws).variables
      ended = subst (Placed s k i (passed s i ws) (after s i ws).left (after s i ws).variables) a (is_placed s k shown i two.first sound ws fair)

      by : (passed s i ws < arrived s j vs) ⊎ (arrived s j vs ≤ passed s i ws) → arrived s j vs ≤ arrived s i ws
      by (inl less) = absurd (none_onward (passed s i ws) (after s i ws).left (after s i ws).variables ended.0 ended.1 (onward_of s k j (passed s i ws) (passed s j vs) (after s j vs).left (after s j vs).variables (after s j vs).status less (is_placed s k shown j two.second sound vs honest)))
      by (inr more) = let e = ap is_waiting a in omega (arith, more, e)
