-- How a head is reached through statements that hold no barrier.
use Rattle.std.proofs.Common.{◌≡◌, ℕ, Bool, true, false, ◌&&◌, ◌||◌, refl, inl, inr, eq-eqb}
use Rattle.std.specs.Prelude.{◌⊎◌}
use Rattle.semantics.specs.Core.{Statement, Set, Store, If, Loop, Barrier, Return, Break, Continue, Statements, none, one}
use Rattle.arrivals.specs.Loops.{has_barrier, have_barrier, slips, slip}
use Rattle.arrivals.specs.Points.{jumps_to, jump_to}
use Rattle.arrivals.specs.Trees.{Tree, Turns, Ways, in_body, walk_loop, walk_one, walk, left}
use Rattle.arrivals.specs.Places.{Reach, Meets}
use Rattle.arrivals.proofs.Tests.{or_left, or_right, none_left, none_right, one_of, and_left, and_right}

-- what goes on behind statements that may come through is reached through them
mutual
  slipped_one : (a : Bool) (s : Statement) → has_barrier s ≡ false → slips s ≡ true → (v : Ways) (t : Turns) (h : Reach) → Meets h (v.go t) → Meets h (walk_one true a s v t)
  slipped_one a (Set n x e) c q v t h m = m
  slipped_one a (Store n y site i e) c q v t h m = m
  slipped_one a (If n e yeses noes) c q v t h m = by (one_of (slip yeses) (slip noes) q) (λ y. slipped yeses (none_left (have_barrier yeses) (have_barrier noes) c) y v t h m) (λ y. slipped noes (none_right (have_barrier yeses) (have_barrier noes) c) y v t h m)
    where
      by : (slip yeses ≡ true) ⊎ (slip noes ≡ true) → (slip yeses ≡ true → Meets h (walk true yeses v t)) → (slip noes ≡ true → Meets h (walk true noes v t)) → Meets h (walk_one true a (If n e yeses noes) v t)
      by (inl y) f g = inl (f y)
      by (inr y) f g = inr (g y)
  slipped_one a (Loop n e b u) c q v t h m = by (have_barrier b || have_barrier u) c
    where
      by : (x : Bool) → x ≡ false → Meets h (walk_loop true x (left (Loop n e b u) a) n e (λ t'. walk true b (in_body v.go) t') (λ t'. walk true u (in_body v.go) t') v.go t)
      by true c = cc
      by false c = inr (inr m)
  slipped_one a (Barrier n l g) c q v t h m = cc
  slipped_one a (Return n) c q v t h m = cc
  slipped_one a (Break n k) c q v t h m = cc
  slipped_one a (Continue n k) c q v t h m = cc

  slipped : (ss : Statements) → have_barrier ss ≡ false → slip ss ≡ true → (v : Ways) (t : Turns) (h : Reach) → Meets h (v.go t) → Meets h (walk true ss v t)
  slipped none c q v t h m = m
  slipped (one s ss) c q v t h m = slipped_one false s (none_left (has_barrier s) (have_barrier ss) c) (and_left (slips s) (slip ss) q) (record { go = λ t'. walk true ss v t'; out = v.out; back = v.back }) t h
      (slipped ss (none_right (has_barrier s) (have_barrier ss) c) (and_right (slips s) (slip ss) q) v t h m)

-- how a head is reached: within, or through one of the ways that go on
pub data From (h : Reach) (w : Ways) (t : Turns) (may_slip : Bool) (jumps : ℕ → Bool) (within : Tree) : Type 0 where
  Within : Meets h within → From h w t may_slip jumps within
  ByGo : may_slip ≡ true → Meets h (w.go t) → From h w t may_slip jumps within
  ByOut : (k : ℕ) → jumps k ≡ true → Meets h (w.out k t) → From h w t may_slip jumps within
  ByBack : (k : ℕ) → jumps k ≡ true → Meets h (w.back k t) → From h w t may_slip jumps within

mutual
  calm_one : (a : Bool) (s : Statement) → has_barrier s ≡ false → (w v : Ways) (t : Turns) (h : Reach) → Meets h (walk_one true a s w t) → From h w t (slips s) (λ k. jumps_to k s) (walk_one true a s v t)
  calm_one a (Set n x e) c w v t h m = ByGo refl m
  calm_one a (Store n y site i e) c w v t h m = ByGo refl m
  calm_one a (If n e yeses noes) c w v t h (inl m) = by (calm yeses (none_left (have_barrier yeses) (have_barrier noes) c) w v t h m)
    where
      by : From h w t (slip yeses) (λ k. jump_to k yeses) (walk true yeses v t) → From h w t (slip yeses || slip noes) (λ k. jump_to k yeses || jump_to k noes) (walk_one true a (If n e yeses noes) v t)
      by (Within m) = Within (inl m)
      by (ByGo q m) = ByGo (or_left (slip yeses) (slip noes) q) m
      by (ByOut k j m) = ByOut k (or_left (jump_to k yeses) (jump_to k noes) j) m
      by (ByBack k j m) = ByBack k (or_left (jump_to k yeses) (jump_to k noes) j) m
  calm_one a (If n e yeses noes) c w v t h (inr m) = by (calm noes (none_right (have_barrier yeses) (have_barrier noes) c) w v t h m)
    where
      by : From h w t (slip noes) (λ k. jump_to k noes) (walk true noes v t) → From h w t (slip yeses || slip noes) (λ k. jump_to k yeses || jump_to k noes) (walk_one true a (If n e yeses noes) v t)
      by (Within m) = Within (inr m)
      by (ByGo q m) = ByGo (or_right (slip yeses) (slip noes) q) m
      by (ByOut k j m) = ByOut k (or_right (jump_to k yeses) (jump_to k noes) j) m
      by (ByBack k j m) = ByBack k (or_right (jump_to k yeses) (jump_to k noes) j) m
  calm_one a (Loop n e b u) c w v t h m = by (have_barrier b || have_barrier u) c m (λ k. calm b (none_left (have_barrier b) (have_barrier u) c) (in_body w.go) (in_body v.go) t h k) (λ k. calm u (none_right (have_barrier b) (have_barrier u) c) (in_body w.go) (in_body v.go) t h k)
    where
      inside : (ss : Statements) (within : Tree) → From h (in_body w.go) t (slip ss) (λ k. jump_to k ss) (walk true ss (in_body v.go) t) → (Meets h (walk true ss (in_body v.go) t) → Meets h within) → From h w t true (λ k. false) within
      inside ss within (Within m) f = Within (f m)
      inside ss within (ByGo q m) f = absurd m
      inside ss within (ByOut k j m) f = ByGo refl m
      inside ss within (ByBack k j m) f = absurd m

      by : (x : Bool) → x ≡ false → Meets h (walk_loop true x (left (Loop n e b u) a) n e (λ t'. walk true b (in_body w.go) t') (λ t'. walk true u (in_body w.go) t') w.go t)
          → (Meets h (walk true b (in_body w.go) t) → From h (in_body w.go) t (slip b) (λ k. jump_to k b) (walk true b (in_body v.go) t))
          → (Meets h (walk true u (in_body w.go) t) → From h (in_body w.go) t (slip u) (λ k. jump_to k u) (walk true u (in_body v.go) t))
          → From h w t true (λ k. false) (walk_loop true x (left (Loop n e b u) a) n e (λ t'. walk true b (in_body v.go) t') (λ t'. walk true u (in_body v.go) t') v.go t)
      by true c m fb fu = cc
      by false c (inl m) fb fu = Within (inl m)
      by false c (inr (inl (inl m))) fb fu = inside b _ (fb m) (λ k. inr (inl (inl k)))
      by false c (inr (inl (inr m))) fb fu = inside u _ (fu m) (λ k. inr (inl (inr k)))
      by false c (inr (inr m)) fb fu = ByGo refl m
  calm_one a (Barrier n l g) c w v t h m = cc
  calm_one a (Return n) c w v t h m = absurd m
  calm_one a (Break n k) c w v t h m = ByOut k (eq-eqb k k refl) m
  calm_one a (Continue n k) c w v t h m = ByBack k (eq-eqb k k refl) m

  -- statements without a barrier turn no loop that has one
  pub calm : (ss : Statements) → have_barrier ss ≡ false → (w v : Ways) (t : Turns) (h : Reach) → Meets h (walk true ss w t) → From h w t (slip ss) (λ k. jump_to k ss) (walk true ss v t)
  calm none c w v t h m = ByGo refl m
  calm (one s ss) c w v t h m = by (calm_one false s cs (record { go = λ t'. walk true ss w t'; out = w.out; back = w.back }) (record { go = λ t'. walk true ss v t'; out = v.out; back = v.back }) t h m) (λ k. calm ss css w v t h k)
    where
      cs : has_barrier s ≡ false
      cs = none_left (has_barrier s) (have_barrier ss) c

      css : have_barrier ss ≡ false
      css = none_right (has_barrier s) (have_barrier ss) c

      both : slips s ≡ true → From h w t (slip ss) (λ k. jump_to k ss) (walk true ss v t) → From h w t (slips s && slip ss) (λ k. jumps_to k s || jump_to k ss) (walk true (one s ss) v t)
      both q (Within m) = Within (slipped_one false s cs q (record { go = λ t'. walk true ss v t'; out = v.out; back = v.back }) t h m)
      both q (ByGo r m) = ByGo (rw q r) m
      both q (ByOut k j m) = ByOut k (or_right (jumps_to k s) (jump_to k ss) j) m
      both q (ByBack k j m) = ByBack k (or_right (jumps_to k s) (jump_to k ss) j) m

      by : From h (record { go = λ t'. walk true ss w t'; out = w.out; back = w.back }) t (slips s) (λ k. jumps_to k s) (walk true (one s ss) v t) → (Meets h (walk true ss w t) → From h w t (slip ss) (λ k. jump_to k ss) (walk true ss v t)) → From h w t (slips s && slip ss) (λ k. jumps_to k s || jump_to k ss) (walk true (one s ss) v t)
      by (Within m) f = Within m
      by (ByGo q m) f = both q (f m)
      by (ByOut k j m) f = ByOut k (or_left (jumps_to k s) (jump_to k ss) j) m
      by (ByBack k j m) f = ByBack k (or_left (jumps_to k s) (jump_to k ss) j) m
