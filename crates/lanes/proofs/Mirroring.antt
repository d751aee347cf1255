-- Lane code does what the statements do together.
use Rattle.std.proofs.Common.{ap, ◌≡◌, ℕ, zero, suc, ◌+◌, ◌<◌, ◌++◌, ℤ, List, Bool, true, false, not, cond, length, slice_index_or, slice_set, refl, sym, ap₂, ◌∙◌, inl, inr, subst, arith, ◌&&◌, pos, map}
use Rattle.std.proofs.lemmas.Bool.{cases_eq}
use Rattle.std.proofs.lemmas.List.{get_or-set_same, get_or-set_other, length-set, length-append, length-map}
use Rattle.std.proofs.lemmas.Slice.Zip.{AllZip-long}
use Rattle.semantics.specs.Word.{Word, word, zero_word, is_zero}
use Rattle.semantics.specs.Core.{Term, Statement, Set, Store, If, Loop, Barrier, Return, Break, Continue, Statements, none, one}
use Rattle.semantics.specs.Launch.{IsArgument, Fits}
use Rattle.semantics.specs.Setup.{Setup, group_size}
use Rattle.semantics.specs.Memory.{Cell, Memory, extent}
use Rattle.semantics.specs.Evaluation.{within}
use Rattle.semantics.specs.Rounds.{applied}
use Rattle.lanes.specs.Reckoning.{reckon}
use Rattle.lanes.specs.Together.{Flow, Going, Leaving, Resuming, Gone, is_going, is_leaving, is_resuming, live, flows, back, Lane, Group, Mask, both, but, some, value, each, sets, stored_at, passes, overlays, own_of, round_done, turning, together, all_together, opening_lane, opening_group, stores_together}
use Rattle.lanes.specs.Together as together_
use Rattle.lanes.specs.Machine.{exits, returns, live_rows, Registers, put_word, all_operated, Row, Machine, reckoned, on_rows, assigned, put_by, holding, overlay_of, fenced, repeating, executed, all_executed, opening_machine, stores_executed}
use Rattle.lanes.specs.Lowering.{term, statement, block, Within, AllWithin, TermWithin, slots_of, lowered as lowered_kernel}
use Rattle.lanes.proofs.Terms.{Has, Works, lowered, operated-append, put_word-other, put_word-same}

-- a lane and its row
pub record Alike (n : ℕ) (lane : Lane) (row : Row) : Type 0 where
  pub own : row.own ≡ lane.own
  pub has : Has n lane.variables row.registers
  pub flow : row.flow ≡ lane.flow
  pub long : length lane.variables ≡ n

pub record Mirrors (n : ℕ) (w : Group) (v : Machine) : Type 0 where
  pub memory : v.memory ≡ w.memory
  pub log : v.log ≡ w.log
  pub rows : (i : ℕ) → Alike n (w.lanes i) (v.rows i)

either-alike : (n : ℕ) (b : Bool) (a a' : Lane) (r r' : Row) → Alike n a r → Alike n a' r' → Alike n (cond b a a') (cond b r r')
either-alike n true a a' r r' h k = h
either-alike n false a a' r r' h k = k

each-mirrors : (n : ℕ) (on on' : Mask) (f : ℕ → Lane → Lane) (h : ℕ → Row → Row) (w : Group) (v : Machine) → on ≡ on' → Mirrors n w v → ((i : ℕ) → Alike n (f i (w.lanes i)) (h i (v.rows i))) → Mirrors n (each on f w) (on_rows on' h v)
each-mirrors n on on' f h w v e m go = subst (λ p. Mirrors n (each on f w) (on_rows p h v)) e
    (record { memory = m.memory; log = m.log; rows = λ i. either-alike n (on i) (f i (w.lanes i)) (w.lanes i) (h i (v.rows i)) (v.rows i) (go i) (m.rows i) })

live-same : (n : ℕ) (on : Mask) (w : Group) (v : Machine) → Mirrors n w v → live on w ≡ live_rows on v
live-same n on w v m = λ j i. on i && is_going (sym (m.rows i).flow j)

module _ (s : Setup) (n : ℕ) where
  sees : (w : Group) (v : Machine) → Mirrors n w v → (i : ℕ) → applied (v.rows i).own v.memory ≡ applied (w.lanes i).own w.memory
  sees w v m i = ap₂ applied (m.rows i).own m.memory

  -- the operations of a term
  works : (e : Term) (w : Group) (v : Machine) (i : ℕ) → TermWithin n e → Mirrors n w v → Works n (v.rows i).registers (all_operated s i (applied (v.rows i).own v.memory) (term n e).ops (v.rows i).registers) (term n e).at (value s w.memory i (w.lanes i) e)
  works e w v i h m = subst (λ x. Works n (v.rows i).registers (all_operated s i (applied (v.rows i).own v.memory) (term n e).ops (v.rows i).registers) (term n e).at (reckon s i x (w.lanes i).variables e)) (sees w v m i)
      (lowered s i (applied (v.rows i).own v.memory) n (w.lanes i).variables e n (omega arith) h (v.rows i).registers (m.rows i).has)

  after : (e : Term) (w : Group) (v : Machine) → TermWithin n e → Mirrors n w v → Mirrors n w (reckoned s (term n e).ops v)
  after e w v h m = record {
    memory = m.memory;
    log = m.log;
    rows = λ i. record { own = (m.rows i).own; has = λ x lt. (works e w v i h m).keeps x lt ∙ (m.rows i).has x lt; flow = (m.rows i).flow; long = (m.rows i).long };
  }

  tests : (e : Term) (w : Group) (v : Machine) → TermWithin n e → Mirrors n w v → passes s e w ≡ holding (term n e).at (reckoned s (term n e).ops v)
  tests e w v h m = λ j i. not (is_zero (sym (works e w v i h m).value j).value)

  set-alike : (x : ℕ) (u u' : Word) (lane : Lane) (row : Row) → x < n → u ≡ u' → Alike n lane row → Alike n (record { variables = slice_set lane.variables x u'; own = lane.own; flow = lane.flow }) (record { registers = put_word x u row.registers; own = row.own; flow = row.flow })
  set-alike x u u' lane row lt e h = record {
    own = h.own;
    has = λ y below. elim (cases_eq y x) [
      | inl same ↦ subst (λ z. put_word x u row.registers z ≡ slice_index_or (slice_set lane.variables x u') z zero_word) (sym same) (put_word-same x u row.registers ∙ e ∙ sym (get_or-set_same lane.variables x u' zero_word (let l = h.long in omega (arith, l, lt))))
      | inr other ↦ put_word-other x y u row.registers other ∙ h.has y below ∙ sym (get_or-set_other lane.variables x y u' zero_word other)
    ];
    flow = h.flow;
    long = length-set lane.variables x u' ∙ h.long;
  }

  mirrors-set : (x : ℕ) (e : Term) (on : Mask) (w : Group) (v : Machine) → x < n → TermWithin n e → Mirrors n w v → Mirrors n (each (live on w) (sets s w.memory x e) w) (on_rows (live_rows on v) (assigned x (term n e).at) (reckoned s (term n e).ops v))
  mirrors-set x e on w v lt h m = each-mirrors n (live on w) (live_rows on v) (sets s w.memory x e) (assigned x (term n e).at) w (reckoned s (term n e).ops v) (live-same n on w v m) (after e w v h m)
      (λ i. set-alike x _ (value s w.memory i (w.lanes i) e) (w.lanes i) _ lt (works e w v i h m).value ((after e w v h m).rows i))

  -- two terms
  record Both (r r' : Registers) (at at' : ℕ) (x y : Word) : Type 0 where
    keeps : (j : ℕ) → j < n → r' j ≡ r j
    first : r' at ≡ x
    second : r' at' ≡ y

  works_both : (k e : Term) (w : Group) (v : Machine) (i : ℕ) → TermWithin n k → TermWithin n e → Mirrors n w v → Both (v.rows i).registers (all_operated s i (applied (v.rows i).own v.memory) ((term n k).ops ++ (term (n + 1) e).ops) (v.rows i).registers) (term n k).at (term (n + 1) e).at (value s w.memory i (w.lanes i) k) (value s w.memory i (w.lanes i) e)
  works_both k e w v i hk he m =
      let mem = applied (v.rows i).own v.memory in
      let r = (v.rows i).registers in
      let r1 = all_operated s i mem (term n k).ops r in
      let a = works k w v i hk m in
      let b : Works (n + 1) r1 (all_operated s i (applied (v.rows i).own v.memory) (term (n + 1) e).ops r1) (term (n + 1) e).at (value s w.memory i (w.lanes i) e) =
      subst (λ x. Works (n + 1) r1 (all_operated s i (applied (v.rows i).own v.memory) (term (n + 1) e).ops r1) (term (n + 1) e).at (reckon s i x (w.lanes i).variables e)) (sees w v m i)
      (lowered s i (applied (v.rows i).own v.memory) n (w.lanes i).variables e (n + 1) (omega arith) he r1 (λ x lt. a.keeps x lt ∙ (m.rows i).has x lt)) in
      let low = a.low in
      subst (λ r'. Both r r' (term n k).at (term (n + 1) e).at (value s w.memory i (w.lanes i) k) (value s w.memory i (w.lanes i) e)) (sym (operated-append s i mem (term n k).ops (term (n + 1) e).ops r))
      (record {
        keeps = λ j lt. b.keeps j (omega (arith, lt)) ∙ a.keeps j lt;
        first = b.keeps (term n k).at (omega (arith, low)) ∙ a.value;
        second = b.value;
      })

  mirrors-store : (a : Rattle.semantics.specs.Core.Array) (k e : Term) (on : Mask) (w : Group) (v : Machine) → TermWithin n k → TermWithin n e → Mirrors n w v → Mirrors n (each (live on w) (together_.stores s w.memory a k e) w) (on_rows (live_rows on v) (put_by s a (term n k).at (term (n + 1) e).at) (reckoned s ((term n k).ops ++ (term (n + 1) e).ops) v))
  mirrors-store a k e on w v hk he m =
      let m1 : Mirrors n w (reckoned s ((term n k).ops ++ (term (n + 1) e).ops) v) = record {
        memory = m.memory;
        log = m.log;
        rows = λ i. record { own = (m.rows i).own; has = λ x lt. (works_both k e w v i hk he m).keeps x lt ∙ (m.rows i).has x lt; flow = (m.rows i).flow; long = (m.rows i).long };
      } in
      each-mirrors n (live on w) (live_rows on v) (together_.stores s w.memory a k e) (put_by s a (term n k).at (term (n + 1) e).at) w (reckoned s ((term n k).ops ++ (term (n + 1) e).ops) v) (live-same n on w v m) m1
      (λ i. record {
        own = ap₂ (λ o (p : List (Cell × ℤ)). o ++ p) (m.rows i).own (ap₂ (λ (x y : Word). stored_at s i a (within (extent s a) x.value) y.value) (works_both k e w v i hk he m).first (works_both k e w v i hk he m).second);
        has = (m1.rows i).has;
        flow = (m1.rows i).flow;
        long = (m1.rows i).long;
      })

  mirrors-barrier : (g : ℕ) (w : Group) (v : Machine) (b : Bool) → Mirrors n w v → Mirrors n (cond b (round_done s g w) w) (cond b (fenced s g v) v)
  mirrors-barrier g w v false m = m
  mirrors-barrier g w v true m =
      let o : overlay_of v ≡ own_of w = λ j i. (m.rows i).own j in
      record {
        memory = ap₂ (λ x (y : Memory). applied (overlays s g x (group_size s)) y) o m.memory;
        log = ap₂ (λ x (y : ℕ → List (Cell × ℤ)). x ++ overlays s g y (group_size s)) m.log o;
        rows = λ i. record { own = refl; has = (m.rows i).has; flow = (m.rows i).flow; long = (m.rows i).long };
      }

  abbrev Simulates : (Mask → Group → Group) → (Mask → Machine → Machine) → Type 0
  Simulates f h = (on : Mask) (w : Group) (v : Machine) → Mirrors n w v → Mirrors n (f on w) (h on v)

  masks : (on : Mask) (e : Term) (w : Group) (v : Machine) → TermWithin n e → Mirrors n w v → both (live on w) (passes s e w) ≡ both (live_rows on v) (holding (term n e).at (reckoned s (term n e).ops v))
  masks on e w v t m = ap₂ both (live-same n on w v m) (tests e w v t m)

  masks_but : (on : Mask) (e : Term) (w : Group) (v : Machine) → TermWithin n e → Mirrors n w v → but (live on w) (passes s e w) ≡ but (live_rows on v) (holding (term n e).at (reckoned s (term n e).ops v))
  masks_but on e w v t m = ap₂ but (live-same n on w v m) (tests e w v t m)

  mirrors-back : (test : Flow → Bool) (on on' : Mask) (w : Group) (v : Machine) → on ≡ on' → Mirrors n w v → Mirrors n (each on (back test) w) (on_rows on' (returns test) v)
  mirrors-back test on on' w v e m = each-mirrors n on on' (back test) (returns test) w v e m (λ i. record { own = (m.rows i).own; has = (m.rows i).has; flow = ap (λ f. cond (test f) Going f) (m.rows i).flow; long = (m.rows i).long })

  mirrors-exit : (f : Flow) (on : Mask) (w : Group) (v : Machine) → Mirrors n w v → Mirrors n (each (live on w) (flows f) w) (on_rows (live_rows on v) (exits f) v)
  mirrors-exit f on w v m = each-mirrors n (live on w) (live_rows on v) (flows f) (exits f) w v (live-same n on w v m) m (λ i. record { own = (m.rows i).own; has = (m.rows i).has; flow = refl; long = (m.rows i).long })

  mirrors-turning : (g k : ℕ) (e : Term) (f : Mask → Group → Group) (h : Mask → Machine → Machine) → TermWithin n e → Simulates f h → Simulates (turning s g k e f) (repeating s g k (term n e).ops (term n e).at h)
  mirrors-turning g zero e f h t go on w v m = m
  mirrors-turning g (suc k) e f h t go on w v m =
      subst (λ (p : Mask). Mirrors n (cond (some s g (both (live on w) (passes s e w))) (turning s g k e f (both (live on w) (passes s e w)) (f (both (live on w) (passes s e w)) w)) w)
      (cond (some s g p) (repeating s g k (term n e).ops (term n e).at h p (h p (reckoned s (term n e).ops v))) (reckoned s (term n e).ops v))) (masks on e w v t m)
      (by (some s g (both (live on w) (passes s e w))) (mirrors-turning g k e f h t go))
    where
      by : (b : Bool) → Simulates (turning s g k e f) (repeating s g k (term n e).ops (term n e).at h) → Mirrors n (cond b (turning s g k e f (both (live on w) (passes s e w)) (f (both (live on w) (passes s e w)) w)) w) (cond b (repeating s g k (term n e).ops (term n e).at h (both (live on w) (passes s e w)) (h (both (live on w) (passes s e w)) (reckoned s (term n e).ops v))) (reckoned s (term n e).ops v))
      by true again = again (both (live on w) (passes s e w)) _ _ (go (both (live on w) (passes s e w)) w (reckoned s (term n e).ops v) (after e w v t m))
      by false again = after e w v t m

  mutual
    mirrors-one : (g k : ℕ) (st : Statement) → Within n st → Simulates (together s g k st) (executed s g k (statement n st))
    mirrors-one g k (Set o x e) h on w v m = mirrors-set x e on w v h.0 h.1 m
    mirrors-one g k (Store o a site i e) h on w v m = mirrors-store a i e on w v h.0 h.1 m
    mirrors-one g k (If o e taken skipped) h on w v m =
        subst (λ (p : Mask). Mirrors n (all_together s g k skipped (but (live on w) (passes s e w)) (all_together s g k taken (both (live on w) (passes s e w)) w))
        (all_executed s g k (block n skipped) p (all_executed s g k (block n taken) (both (live_rows on v) (holding (term n e).at (reckoned s (term n e).ops v))) (reckoned s (term n e).ops v)))) (masks_but on e w v h.0 m)
        (subst (λ (p : Mask). Mirrors n (all_together s g k skipped (but (live on w) (passes s e w)) (all_together s g k taken (both (live on w) (passes s e w)) w))
        (all_executed s g k (block n skipped) (but (live on w) (passes s e w)) (all_executed s g k (block n taken) p (reckoned s (term n e).ops v)))) (masks on e w v h.0 m)
        (mirrors-all g k skipped h.2 (but (live on w) (passes s e w)) _ _ (mirrors-all g k taken h.1 (both (live on w) (passes s e w)) w (reckoned s (term n e).ops v) (after e w v h.0 m))))
    mirrors-one g k (Loop o e body update) h on w v m =
        mirrors-back (is_leaving o) (live on w) (live_rows on v) _ _ (live-same n on w v m)
        (mirrors-turning g k e _ _ h.0 (λ on' w' v' m'. mirrors-all g k update h.2 on' _ _ (mirrors-back (is_resuming o) on' on' _ _ refl (mirrors-all g k body h.1 on' w' v' m'))) on w v m)
    mirrors-one g k (Barrier o l f) h on w v m = subst (λ (p : Mask). Mirrors n (cond (some s g (live on w)) (round_done s g w) w) (cond (some s g p) (fenced s g v) v)) (live-same n on w v m) (mirrors-barrier g w v (some s g (live on w)) m)
    mirrors-one g k (Return o) h on w v m = mirrors-exit Gone on w v m
    mirrors-one g k (Break o l) h on w v m = mirrors-exit (Leaving l) on w v m
    mirrors-one g k (Continue o l) h on w v m = mirrors-exit (Resuming l) on w v m

    mirrors-all : (g k : ℕ) (ss : Statements) → AllWithin n ss → Simulates (all_together s g k ss) (all_executed s g k (block n ss))
    mirrors-all g k none h on w v m = m
    mirrors-all g k (one st rest) h on w v m = mirrors-all g k rest h.1 on _ _ (mirrors-one g k st h.0 on w v m)

executed-together : (s : Setup) (bound g : ℕ) → AllWithin (length (opening_lane s).variables) s.kernel.body → stores_executed s bound g (block (length (opening_lane s).variables) s.kernel.body) ≡ stores_together s bound g
executed-together s bound g h =
    let n = length (opening_lane s).variables in
    let m = mirrors-all s (length (opening_lane s).variables) g (bound + 1) s.kernel.body h (λ i. true) (opening_group s) (opening_machine s)
    (record { memory = refl; log = refl; rows = λ i. record { own = refl; has = λ x lt. refl; flow = refl; long = refl } }) in
    let o : overlay_of (all_executed s g (bound + 1) (block (length (opening_lane s).variables) s.kernel.body) (λ i. true) (opening_machine s)) ≡ own_of (all_together s g (bound + 1) s.kernel.body (λ i. true) (opening_group s)) = λ j i. (m.rows i).own j in
    ap₂ (λ x (y : ℕ → List (Cell × ℤ)). x ++ overlays s g y (group_size s)) m.log o

slots-are : (s : Setup) → Fits s.kernel s.launch → length (opening_lane s).variables ≡ slots_of s.kernel
slots-are s f =
    length-append s.launch.arguments (map (λ k. word k (pos 0)) s.kernel.variables)
    ∙ ap₂ (λ x y. x + y) (AllZip-long IsArgument s.kernel.arguments s.launch.arguments f.arguments) (length-map s.kernel.variables (λ k. word k (pos 0)))

pub lowered-together : (s : Setup) (bound g : ℕ) → Fits s.kernel s.launch → AllWithin (slots_of s.kernel) s.kernel.body → stores_executed s bound g (lowered_kernel s.kernel) ≡ stores_together s bound g
lowered-together s bound g f h =
    subst (λ n. stores_executed s bound g (block n s.kernel.body) ≡ stores_together s bound g) (slots-are s f)
    (executed-together s bound g (subst (λ n. AllWithin n s.kernel.body) (sym (slots-are s f)) h))
