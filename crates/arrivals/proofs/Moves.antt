-- Every solo run stands in the trees.
use Rattle.std.proofs.Common.{◌≡◌, ℕ, ◌+◌, ◌<◌, ℤ, Bool, true, false, not, ◌||◌, List, [], ◌∷◌, Some, refl, sym, inl, inr, subst, slice_set}
use Rattle.semantics.specs.Word.{Word, is_zero}
use Rattle.semantics.specs.Core.{Term, Statement, Set, Store, If, Loop, Barrier, Return, Break, Continue, Statements}
use Rattle.semantics.specs.Setup.{Setup, item_count}
use Rattle.semantics.specs.Memory.{extent}
use Rattle.semantics.specs.Evaluation.{Outcome, Gives, evaluate, within}
use Rattle.semantics.specs.Item.{Entry, Item, Running, enter, finished, leave, resume, trail}
use Rattle.semantics.specs.Ask.{Goes, choose, on_value, stores, act, front}
use Rattle.semantics.specs.Contents.{HonestFront, HonestTerm, Behind}
use Rattle.arrivals.specs.Loops.{have_barrier}
use Rattle.arrivals.specs.Trees.{Step, Sets, Uses, Tests, Takes, Later, IsEnd, IsFront, walk_left, left}
use Rattle.arrivals.specs.LoopTests.{IsEntering}
use Rattle.arrivals.specs.Places.{Meets}
use Rattle.arrivals.specs.Paths.{CanBe, Held, held}
use Rattle.arrivals.specs.Shown.{Notes, Came, Shown}
use Rattle.arrivals.proofs.Controlled.{bare, controlled-rest, controlled-taken, controlled-skipped, nothing_left, has_turned}
use Rattle.arrivals.proofs.Turning.{controlled-leave, controlled-resume}
use Rattle.arrivals.proofs.Walking.{walk-enter, walk-leave, walk-resume}
use Rattle.arrivals.proofs.Ranked.{ran-enter, ran-leave, ran-resume}
use Rattle.arrivals.proofs.Standing.{all_points, Standing}
use Rattle.arrivals.proofs.Rooted.{Fronted, front_rooted}
use Rattle.arrivals.proofs.Turns.{loop_on}
use Rattle.arrivals.proofs.Placing.{IsAtBarrier, IsHonestItem, Stands, somewhere, IsPlaced, Fine, placed_by, value_fine, stores_fine, going, stepping}

behind_of : (P : Word → List Word → Type 0) (o : Outcome) (v : Word) (rest : List Word) → o ≡ Gives v rest → Behind o P → P v rest
behind_of P o v rest e h = subst (λ o. Behind o P) e h

module _ (s : Setup) (k : Notes) (i n : ℕ) where
  tests : (e : Term) (vars : List Word) (v : Word) → CanBe s k.contents i e vars v → (x : Bool) → is_zero v.value ≡ not x → (path : List Step) (p : _) (a : Held) (ranks : ℕ → ℤ) → Came s k p i path a (held vars ranks) → Came s k p i (Tests e x ∷ path) a (held vars ranks)
  tests e vars v can x z path p a ranks h = record { root = h.root; line = h.line; own = h.own; follows = (held vars ranks, (h.follows, (v, (can, (z, refl))))) }

  uses : (e : Term) (vars : List Word) (v : Word) → CanBe s k.contents i e vars v → (path : List Step) (p : _) (a : Held) (ranks : ℕ → ℤ) → Came s k p i path a (held vars ranks) → Came s k p i (Uses e ∷ path) a (held vars ranks)
  uses e vars v can path p a ranks h = record { root = h.root; line = h.line; own = h.own; follows = (held vars ranks, (h.follows, (v, (can, refl)))) }

  -- either branch
  branch_on : (m : ℕ) (e : Term) (yeses noes : Statements) (t : ℕ) (r : List Entry) (vars : List Word) (v : Word) → CanBe s k.contents i e vars v → (x : Bool) → is_zero v.value ≡ x → Standing s k i n (record { statement = If m e yeses noes; turns = t } ∷ r) vars (walk_left false (left (If m e yeses noes) (has_turned t) ∷ bare r)) → Stands s k i n (choose x (enter noes r) (enter yeses r)) vars
  branch_on m e yeses noes t r vars v can false z h =
      let d = h.control.separate.0.0 in
      stepping s k i n _ (enter yeses r) vars vars _ _ (Tests e true) (tests e vars v can true z) (λ c q. controlled-taken (all_points s) c m e yeses noes t r q) (λ ranks q. ran-enter s k i ranks yeses r q.1)
      (λ l x q. inl (subst (λ (g : Later). Meets x (g (Some l))) (walk-enter true yeses r d) q))
      (λ u path t q. inl (subst (λ (g : Later). IsEnd u (Tests e true ∷ path) (g t)) (walk-enter false yeses r d) q))
      (λ u path t q. inr (inl (subst (λ (g : Later). IsFront u (Tests e true ∷ path) (g t)) (walk-enter false yeses r d) q)))
      (λ m end path t q. inl (inr (subst (λ (g : Later). IsEntering m end (Tests e true ∷ path) (g t)) (walk-enter false yeses r d) q))) h
  branch_on m e yeses noes t r vars v can true z h =
      let d = h.control.separate.0.1 in
      stepping s k i n _ (enter noes r) vars vars _ _ (Tests e false) (tests e vars v can false z) (λ c q. controlled-skipped (all_points s) c m e yeses noes t r q) (λ ranks q. ran-enter s k i ranks noes r q.1)
      (λ l x q. inr (subst (λ (g : Later). Meets x (g (Some l))) (walk-enter true noes r d) q))
      (λ u path t q. inr (subst (λ (g : Later). IsEnd u (Tests e false ∷ path) (g t)) (walk-enter false noes r d) q))
      (λ u path t q. inr (inr (subst (λ (g : Later). IsFront u (Tests e false ∷ path) (g t)) (walk-enter false noes r d) q)))
      (λ m end path t q. inr (inr (subst (λ (g : Later). IsEntering m end (Tests e false ∷ path) (g t)) (walk-enter false noes r d) q))) h

  -- each statement in front, running; a loop is come to from some place
  act_fine : (it : Item) (st : Statement) (t : ℕ) (r : List Entry) → it.status ≡ Running → it.left ≡ record { statement = st; turns = t } ∷ r → Stands s k i n (record { statement = st; turns = t } ∷ r) it.variables → Fronted s k i n st t r it.variables → IsPlaced s k i n it → HonestFront s k.contents i (trail it.left) st it.variables it.answers → Fine s k i n it (act s i it st t r)
  act_fine it (Set m x e) t r run left h f p fair =
      value_fine s k i n it (evaluate s i (trail it.left) e it.variables it.answers) (λ v _. Goes (finished it r (slice_set it.variables x v))) (somewhere s k i n _ it.variables _ h) p
      (λ v rest is z. placed_by s k i n r (slice_set it.variables x v) (stepping s k i n _ r it.variables (slice_set it.variables x v) _ _ (Sets x e)
      (λ path q a ranks c. record { root = c.root; line = c.line; own = c.own; follows = (held it.variables ranks, (c.follows, (v, (record { now = trail it.left; answers = it.answers; rest = rest; is = is; honest = fair }, refl)))) })
      (λ c q. controlled-rest (all_points s) c _ r q) (λ ranks q. q.1) (λ l x q. q) (λ u path t q. q) (λ u path t q. inr q) (λ m end path t q. inr q) h))
  act_fine it (Store m a site x e) t r run left h f p fair =
      value_fine s k i n it (evaluate s i (trail it.left) x it.variables it.answers) (λ index later. on_value s i it (evaluate s i (trail it.left) e it.variables later) (λ v _. stores s i it a site (within (extent s a) index.value) v.value r)) (somewhere s k i n _ it.variables _ h) p
      (λ index later is. value_fine s k i n it (evaluate s i (trail it.left) e it.variables later) (λ v _. stores s i it a site (within (extent s a) index.value) v.value r) (somewhere s k i n _ it.variables _ h) p
      (λ v rest is'. stores_fine s k i n it a site (within (extent s a) index.value) v.value r
      (stepping s k i n (record { statement = Store m a site x e; turns = t } ∷ r) r it.variables it.variables (λ t. Takes (Uses e) (walk_left false (bare r) t)) (walk_left false (bare r)) (Uses e) (uses e it.variables v (record { now = trail it.left; answers = later; rest = rest; is = is'; honest = behind_of (λ index later. HonestTerm s k.contents i (trail it.left) e it.variables later) (evaluate s i (trail it.left) x it.variables it.answers) index later is fair.1 }))
      (λ c q. controlled-rest (all_points s) c _ r q) (λ ranks q. q.1) (λ l y q. q) (λ u path t q. q) (λ u path t q. q) (λ m end path t q. inr q)
      (stepping s k i n _ (record { statement = Store m a site x e; turns = t } ∷ r) it.variables it.variables _ (λ t. Takes (Uses e) (walk_left false (bare r) t)) (Uses x) (uses x it.variables index (record { now = trail it.left; answers = it.answers; rest = later; is = is; honest = fair.0 }))
      (λ c q. q) (λ ranks q. q) (λ l y q. q) (λ u path t q. q) (λ u path t q. inr q) (λ m end path t q. inr q) h))))
  act_fine it (If m e yeses noes) t r run left h f p fair =
      value_fine s k i n it (evaluate s i (trail it.left) e it.variables it.answers) (λ v _. Goes (finished it (choose (is_zero v.value) (enter noes r) (enter yeses r)) it.variables)) (somewhere s k i n _ it.variables _ h) p
      (λ v rest is z. placed_by s k i n (choose (is_zero v.value) (enter noes r) (enter yeses r)) it.variables (branch_on m e yeses noes t r it.variables v (record { now = trail it.left; answers = it.answers; rest = rest; is = is; honest = fair }) (is_zero v.value) refl h))
  act_fine it (Loop m e b u) t r run left h f p fair =
      value_fine s k i n it (evaluate s i (trail it.left) e it.variables it.answers) (λ v _. Goes (finished it (choose (is_zero v.value) r (enter b (enter u (record { statement = Loop m e b u; turns = t + 1 } ∷ r)))) it.variables)) (somewhere s k i n _ it.variables _ h) p
      (λ v rest is z. placed_by s k i n (choose (is_zero v.value) r (enter b (enter u (record { statement = Loop m e b u; turns = t + 1 } ∷ r)))) it.variables
      (loop_on s k i n m e b u t r it.variables v (record { now = trail it.left; answers = it.answers; rest = rest; is = is; honest = fair }) (have_barrier b || have_barrier u) (is_zero v.value) refl refl f.stands f.tested))
  act_fine it (Barrier m l g) t r run left h f p fair = λ z. subst (λ left. IsAtBarrier left × Stands s k i n left it.variables) (sym left) (refl, h)
  act_fine it (Return m) t r run left h f p fair = λ z. (refl, going s k i n _ [] it.variables _ _ (λ c q. nothing_left (all_points s) c) (λ ranks q. tt) (λ l x q. absurd q) (λ u path t q. q) (λ u path t q. q) (λ m end path t q. q) h)
  act_fine it (Break m j) t r run left h f p fair = λ z. placed_by s k i n (leave j r) it.variables
      (going s k i n _ (leave j r) it.variables _ _ (λ c q. controlled-leave (all_points s) c j r (controlled-rest (all_points s) c _ r q)) (λ ranks q. ran-leave s k i ranks j r q.1)
      (λ l x q. subst (λ (g : Later). Meets x (g (Some l))) (walk-leave true j r) q) (λ u path t q. subst (λ (g : Later). IsEnd u path (g t)) (walk-leave false j r) q) (λ u path t q. subst (λ (g : Later). IsFront u path (g t)) (walk-leave false j r) q) (λ m end path t q. subst (λ (g : Later). IsEntering m end path (g t)) (walk-leave false j r) q) h)
  act_fine it (Continue m j) t r run left h f p fair = λ z. placed_by s k i n (resume j r) it.variables
      (let d = h.control.separate.1.1 in
      going s k i n _ (resume j r) it.variables _ _ (λ c q. controlled-resume (all_points s) c j r (controlled-rest (all_points s) c _ r q)) (λ ranks q. ran-resume s k i ranks j r q.1)
      (λ l x q. subst (λ (g : Later). Meets x (g (Some l))) (walk-resume true j r d) q) (λ u path t q. subst (λ (g : Later). IsEnd u path (g t)) (walk-resume false j r d) q) (λ u path t q. subst (λ (g : Later). IsFront u path (g t)) (walk-resume false j r d) q) (λ m end path t q. subst (λ (g : Later). IsEntering m end path (g t)) (walk-resume false j r d) q) h)

  pub front_fine : Shown s k → i < item_count s → (it : Item) (left : List Entry) → it.status ≡ Running → it.left ≡ left → Stands s k i n left it.variables → IsPlaced s k i n it → IsHonestItem s k.contents i it → Fine s k i n it (front s i it left)
  front_fine shown is_item it [] run same h p fair = λ z. (refl, h)
  front_fine shown is_item it (e ∷ r) run same h p fair = act_fine it e.statement e.turns r run same h (front_rooted s k shown i is_item n e.statement e.turns r it.variables h) p (fair e r same)
