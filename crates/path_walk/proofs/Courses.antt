-- Terms, assignments and stores on a path from a place.
use Rattle.std.proofs.Common.{◌≡◌, ℕ, Bool, true, false, refl, sym, ap, ◌∙◌}
use Rattle.std.specs.Prelude.{cond, Result, Ok, Err, IsErr, IsErrAnd, MatchResult}
use Rattle.semantics.specs.Core.{Array, Site, Term}
use Rattle.facts.specs.declared.error.WalkError.{WalkError}
use Rattle.walk_trees.specs.Trees.{Tree}
use Rattle.walk_trees.specs.Values.{Value}
use Rattle.walk_trees.specs.Walks.{State, Onward, stand}
use Rattle.walk_trees.specs.Terms.{walk, stored, chosen}
use Rattle.walk_trees.specs.Tests.{Outcomes}
use Rattle.walk_trees.specs.Statements.{spot_of}
use Rattle.obligations.specs.Walking.{Placed, is_lawful, refused}
use Rattle.path_steps.specs.Paths.{Followed, collect, with_spot}
use Rattle.path_steps.specs.Leads.{Steps, Leads}
use Rattle.path_steps.specs.Refusals.{StopsAtStep}
use Rattle.path_steps.specs.Halts.{HaltsAtStep, Halts}
use Rattle.path_steps.specs.declared.halt.Halt.{Halt}
use Rattle.path_steps.specs.declared.halt.Halt.TheVariants as halts
use Rattle.path_steps.proofs.Refusing.{refused_from}
use Rattle.path_steps.proofs.Testing.{ended_from, halted}
use Rattle.arrival_claims.specs.Claims.{Comes, IsRefusedAt}
use Rattle.path_walk.specs.Steps.{value_at, test_at, store_at}

-- what a walk's answer or halt says
abbrev pub Says : {E A T : Type 0} → Followed E → Followed E → (State E → (A → State E → Tree E) → Tree E) → (T → A) → Result T Halt → Type 0
Says l n walk view r = MatchResult r (λ v. Leads l n walk (view v)) (λ h. Halts l n h walk)

abbrev pub Does : {E : Type 0} → Followed E → Followed E → (State E → (State E → Tree E) → Tree E) → Result (Unit {0}) Halt → Type 0
Does l n walk r = MatchResult r (λ u. Steps l n walk) (λ h. HaltsAtStep l n h walk)

pub same_choice : {E : Type 0} (b : Bool) (go : Outcomes E) (st : State E) → chosen b (go true st) (go false st) ≡ go b st
same_choice true go st = refl
same_choice false go st = refl

-- a term that is lawful, and one that is not
module _ {E : Type 0} (w : Placed E) (n : ℕ) (e : Term) (b : Bool) (l : Followed E) (d : b ≡ is_lawful e) where
  module _ (p : b ≡ true) (m o : Followed E) (q : m ≡ with_spot l (spot_of n)) where
    lawful_value : (go : Onward E) → collect l.found (value_at w n e l.state go) ≡ collect m.found ((walk w.setting e).value m.state go)
    lawful_value go =
        ap (λ c. collect l.found (cond c ((walk w.setting e).value (stand (spot_of n) l.state) go) (refused l.state))) (sym d ∙ p)
        ∙ ap (λ (u : Followed E). collect u.found ((walk w.setting e).value u.state go)) (sym q)

    pub value_says : {T : Type 0} (view : T → Value) (r : Result T Halt) → Says m o (walk w.setting e).value view r → Says l o (value_at w n e) view r
    value_says view (Ok v) h = λ go. lawful_value go ∙ h go
    value_says view (Err x) h = λ go. ended_from o.found x _ _ (lawful_value go) (h go)

    lawful_test : (go : Outcomes E) → collect l.found (test_at w n e l.state go) ≡ collect m.found ((walk w.setting e).test m.state (λ c st. chosen c (go true st) (go false st)))
    lawful_test go =
        ap (λ c. collect l.found (cond c ((walk w.setting e).test (stand (spot_of n) l.state) (λ c' st. chosen c' (go true st) (go false st))) (refused l.state))) (sym d ∙ p)
        ∙ ap (λ (u : Followed E). collect u.found ((walk w.setting e).test u.state (λ c st. chosen c (go true st) (go false st)))) (sym q)

    pub test_says : (r : Result Bool Halt) → Says m o (walk w.setting e).test (λ c. c) r → Says l o (test_at w n e) (λ c. c) r
    test_says (Ok v) h = λ go. lawful_test go ∙ h (λ c st. chosen c (go true st) (go false st)) ∙ ap (collect o.found) (same_choice v go o.state)
    test_says (Err x) h = λ go. ended_from o.found x _ _ (lawful_test go) (h (λ c st. chosen c (go true st) (go false st)))

  module _ (p : b ≡ false) where
    refused_value : (go : Onward E) → collect l.found (value_at w n e l.state go) ≡ collect l.found (refused l.state)
    refused_value go = ap (λ c. collect l.found (cond c ((walk w.setting e).value (stand (spot_of n) l.state) go) (refused l.state))) (sym d ∙ p)

    refused_test : (go : Outcomes E) → collect l.found (test_at w n e l.state go) ≡ collect l.found (refused l.state)
    refused_test go = ap (λ c. collect l.found (cond c ((walk w.setting e).test (stand (spot_of n) l.state) (λ c' st. chosen c' (go true st) (go false st))) (refused l.state))) (sym d ∙ p)

    pub value_dead : (m : Followed E) → Comes l refused m.found → Halts l m halts.Dead (value_at w n e)
    value_dead m h go = refused_value go ∙ sym h

    pub test_dead : (m : Followed E) → Comes l refused m.found → Halts l m halts.Dead (test_at w n e)
    test_dead m h go = refused_test go ∙ sym h

    pub value_refused : (m : Followed E) (x : WalkError) → IsRefusedAt l refused x → Halts l m (halts.Refused x) (value_at w n e)
    value_refused m x h go = refused_from x _ _ (refused_value go) h

    pub test_refused : (m : Followed E) (x : WalkError) → IsRefusedAt l refused x → Halts l m (halts.Refused x) (test_at w n e)
    test_refused m x h go = refused_from x _ _ (refused_test go) h

-- a store
module _ {E : Type 0} (w : Placed E) (n : ℕ) (a : Array) (site : Site) (index e : Term) (l m o : Followed E) (f g : Value) (p : Leads l m (value_at w n index) f) (q : Leads m o (value_at w n e) g) where
  valued : (go : State E → Tree E) → collect l.found (store_at w n a site index e l.state go) ≡ collect o.found (stored w.setting a site f g o.state go)
  valued go = p (λ j st. value_at w n e st (λ v st'. stored w.setting a site j v st' go)) ∙ q (λ v st. stored w.setting a site f v st go)

  pub store_steps : (x : Followed E) → Steps o x (stored w.setting a site f g) → Steps l x (store_at w n a site index e)
  store_steps x s go = valued go ∙ s go

  pub store_stops : (x : Followed E) (b : WalkError) (r : Result (Unit {0}) Halt) → IsErr r × IsErrAnd r (λ h. h ≡ halts.Refused b) → StopsAtStep o b (stored w.setting a site f g) → Does l x (store_at w n a site index e) r
  store_stops x b r i s = halted r (halts.Refused b) _ _ i (λ go. refused_from b _ _ (valued go) (s go))
