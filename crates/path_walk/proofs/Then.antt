-- Steps of a walk in turn, and halts behind them.
use Rattle.std.proofs.Common.{◌≡◌, sym, subst, ◌∙◌}
use Rattle.std.specs.Prelude.{Result, Ok, Err, IsErr, IsErrAnd, MatchResult}
use Rattle.walk_trees.specs.Trees.{Tree}
use Rattle.walk_trees.specs.Walks.{State}
use Rattle.path_steps.specs.Paths.{Followed}
use Rattle.path_steps.specs.Leads.{Leads, LeadsTwo}
use Rattle.path_steps.specs.Halts.{Halts}
use Rattle.path_steps.specs.declared.halt.Halt.{Halt}
use Rattle.path_steps.proofs.Testing.{ended_from, halted}
use Rattle.path_walk.specs.Parts.{HaltsTwo}

-- what a walk's answer or halt says
abbrev pub Says : {E A T : Type 0} → Followed E → Followed E → (State E → (A → State E → Tree E) → Tree E) → (T → A) → Result T Halt → Type 0
Says l n walk view r = MatchResult r (λ v. Leads l n walk (view v)) (λ h. Halts l n h walk)

-- a step, and what follows of its answer
module _ {E A B T : Type 0} (one : State E → (A → State E → Tree E) → Tree E) (two : A → State E → (B → State E → Tree E) → Tree E) (walk : State E → (B → State E → Tree E) → Tree E) (l m : Followed E) (view : T → B) (r : Result T Halt) (d : walk ≡ (λ st go. one st (λ x st'. two x st' go))) where
  pub then_goes : (n : Followed E) (a : A) → Leads l m one a → Says m n (two a) view r → Says l n walk view r
  then_goes n a p q = subst (λ w. Says l n w view r) (sym d) (by r q)
    where
      by : (r : Result T Halt) → Says m n (two a) view r → Says l n (λ st go. one st (λ x st'. two x st' go)) view r
      by (Ok v) h = λ go. p (λ x st'. two x st' go) ∙ h go
      by (Err e) h = λ go. ended_from n.found e _ _ (p (λ x st'. two x st' go)) (h go)

  pub then_halts : (h : Halt) → IsErr r × IsErrAnd r (λ x. x ≡ h) → Halts l m h one → Says l m walk view r
  then_halts h e p = subst (λ w. Says l m w view r) (sym d) (halted r h _ _ e (λ go. p (λ x st'. two x st' go)))

-- the same of a step with two answers
module _ {E A B C T : Type 0} (one : State E → (A → B → State E → Tree E) → Tree E) (two : A → B → State E → (C → State E → Tree E) → Tree E) (walk : State E → (C → State E → Tree E) → Tree E) (l m : Followed E) (view : T → C) (r : Result T Halt) (d : walk ≡ (λ st go. one st (λ x y st'. two x y st' go))) where
  pub two_go : (n : Followed E) (a : A) (b : B) → LeadsTwo l m one a b → Says m n (two a b) view r → Says l n walk view r
  two_go n a b p q = subst (λ w. Says l n w view r) (sym d) (by r q)
    where
      by : (r : Result T Halt) → Says m n (two a b) view r → Says l n (λ st go. one st (λ x y st'. two x y st' go)) view r
      by (Ok v) h = λ go. p (λ x y st'. two x y st' go) ∙ h go
      by (Err e) h = λ go. ended_from n.found e _ _ (p (λ x y st'. two x y st' go)) (h go)

  pub two_halt : (h : Halt) → IsErr r × IsErrAnd r (λ x. x ≡ h) → HaltsTwo l m h one → Says l m walk view r
  two_halt h e p = subst (λ w. Says l m w view r) (sym d) (halted r h _ _ e (λ go. p (λ x y st'. two x y st' go)))
