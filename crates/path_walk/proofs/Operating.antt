-- Steps of operators, composed.
use Rattle.std.proofs.Common.{◌≡◌, Bool, true, sym, ap, subst, ◌∙◌}
use Rattle.std.specs.Prelude.{ℤ, pos, ◌<ℤ◌, int_lt, Result, Ok, Err, MatchResult}
use Rattle.std.proofs.lemmas.Bool.{and_parts}
use Rattle.semantics.specs.Word.{Kind, Operator, Multiply}
use Rattle.linear.specs.Exact.{multiple}
use Rattle.linear.specs.Forms.{form}
use Rattle.linear.specs.declared.form.Form.{Form}
use Rattle.facts.specs.Symbols.{Fact, constant}
use Rattle.facts.specs.declared.error.WalkError.{WalkError}
use Rattle.facts.proofs.Integers.{lt_test}
use Rattle.walk_trees.specs.Trees.{Tree}
use Rattle.walk_trees.specs.Values as values
use Rattle.walk_trees.specs.Walks as walks
use Rattle.walk_trees.specs.Walks.{Setting, State}
use Rattle.walk_trees.specs.Operators as operators
use Rattle.path_steps.specs.Paths.{Followed, collect}
use Rattle.path_steps.specs.Leads.{Steps, Leads, LeadsTwo}
use Rattle.path_steps.specs.Refusals.{StopsAtStep, Stops, StopsTwo}
use Rattle.path_steps.specs.declared.path.Value.{Value}
use Rattle.path_steps.proofs.Refusing.{refused_from}

-- what a test comes out as where the walk stands
pub chosen : {E A T : Type 0} (walk : Bool → State E → (A → State E → Tree E) → Tree E) (test : State E → Bool) (b : Bool) (m n : Followed E) (view : T → A) (r : Result T WalkError) → test m.state ≡ b →
    MatchResult r (λ t. Leads m n (walk b) (view t)) (λ e. Stops m e (walk b)) →
    MatchResult r (λ t. Leads m n (λ st go. walk (test st) st go) (view t)) (λ e. Stops m e (λ st go. walk (test st) st go))
chosen walk test b m n view (Ok t) d h = λ go. ap (λ c. collect m.found (walk c m.state go)) d ∙ h go
chosen walk test b m n view (Err e) d h = λ go. refused_from e _ _ (ap (λ c. collect m.found (walk c m.state go)) d) (h go)

-- by what is so where the walk stands
pub by_this : {E A B T : Type 0} (walk : B → State E → (A → State E → Tree E) → Tree E) (of : State E → B) (b : B) (m n : Followed E) (view : T → A) (r : Result T WalkError) → b ≡ of m.state →
    MatchResult r (λ t. Leads m n (walk b) (view t)) (λ e. Stops m e (walk b)) →
    MatchResult r (λ t. Leads m n (λ st go. walk (of st) st go) (view t)) (λ e. Stops m e (λ st go. walk (of st) st go))
by_this walk of b m n view (Ok t) d h = λ go. ap (λ c. collect m.found (walk c m.state go)) (sym d) ∙ h go
by_this walk of b m n view (Err e) d h = λ go. refused_from e _ _ (ap (λ c. collect m.found (walk c m.state go)) (sym d)) (h go)

-- a new symbol of an element that is it
pub anew : {E : Type 0} (s : Setting E) (x y : E) (m n : Followed E) (r : Result Form WalkError) → x ≡ y →
    MatchResult r (λ f. Leads m n (walks.invent s x) (form f)) (λ e. Stops m e (walks.invent s x)) →
    MatchResult r (λ f. Leads m n (walks.invent s y) (form f)) (λ e. Stops m e (walks.invent s y))
anew s x y m n r d h = subst (λ z. MatchResult r (λ f. Leads m n (walks.invent s z) (form f)) (λ e. Stops m e (walks.invent s z))) d h

-- by a number that is it
pub renumbered : {E : Type 0} (walk : ℤ → State E → (Fact → State E → Tree E) → Tree E) (y z : ℤ) (m n : Followed E) (r : Result Form WalkError) → y ≡ z →
    MatchResult r (λ f. Leads m n (walk y) (form f)) (λ e. Stops m e (walk y)) →
    MatchResult r (λ f. Leads m n (walk z) (form f)) (λ e. Stops m e (walk z))
renumbered walk y z m n r d h = subst (λ c. MatchResult r (λ f. Leads m n (walk c) (form f)) (λ e. Stops m e (walk c))) d h

-- a quotient without what it leaves
module _ {E : Type 0} (walk : State E → (Fact → Fact → State E → Tree E) → Tree E) where
  pub first_leads : (q r : Fact) (m n : Followed E) → LeadsTwo m n walk q r → Leads m n (λ st go. walk st (λ x y st'. go x st')) q
  first_leads q r m n h go = h (λ x y st'. go x st')

  pub first_stops : (m : Followed E) (e : WalkError) → StopsTwo m e walk → Stops m e (λ st go. walk st (λ x y st'. go x st'))
  first_stops m e h go = h (λ x y st'. go x st')

-- a form as a value
pub as_value : {E : Type 0} (walk : State E → (Fact → State E → Tree E) → Tree E) (k : Kind) (f : Fact) (m n : Followed E) → Leads m n walk f → Leads m n (λ st go. walk st (λ g st'. go (values.value k g) st')) (values.value k f)
as_value walk k f m n h go = h (λ g st'. go (values.value k g) st')

pub as_value_stops : {E : Type 0} (walk : State E → (Fact → State E → Tree E) → Tree E) (k : Kind) (m : Followed E) (e : WalkError) → Stops m e walk → Stops m e (λ st go. walk st (λ g st'. go (values.value k g) st'))
as_value_stops walk k m e h go = h (λ g st'. go (values.value k g) st')

-- behind a step
module _ {E : Type 0} (step : State E → (State E → Tree E) → Tree E) (walk : State E → (Fact → State E → Tree E) → Tree E) (k : Kind) where
  pub value_behind : (f : Fact) (l m n : Followed E) → Steps l m step → Leads m n walk f → Leads l n (λ st go. step st (λ st1. walk st1 (λ g st'. go (values.value k g) st'))) (values.value k f)
  value_behind f l m n a h go = a (λ st1. walk st1 (λ g st'. go (values.value k g) st')) ∙ h (λ g st'. go (values.value k g) st')

  pub stops_before : (l : Followed E) (e : WalkError) → StopsAtStep l e step → Stops l e (λ st go. step st (λ st1. walk st1 (λ g st'. go (values.value k g) st')))
  stops_before l e h go = h (λ st1. walk st1 (λ g st'. go (values.value k g) st'))

  pub stops_behind : (l m : Followed E) (e : WalkError) → Steps l m step → Stops m e walk → Stops l e (λ st go. step st (λ st1. walk st1 (λ g st'. go (values.value k g) st')))
  stops_behind l m e a h go = refused_from e _ _ (a (λ st1. walk st1 (λ g st'. go (values.value k g) st'))) (h (λ g st'. go (values.value k g) st'))

-- a product by a number
pub by_number : {E : Type 0} (s : Setting E) (k : Kind) (x y : Fact) (z : ℤ) (m n : Followed E) (view : Value → values.Value) (r : Result Value WalkError) → y ≡ constant z →
    MatchResult r (λ v. Leads m n (operators.operate s Multiply k x y) (view v)) (λ e. Stops m e (operators.operate s Multiply k x y)) →
    MatchResult r (λ v. Leads m n (walks.ranged s k (multiple z x)) (view v)) (λ e. Stops m e (walks.ranged s k (multiple z x)))
by_number s k x y z m n view r d h = subst (λ u. MatchResult r (λ v. Leads m n (operators.operate s Multiply k x u) (view v)) (λ e. Stops m e (operators.operate s Multiply k x u))) d h

-- a number above 0
pub positive_above : (y : Fact) → operators.is_positive y ≡ true → pos 0 <ℤ y.constant
positive_above y e = lt_test (pos 0) y.constant (and_parts (walks.is_number y) (int_lt (pos 0) y.constant) e).1

-- a step with an answer, and what follows of it
module _ {E A B : Type 0} (one : State E → (A → State E → Tree E) → Tree E) (two : A → State E → (B → State E → Tree E) → Tree E) where
  abbrev pub in_turn : State E → (B → State E → Tree E) → Tree E
  in_turn st go = one st (λ x st'. two x st' go)

  pub turn_leads : (a : A) (b : B) (l m n : Followed E) → Leads l m one a → Leads m n (two a) b → Leads l n in_turn b
  turn_leads a b l m n p h go = p (λ x st'. two x st' go) ∙ h go

  pub turn_stops : (l : Followed E) (e : WalkError) → Stops l e one → Stops l e in_turn
  turn_stops l e h go = h (λ x st'. two x st' go)

  pub turn_stops_behind : (a : A) (l m : Followed E) (e : WalkError) → Leads l m one a → Stops m e (two a) → Stops l e in_turn
  turn_stops_behind a l m e p h go = refused_from e _ _ (p (λ x st'. two x st' go)) (h go)

-- what follows of it as an answer or a refusal
pub turned : {E A B T : Type 0} (one : State E → (A → State E → Tree E) → Tree E) (two : A → State E → (B → State E → Tree E) → Tree E) (a : A) (l m n : Followed E) (view : T → B) (r : Result T WalkError) → Leads l m one a →
    MatchResult r (λ t. Leads m n (two a) (view t)) (λ e. Stops m e (two a)) →
    MatchResult r (λ t. Leads l n (in_turn one two) (view t)) (λ e. Stops l e (in_turn one two))
turned one two a l m n view (Ok t) p h = turn_leads one two a (view t) l m n p h
turned one two a l m n view (Err e) p h = turn_stops_behind one two a l m e p h

-- operands that were looked up
pub looked_up : {E : Type 0} (s : Setting E) (op : Operator) (k : Kind) (x y x' y' : Fact) (m n : Followed E) (view : Value → values.Value) (r : Result Value WalkError) →
    x' ≡ walks.known_form s m.state x → y' ≡ walks.known_form s m.state y →
    MatchResult r (λ v. Leads m n (operators.operate s op k x' y') (view v)) (λ e. Stops m e (operators.operate s op k x' y')) →
    MatchResult r (λ v. Leads m n (operators.known_operands s op k x y) (view v)) (λ e. Stops m e (operators.known_operands s op k x y))
looked_up s op k x y x' y' m n view (Ok v) d e h = λ go. (λ i. collect m.found (operators.operate s op k (sym d i) (sym e i) m.state go)) ∙ h go
looked_up s op k x y x' y' m n view (Err z) d e h = λ go. refused_from z _ _ (λ i. collect m.found (operators.operate s op k (sym d i) (sym e i) m.state go)) (h go)
