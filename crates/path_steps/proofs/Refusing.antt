-- A refusal of a part is one of the whole.
use Rattle.std.proofs.Common.{◌≡◌, ℕ, Bool, false, List, sym, ap, subst, ◌∙◌, ◌⊎◌, inl, inr}
use Rattle.std.specs.Prelude.{ℤ, Option, Some, Result, Ok, Err, MatchResult}
use Rattle.semantics.specs.Word.{Kind, Uint}
use Rattle.domain.specs.declared.Bounds.{Bounds}
use Rattle.linear.specs.Exact.{fits}
use Rattle.facts.specs.Symbols.{Fact, constant, minus}
use Rattle.facts.specs.Refusals.{IsUnfit}
use Rattle.facts.specs.declared.error.WalkError.{WalkError}
use Rattle.facts.specs.declared.error.WalkError.TheVariants as errors
use Rattle.facts.proofs.Tests.{and_left, and_right}
use Rattle.walk_trees.specs.Held as held
use Rattle.walk_trees.specs.Trees.{Sort, OfRange, Demand, Goal, AtLeastZero, Either, Tree, Leaf, Dead, Claim, Know, Touch, Fork}
use Rattle.walk_trees.specs.Values as values
use Rattle.walk_trees.specs.Walks as walks
use Rattle.walk_trees.specs.Walks.{Setting, State, Onward, settles, newest, claimed_once, demand, know_all, bound_facts, lower_fact, upper_fact, low_end, high_end, least, greatest}
use Rattle.path_steps.specs.Paths.{Choice, First, Other, front, by_choice, is_goal_fit, Found, Followed, collect, add_claim, add_fact, add_access, take_first, take_other, with_claim}
use Rattle.path_steps.specs.declared.path.Value.{Value}
use Rattle.path_steps.proofs.Leading.{wraps}
use Rattle.path_steps.specs.Leads.{Steps, Leads}
use Rattle.path_steps.specs.Refusals.{Refused, StopsAtStep, Stops, IsGoalUnfit}

-- tests that were false stay so
record Falls {E : Type 0} (m n : Found E) : Type 0 where
  unfit : m.is_fit ≡ false → n.is_fit ≡ false
  many : m.is_few ≡ false → n.is_few ≡ false

fell : {E : Type 0} (e : WalkError) (m n : Found E) → Falls m n → Refused e m → Refused e n
fell errors.TooMany m n g h = g.many h
fell errors.TooLarge m n g h = g.unfit h
fell errors.Memory m n g h = tt

either : {A : Type 0} (P : A → Type 0) (c : Choice) (x : A) (y : ℕ → A) → P x → ((n : ℕ) → P (y n)) → P (by_choice c x y)
either P First x y h k = h
either P (Other n) x y h k = k n

-- whatever is found behind it
pub refused_stays : {E : Type 0} (e : WalkError) (m : Found E) (t : Tree E) → Refused e m → Refused e (collect m t)
unfolding collect
refused_stays errors.TooMany m (Leaf end) h = h
refused_stays errors.TooLarge m (Leaf end) h = h
refused_stays errors.Memory m (Leaf end) h = h
refused_stays e m Dead h = h
refused_stays e m (Claim a needed settled g rest) h = refused_stays e (add_claim m a needed settled g) rest (fell e m (add_claim m a needed settled g) (record { unfit = and_left _ _; many = and_left _ _ }) h)
refused_stays e m (Know f rest) h = refused_stays e (add_fact m f) rest (fell e m (add_fact m f) (record { unfit = and_left _ _; many = λ x. x }) h)
refused_stays e m (Touch t i k rest) h = refused_stays e (add_access m t i k) rest (fell e m (add_access m t i k) (record { unfit = and_left _ _; many = λ x. x }) h)
refused_stays e m (Fork first second) h = either (Refused e) (front m.left) (collect (take_first m) first) (λ n. collect (take_other n m) (second n))
    (refused_stays e (take_first m) first (fell e m (take_first m) (record { unfit = λ x. x; many = λ x. x }) h))
    (λ n. refused_stays e (take_other n m) (second n) (fell e m (take_other n m) (record { unfit = λ x. x; many = λ x. x }) h))

-- a refusal behind a step
pub refused_from : {E : Type 0} (e : WalkError) (m n : Found E) → m ≡ n → Refused e n → Refused e m
refused_from e m n d h = subst (Refused e) (sym d) h

-- a form that was not made
unfit_claims : {E : Type 0} (e : WalkError) (m : Found E) (o : Demand) (needed settled : Bool) (f : Fact) → IsUnfit e f → Refused e (add_claim m o needed settled (AtLeastZero f))
unfit_claims errors.TooMany m o needed settled f h = absurd h
unfit_claims errors.TooLarge m o needed settled f h = and_right m.is_fit (fits f) h
unfit_claims errors.Memory m o needed settled f h = tt

pub unfit_facts : {E : Type 0} (e : WalkError) (m : Found E) (f : Fact) → IsUnfit e f → Refused e (add_fact m f)
unfit_facts errors.TooMany m f h = absurd h
unfit_facts errors.TooLarge m f h = and_right m.is_fit (fits f) h
unfit_facts errors.Memory m f h = tt

-- as a claim
pub unfit_claim : {E : Type 0} (e : WalkError) (m : Found E) (o : Demand) (needed settled : Bool) (f : Fact) (rest : Tree E) → IsUnfit e f → Refused e (collect m (Claim o needed settled (AtLeastZero f) rest))
unfolding collect
unfit_claim e m o needed settled f rest h = refused_stays e (add_claim m o needed settled (AtLeastZero f)) rest (unfit_claims e m o needed settled f h)

pub second_claim : {E : Type 0} (e : WalkError) (m : Found E) (o : Demand) (n s : Bool) (g : Goal) (o' : Demand) (n' s' : Bool) (f : Fact) (rest : Tree E) → IsUnfit e f → Refused e (collect m (Claim o n s g (Claim o' n' s' (AtLeastZero f) rest)))
unfolding collect
second_claim e m o n s g o' n' s' f rest h = unfit_claim e (add_claim m o n s g) o' n' s' f rest h

-- as a fact
pub unfit_fact : {E : Type 0} (e : WalkError) (m : Found E) (f : Fact) (rest : Tree E) → IsUnfit e f → Refused e (collect m (Know f rest))
unfolding collect
unfit_fact e m f rest h = refused_stays e (add_fact m f) rest (unfit_facts e m f h)

pub claim_stops : {E : Type 0} (s : Setting E) (o : Sort) (needed settled : Bool) (f : Fact) (m : Followed E) (e : WalkError) → settled ≡ settles s m.state f → Refused e (with_claim m o needed settled (AtLeastZero f)).found → StopsAtStep m e (walks.claim_form s o needed f)
unfolding collect
claim_stops s o needed settled f m e d h go = refused_stays e (add_claim m.found (demand o m.state) needed (settles s m.state f) (AtLeastZero f)) (go (claimed_once m.state)) (subst (λ b. Refused e (add_claim m.found (demand o m.state) needed b (AtLeastZero f))) d h)

pub low_stops : {E : Type 0} (s : Setting E) (needed : Bool) (k : Kind) (f : Fact) (m : Followed E) (e : WalkError) → IsUnfit e (low_end k f) → StopsAtStep m e (walks.in_range s needed k f)
low_stops s needed k f m e h go = unfit_claim e m.found _ needed _ (low_end k f) _ h

pub high_stops : {E : Type 0} (s : Setting E) (needed : Bool) (k : Kind) (f : Fact) (m : Followed E) (e : WalkError) → IsUnfit e (high_end k f) → StopsAtStep m e (walks.in_range s needed k f)
high_stops s needed k f m e h go = second_claim e m.found _ needed _ (AtLeastZero (low_end k f)) _ needed _ (high_end k f) _ h

pub first_stops : {E : Type 0} (s : Setting E) (needed : Bool) (k : Kind) (f low : Fact) (m : Followed E) (e : WalkError) → low ≡ low_end k f → StopsAtStep m e (walks.claim_form s (OfRange k) needed low) → StopsAtStep m e (walks.in_range s needed k f)
first_stops s needed k f low m e d h go = subst (λ x. Refused e (collect m.found (walks.claim_form s (OfRange k) needed x m.state (λ st. walks.claim_form s (OfRange k) needed (high_end k f) st go)))) d (h (λ st. walks.claim_form s (OfRange k) needed (high_end k f) st go))

pub second_stops : {E : Type 0} (s : Setting E) (needed : Bool) (k : Kind) (f low high : Fact) (l m : Followed E) (e : WalkError) → low ≡ low_end k f → high ≡ high_end k f → Steps l m (walks.claim_form s (OfRange k) needed low) → StopsAtStep m e (walks.claim_form s (OfRange k) needed high) → StopsAtStep l e (walks.in_range s needed k f)
second_stops s needed k f low high l m e d p a h go =
    refused_from e _ (collect m.found (walks.claim_form s (OfRange k) needed high m.state go))
    ((λ i. collect l.found (walks.claim_form s (OfRange k) needed (sym d i) l.state (λ st. walks.claim_form s (OfRange k) needed (sym p i) st go))) ∙ a (λ st. walks.claim_form s (OfRange k) needed high st go))
    (h go)

pub kept_stops : {E : Type 0} (s : Setting E) (f : Fact) (m : Followed E) (e : WalkError) → IsUnfit e (low_end Uint f) ⊎ IsUnfit e (high_end Uint f) → Stops m e (walks.ranged s Uint f)
kept_stops s f m e (inl h) go = low_stops s (walks.is_kept s f m.state) Uint f m e h (λ st. walks.kept_or_new s (walks.is_kept s f m.state) f st go)
kept_stops s f m e (inr h) go = high_stops s (walks.is_kept s f m.state) Uint f m e h (λ st. walks.kept_or_new s (walks.is_kept s f m.state) f st go)

pub range_stops : {E : Type 0} (s : Setting E) (kept : Bool) (f : Fact) (m : Followed E) (e : WalkError) → kept ≡ walks.is_kept s f m.state → StopsAtStep m e (walks.in_range s kept Uint f) → Stops m e (walks.ranged s Uint f)
range_stops s kept f m e d h go = subst (λ b. Refused e (collect m.found (walks.in_range s b Uint f m.state (λ st. walks.kept_or_new s b f st go)))) d (h (λ st. walks.kept_or_new s kept f st go))

pub wrapped_stops : {E : Type 0} (s : Setting E) (kept : Bool) (f : Fact) (l m : Followed E) (e : WalkError) → kept ≡ walks.is_kept s f l.state → kept ≡ false → Steps l m (walks.in_range s kept Uint f) → Stops m e (walks.unknown s Uint) → Stops l e (walks.ranged s Uint f)
wrapped_stops s kept f l m e d p a h go =
    refused_from e _ _
    ((λ i. collect l.found (walks.in_range s (sym d i) Uint f l.state (λ st'. walks.kept_or_new s (sym d i) f st' go)))
    ∙ a (λ st'. walks.kept_or_new s kept f st' go)
    ∙ ap (λ c. collect m.found (walks.kept_or_new s c f m.state go)) p)
    (h go)

-- a bound of a new symbol
pub low_refused : {E : Type 0} (f : Fact) (low : Option ℤ) (z : ℤ) (m : Followed E) (e : WalkError) → low ≡ Some z → IsUnfit e (minus f (constant z)) → (more : List Fact) (rest : Tree E) → Refused e (collect m.found (know_all (lower_fact f low more) rest))
low_refused f low z m e d h more rest = subst (λ o. Refused e (collect m.found (know_all (lower_fact f o more) rest))) (sym d) (unfit_fact e m.found (minus f (constant z)) (know_all more rest) h)

pub high_refused : {E : Type 0} (f : Fact) (high : Option ℤ) (z : ℤ) (m : Followed E) (e : WalkError) → high ≡ Some z → IsUnfit e (minus (constant z) f) → (rest : Tree E) → Refused e (collect m.found (know_all (upper_fact f high) rest))
high_refused f high z m e d h rest = subst (λ o. Refused e (collect m.found (know_all (upper_fact f o) rest))) (sym d) (unfit_fact e m.found (minus (constant z) f) rest h)

pub invent_low : {E : Type 0} (s : Setting E) (x : E) (new : Fact) (bounds : Bounds) (k : Followed E) (e : WalkError) → new ≡ newest k.state → bounds ≡ s.domain.bounds_of x →
    ((more : List Fact) (rest : Tree E) → Refused e (collect k.found (know_all (lower_fact new bounds.low more) rest))) → Stops k e (walks.invent s x)
invent_low s x new bounds k e d b h go =
    let rest = go (newest k.state) (walks.holding (held.with_new x k.state.held) k.state) in
    refused_from e _ _ (λ i. collect k.found (know_all (bound_facts (sym d i) (sym b i)) rest)) (h (upper_fact new bounds.high) rest)

pub invent_high : {E : Type 0} (s : Setting E) (x : E) (new : Fact) (bounds : Bounds) (k l : Followed E) (e : WalkError) → new ≡ newest k.state → bounds ≡ s.domain.bounds_of x →
    ((more : List Fact) (rest : Tree E) → collect k.found (know_all (lower_fact new bounds.low more) rest) ≡ collect l.found (know_all more rest)) →
    ((rest : Tree E) → Refused e (collect l.found (know_all (upper_fact new bounds.high) rest))) → Stops k e (walks.invent s x)
invent_high s x new bounds k l e d b low h go =
    let rest = go (newest k.state) (walks.holding (held.with_new x k.state.held) k.state) in
    refused_from e _ _ ((λ i. collect k.found (know_all (bound_facts (sym d i) (sym b i)) rest)) ∙ low (upper_fact new bounds.high) rest) (h rest)

-- what an answer and a refusal say of the whole, where the last step is one for one
pub wrapped : {E : Type 0} (s : Setting E) (kept : Bool) (f : Fact) (l m n : Followed E) (view : Value → values.Value) (r : Result Value WalkError) → kept ≡ walks.is_kept s f l.state → kept ≡ false → Steps l m (walks.in_range s kept Uint f) →
    MatchResult r (λ v. Leads m n (walks.unknown s Uint) (view v)) (λ e. Stops m e (walks.unknown s Uint)) →
    MatchResult r (λ v. Leads l n (walks.ranged s Uint f) (view v)) (λ e. Stops l e (walks.ranged s Uint f))
wrapped s kept f l m n view (Ok v) d p a h = wraps s kept f (view v) l m n d p a h
wrapped s kept f l m n view (Err e) d p a h = wrapped_stops s kept f l m e d p a h

pub unknown_stops : {E : Type 0} (s : Setting E) (k : Kind) (x : E) (m : Followed E) (e : WalkError) → x ≡ walks.any_of s.domain k → Stops m e (walks.invent s x) → Stops m e (walks.unknown s k)
unknown_stops s k x m e d h go = subst (λ y. Refused e (collect m.found (walks.invent s y m.state (λ g st'. go (values.value k g) st')))) d (h (λ g st'. go (values.value k g) st'))

-- any goal as a claim
pub goal_steps : {E : Type 0} (o : Sort) (needed b settled : Bool) (g goal : Goal) (m n : Followed E) → settled ≡ b → goal ≡ g → n ≡ with_claim m o needed settled goal → Steps m n (walks.claim o needed b g)
unfolding collect
goal_steps o needed b settled g goal m n d e f go =
    (λ i. collect (add_claim m.found (demand o m.state) needed (sym d i) (sym e i)) (go (claimed_once m.state)))
    ∙ ap (λ (u : Followed _). collect u.found (go u.state)) (sym f)

pub goal_stops : {E : Type 0} (o : Sort) (needed b settled : Bool) (g goal : Goal) (m : Followed E) (e : WalkError) → settled ≡ b → goal ≡ g → Refused e (with_claim m o needed settled goal).found → StopsAtStep m e (walks.claim o needed b g)
unfolding collect
goal_stops o needed b settled g goal m e d p h go =
    refused_stays e (add_claim m.found (demand o m.state) needed b g) (go (claimed_once m.state)) (subst (Refused e) (λ i. add_claim m.found (demand o m.state) needed (d i) (p i)) h)

goal_unfit : {E : Type 0} (e : WalkError) (m : Found E) (o : Demand) (needed settled : Bool) (g : Goal) → IsGoalUnfit e g → Refused e (add_claim m o needed settled g)
goal_unfit errors.TooMany m o needed settled g h = absurd h
goal_unfit errors.TooLarge m o needed settled g h = and_right m.is_fit (is_goal_fit g) h
goal_unfit errors.Memory m o needed settled g h = tt

pub unfit_goal : {E : Type 0} (o : Sort) (needed b : Bool) (g : Goal) (m : Followed E) (e : WalkError) → IsGoalUnfit e g → StopsAtStep m e (walks.claim o needed b g)
unfolding collect
unfit_goal o needed b g m e h go = refused_stays e (add_claim m.found (demand o m.state) needed b g) (go (claimed_once m.state)) (goal_unfit e m.found (demand o m.state) needed b g h)

pub positive_unfit : (e : WalkError) (p n : Fact) → IsUnfit e p → IsGoalUnfit e (Either p n)
positive_unfit errors.TooMany p n h = h
positive_unfit errors.TooLarge p n h = and_left (fits p) (fits n) h
positive_unfit errors.Memory p n h = h

pub negative_unfit : (e : WalkError) (p n : Fact) → IsUnfit e n → IsGoalUnfit e (Either p n)
negative_unfit errors.TooMany p n h = h
negative_unfit errors.TooLarge p n h = and_right (fits p) (fits n) h
negative_unfit errors.Memory p n h = h

-- one step after another
pub then_step : {E : Type 0} (one two : State E → (State E → Tree E) → Tree E) (l m n : Followed E) (r : Result (Unit {0}) WalkError) → Steps l m one →
    MatchResult r (λ _. Steps m n two) (λ e. StopsAtStep m e two) →
    MatchResult r (λ _. Steps l n (λ st go. one st (λ st'. two st' go))) (λ e. StopsAtStep l e (λ st go. one st (λ st'. two st' go)))
then_step one two l m n (Ok u) a h = λ go. a (λ st'. two st' go) ∙ h go
then_step one two l m n (Err e) a h = λ go. refused_from e _ _ (a (λ st'. two st' go)) (h go)

pub step_stops : {E : Type 0} (one two : State E → (State E → Tree E) → Tree E) (l : Followed E) (e : WalkError) → StopsAtStep l e one → StopsAtStep l e (λ st go. one st (λ st'. two st' go))
step_stops one two l e h go = h (λ st'. two st' go)
