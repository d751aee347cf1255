-- Facts of tests, and the ways of a comparison.
use Rattle.std.proofs.Common.{◌≡◌, Bool, true, false, ◌&&◌, ◌||◌, List, [], ◌∷◌, cond, refl, sym, ap, subst, ◌∙◌}
use Rattle.std.specs.Prelude.{pos, int_lt, Option, None, Some, MatchOption, Result, Ok, Err, IsErr, IsErrAnd, MatchResult}
use Rattle.semantics.specs.Word.{Relation, Equal}
use Rattle.linear.specs.Exact.{fits, fits_i64, fits_terms}
use Rattle.linear.specs.Forms.{form}
use Rattle.linear.specs.declared.form.Form.{Form}
use Rattle.facts.specs.Symbols.{Fact, minus}
use Rattle.facts.specs.Elements.{is_below_zero}
use Rattle.facts.specs.Refusals.{IsMemory, IsUnfit}
use Rattle.facts.specs.declared.error.WalkError.{WalkError}
use Rattle.facts.specs.declared.error.WalkError.TheVariants as errors
use Rattle.walk_trees.specs.Held.{narrow}
use Rattle.walk_trees.specs.Trees.{Tree}
use Rattle.walk_trees.specs.Walks as walks
use Rattle.walk_trees.specs.Walks.{Setting, State, bounds_of, is_none, is_dead, unless_dead, is_left_out, is_either_left_out, are_both_left_out, fork_unless, know_test, know_two, holding}
use Rattle.walk_trees.specs.Joined.{are_joined, told_apart}
use Rattle.walk_trees.specs.Tests.{Outcomes, below, split, split_below, split_apart, split_from_zero, split_rest, split_sign}
use Rattle.walk_trees.specs.Terms.{chosen}
use Rattle.path_steps.specs.Paths.{Found, Followed, collect, with_fact, with_held, choosing, choosing_unless}
use Rattle.path_steps.specs.Leads.{Steps, Leads}
use Rattle.path_steps.specs.Refusals.{Refused, StopsAtStep}
use Rattle.path_steps.specs.Halts.{Ended, HaltsAtStep, Halts}
use Rattle.path_steps.specs.declared.halt.Halt.{Halt}
use Rattle.path_steps.specs.declared.halt.Halt.TheVariants as halts
use Rattle.path_steps.specs.Sides.{side, split_sides, one_below, one_way, apart, choosing_side, choosing_equal, AreLeftOut}
use Rattle.path_steps.specs.declared.tests.LeftOut.{LeftOut}
use Rattle.path_steps.proofs.Refusing.{unfit_fact, refused_from}

pub know_steps : {E : Type 0} (s : Setting E) (w b : Bool) (f : Fact) (l m n : Followed E) → b ≡ is_left_out s w f l.state → b ≡ false → m ≡ with_held l (narrow s.domain s.known f l.state.held) → n ≡ with_fact m f → Steps l n (know_test s w f)
unfolding collect
know_steps s w b f l m n d p h e go =
    ap (λ c. collect l.found (unless_dead c f (go (holding (narrow s.domain s.known f l.state.held) l.state)))) (sym d ∙ p)
    ∙ ap (λ (u : Followed _). collect (with_fact u f).found (go u.state)) (sym h)
    ∙ ap (λ (u : Followed _). collect u.found (go u.state)) (sym e)

pub know_dead : {E : Type 0} (s : Setting E) (w b : Bool) (f : Fact) (m : Followed E) → b ≡ is_left_out s w f m.state → b ≡ true → (go : State E → Tree E) → collect m.found (know_test s w f m.state go) ≡ m.found
unfolding collect
know_dead s w b f m d p go = ap (λ c. collect m.found (unless_dead c f (go (holding (narrow s.domain s.known f m.state.held) m.state)))) (sym d ∙ p)

-- what does not fit is not dead
alive : (a b c d : Bool) → a ≡ false → (b && (a && c)) ≡ false
alive true b c d h = absurd cc
alive false true c d h = refl
alive false false c d h = refl

unfit_alive : (f : Fact) (n : Bool) → n ≡ is_none f.terms → fits f ≡ false → is_dead f ≡ false
unfit_alive f n d h = by f.terms refl
  where
    by : (ts : List _) → ts ≡ f.terms → is_dead f ≡ false
    by [] e = alive (fits_i64 f.constant) (is_none f.terms) (int_lt f.constant (pos 0)) true (one (fits_i64 f.constant) (ap (λ l. fits_i64 f.constant && fits_terms l) e ∙ h))
      where
        one : (a : Bool) → (a && true) ≡ false → a ≡ false
        one true k = k
        one false k = refl
    by (t ∷ ts) e = ap (λ l. is_none l && (fits_i64 f.constant && int_lt f.constant (pos 0))) (sym e)

-- and no elements refute it
unrefuted : (w a c d : Bool) → a ≡ false → d ≡ false → ((w && (a && c)) || d) ≡ false
unrefuted w true c d h k = absurd cc
unrefuted true false c d h k = k
unrefuted false false c d h k = k

pub unfit_test : {E : Type 0} (s : Setting E) (w : Bool) (f : Fact) (m : Followed E) (e : WalkError) → IsUnfit e f → StopsAtStep m e (know_test s w f)
unfit_test s w f m errors.TooMany h go = absurd h
unfit_test s w f m errors.TooLarge h go =
    let rest = go (holding (narrow s.domain s.known f m.state.held) m.state) in
    let goes_on = unrefuted w (fits f) (is_below_zero (bounds_of s m.state f).high) (is_dead f) h (unfit_alive f (is_none f.terms) refl h) in
    subst (λ c. Refused errors.TooLarge (collect m.found (unless_dead c f rest))) (sym goes_on) (unfit_fact errors.TooLarge m.found f rest h)
unfit_test s w f m errors.Memory h go = tt

-- a way that is asked for by its fact
pub asked_made : {E : Type 0} (s : Setting E) (w : Bool) (st : State E) (r : Result Form WalkError) (x : Form) (b : Bool) → r ≡ Ok x → b ≡ is_left_out s w (form x) st →
    (f : Fact) → MatchResult r (λ y. form y ≡ f) (λ e. IsUnfit e f) → b ≡ is_left_out s w f st
asked_made s w st r x b e d f h = d ∙ ap (λ a. is_left_out s w a st) (subst (λ q. MatchResult q (λ y. form y ≡ f) (λ x. IsUnfit x f)) e h)

pub asked_large : {E : Type 0} (s : Setting E) (w : Bool) (st : State E) (r : Result Form WalkError) → r ≡ Err errors.TooLarge → (f : Fact) → MatchResult r (λ y. form y ≡ f) (λ e. IsUnfit e f) → false ≡ is_left_out s w f st
asked_large s w st r e f h =
    let u = subst (λ q. MatchResult q (λ y. form y ≡ f) (λ x. IsUnfit x f)) e h in
    sym (unrefuted w (fits f) (is_below_zero (bounds_of s st f).high) (is_dead f) u (unfit_alive f (is_none f.terms) refl u))

pub asked_many : (r : Result Form WalkError) → r ≡ Err errors.TooMany → (f : Fact) → MatchResult r (λ y. form y ≡ f) (λ e. IsUnfit e f) → ⊥
asked_many r e f h = subst (λ q. MatchResult q (λ y. form y ≡ f) (λ x. IsUnfit x f)) e h

-- the second of two ways that are asked for, behind the first
pub either_asked : (a x y : Bool) (r : Result Bool WalkError) → a ≡ x → a ≡ false → MatchResult r (λ b. b ≡ y) IsMemory → MatchResult r (λ b. b ≡ (x || y)) IsMemory
either_asked a x y r d e h = subst (λ z. MatchResult r (λ b. b ≡ (z || y)) IsMemory) (sym e ∙ d) h

pub both_asked : (a x y : Bool) (r : Result Bool WalkError) → a ≡ x → a ≡ true → MatchResult r (λ b. b ≡ y) IsMemory → MatchResult r (λ b. b ≡ (x && y)) IsMemory
both_asked a x y r d e h = subst (λ z. MatchResult r (λ b. b ≡ (z && y)) IsMemory) (sym e ∙ d) h

-- the way where one of two is left out
pub leads_out_first : {E : Type 0} (p q : Bool) (m : Followed E) → p ≡ true → Leads m m (choosing_unless p q) false
leads_out_first p q m h go = ap (λ b. collect m.found (fork_unless b q m.state (go true) (go false))) h

pub leads_out_second : {E : Type 0} (p q : Bool) (m : Followed E) → p ≡ false → q ≡ true → Leads m m (choosing_unless p q) true
leads_out_second p q m h k go = λ i. collect m.found (fork_unless (h i) (k i) m.state (go true) (go false))

pub leads_both : {E : Type 0} (p q b : Bool) (m n : Followed E) → p ≡ false → q ≡ false → Leads m n choosing b → Leads m n (choosing_unless p q) b
leads_both p q b m n h k l go = (λ i. collect m.found (fork_unless (h i) (k i) m.state (go true) (go false))) ∙ l go

-- a step that went no further, behind another one
pub ended_from : {E : Type 0} (n : Found E) (h : Halt) (x y : Found E) → x ≡ y → Ended n h y → Ended n h x
ended_from n h x y d e = subst (Ended n h) (sym d) e

-- the two ways of a fork, each with its fact
pub chose_side : {E : Type 0} (s : Setting E) (w p q b : Bool) (f g fact : Fact) (m n : Followed E) → Leads m n (choosing_side s w f g) b → fact ≡ chosen b f g → (go : Outcomes E) → collect m.found (split_below s w p q f g m.state go) ≡ collect n.found (know_test s w fact n.state (go (chosen b p q)))
chose_side s w p q b f g fact m n h d go =
    h (λ c st. chosen c (know_test s w f st (go p)) (know_test s w g st (go q))) ∙ by b ∙ ap (λ x. collect n.found (know_test s w x n.state (go (chosen b p q)))) (sym d)
  where
    by : (c : Bool) → collect n.found (chosen c (know_test s w f n.state (go p)) (know_test s w g n.state (go q))) ≡ collect n.found (know_test s w (chosen c f g) n.state (go (chosen c p q)))
    by true = refl
    by false = refl

pub chosen_same : (b : Bool) → chosen b true false ≡ b
chosen_same true = refl
chosen_same false = refl

pub chosen_side : (r : Relation) (b : Bool) (x y : Fact) → side r b x y ≡ chosen b (side r true x y) (side r false x y)
chosen_side r true x y = refl
chosen_side r false x y = refl

pub sides_lead : {E : Type 0} (s : Setting E) (w : Bool) (r : Relation) (b : Bool) (x y : Fact) (m n k : Followed E) → Leads m n (choosing_side s w (side r true x y) (side r false x y)) b → Steps n k (know_test s w (side r b x y)) → Leads m k (split_sides s w r x y) b
sides_lead s w r b x y m n k h a go =
    chose_side s w true false b (side r true x y) (side r false x y) (side r b x y) m n h (chosen_side r b x y) go ∙ a (go (chosen b true false)) ∙ ap (λ c. collect k.found (go c k.state)) (chosen_same b)

pub sides_halt : {E : Type 0} (s : Setting E) (w : Bool) (r : Relation) (b : Bool) (x y : Fact) (m n k : Followed E) (e : Halt) → Leads m n (choosing_side s w (side r true x y) (side r false x y)) b → HaltsAtStep n k e (know_test s w (side r b x y)) → Halts m k e (split_sides s w r x y)
sides_halt s w r b x y m n k e h a go =
    ended_from k.found e _ _ (chose_side s w true false b (side r true x y) (side r false x y) (side r b x y) m n h (chosen_side r b x y) go) (a (go (chosen b true false)))

-- a fact that is known, by a form that is it
pub know_as : {E : Type 0} (s : Setting E) (w : Bool) (f fact : Fact) (m n : Followed E) (r : Result (Unit {0}) Halt) → fact ≡ f →
    MatchResult r (λ _. Steps m n (know_test s w fact)) (λ h. HaltsAtStep m n h (know_test s w fact)) →
    MatchResult r (λ _. Steps m n (know_test s w f)) (λ h. HaltsAtStep m n h (know_test s w f))
know_as s w f fact m n r d h = subst (λ x. MatchResult r (λ _. Steps m n (know_test s w x)) (λ e. HaltsAtStep m n e (know_test s w x))) d h

pub unfit_know : {E : Type 0} (s : Setting E) (w : Bool) (f : Fact) (m n : Followed E) (e : WalkError) → IsUnfit e f → HaltsAtStep m n (halts.Refused e) (know_test s w f)
unfit_know s w f m n e u go = unfit_test s w f m e u go

-- two facts
pub two_know : {E : Type 0} (s : Setting E) (w : Bool) (f g : Fact) (m n k : Followed E) (r : Result (Unit {0}) Halt) → Steps m n (know_test s w f) →
    MatchResult r (λ _. Steps n k (know_test s w g)) (λ h. HaltsAtStep n k h (know_test s w g)) →
    MatchResult r (λ _. Steps m k (know_two s w f g)) (λ h. HaltsAtStep m k h (know_two s w f g))
two_know s w f g m n k (Ok u) a h = λ go. a (λ st. know_test s w g st go) ∙ h go
two_know s w f g m n k (Err e) a h = λ go. ended_from k.found e _ _ (a (λ st. know_test s w g st go)) (h go)

pub two_halts : {E : Type 0} (s : Setting E) (w : Bool) (f g : Fact) (m n : Followed E) (e : Halt) → HaltsAtStep m n e (know_test s w f) → HaltsAtStep m n e (know_two s w f g)
two_halts s w f g m n e h go = h (λ st. know_test s w g st go)

-- the ways of a fork, whatever stands on them
pub first_way : {E : Type 0} (b : Bool) (m n : Followed E) (one two : State E → Tree E) → Leads m n choosing b → b ≡ true → collect m.found (walks.fork m.state one two) ≡ collect n.found (one n.state)
first_way b m n one two h d = h (λ c st. chosen c (one st) (two st)) ∙ ap (λ c. collect n.found (chosen c (one n.state) (two n.state))) d

pub second_way : {E : Type 0} (b : Bool) (m n : Followed E) (one two : State E → Tree E) → Leads m n choosing b → b ≡ false → collect m.found (walks.fork m.state one two) ≡ collect n.found (two n.state)
second_way b m n one two h d = h (λ c st. chosen c (one st) (two st)) ∙ ap (λ c. collect n.found (chosen c (one n.state) (two n.state))) d

-- the same of a test, of which ways may be left out
pub first_unless : {E : Type 0} (p q b : Bool) (m n : Followed E) (one two : State E → Tree E) → Leads m n (choosing_unless p q) b → b ≡ true → collect m.found (fork_unless p q m.state one two) ≡ collect n.found (one n.state)
first_unless p q b m n one two h d = h (λ c st. chosen c (one st) (two st)) ∙ ap (λ c. collect n.found (chosen c (one n.state) (two n.state))) d

pub second_unless : {E : Type 0} (p q b : Bool) (m n : Followed E) (one two : State E → Tree E) → Leads m n (choosing_unless p q) b → b ≡ false → collect m.found (fork_unless p q m.state one two) ≡ collect n.found (two n.state)
second_unless p q b m n one two h d = h (λ c st. chosen c (one st) (two st)) ∙ ap (λ c. collect n.found (chosen c (one n.state) (two n.state))) d

module _ {E : Type 0} (s : Setting E) (x y : Fact) where
  equal_out : State E → Bool
  equal_out st = is_either_left_out s s.is_wide (minus x y) (minus y x) st

  unequal_out : State E → Bool
  unequal_out st = are_both_left_out s s.is_wide (below x y) (below y x) st

  pub equal_first : (b : Bool) (m n k : Followed E) → Leads m n (choosing_equal s x y) b → b ≡ true → Steps n k (know_two s s.is_wide (minus x y) (minus y x)) → Leads m k (split s s.is_wide Equal x y) true
  unfolding equal_out unequal_out
  equal_first b m n k h d a go = first_unless (equal_out m.state) (unequal_out m.state) b m n (λ st. know_two s s.is_wide (minus x y) (minus y x) st (go true)) (λ st. apart s x y st go) h d ∙ a (go true)

  pub equal_first_halts : (b : Bool) (m n k : Followed E) (e : Halt) → Leads m n (choosing_equal s x y) b → b ≡ true → HaltsAtStep n k e (know_two s s.is_wide (minus x y) (minus y x)) → Halts m k e (split s s.is_wide Equal x y)
  unfolding equal_out unequal_out
  equal_first_halts b m n k e h d a go = ended_from k.found e _ _ (first_unless (equal_out m.state) (unequal_out m.state) b m n (λ st. know_two s s.is_wide (minus x y) (minus y x) st (go true)) (λ st. apart s x y st go) h d) (a (go true))

  pub equal_second : (b : Bool) (m n k : Followed E) (r : Result Bool Halt) → Leads m n (choosing_equal s x y) b → b ≡ false →
      MatchResult r (λ c. Leads n k (apart s x y) c) (λ e. Halts n k e (apart s x y)) →
      MatchResult r (λ c. Leads m k (split s s.is_wide Equal x y) c) (λ e. Halts m k e (split s s.is_wide Equal x y))
  unfolding equal_out unequal_out
  equal_second b m n k (Ok c) h d a = λ go. second_unless (equal_out m.state) (unequal_out m.state) b m n (λ st. know_two s s.is_wide (minus x y) (minus y x) st (go true)) (λ st. apart s x y st go) h d ∙ a go
  equal_second b m n k (Err e) h d a = λ go. ended_from k.found e _ _ (second_unless (equal_out m.state) (unequal_out m.state) b m n (λ st. know_two s s.is_wide (minus x y) (minus y x) st (go true)) (λ st. apart s x y st go) h d) (a go)

  chosen_one : (b : Bool) → chosen b false false ≡ false
  chosen_one true = refl
  chosen_one false = refl

  pub below_leads : (c : Bool) (n o k : Followed E) → Leads n o (choosing_side s s.is_wide (below x y) (below y x)) c → Steps o k (know_test s s.is_wide (side Equal c x y)) → Leads n k (one_below s x y) false
  below_leads c n o k h a go = chose_side s s.is_wide false false c (below x y) (below y x) (side Equal c x y) n o h (chosen_side Equal c x y) go ∙ a (go (chosen c false false)) ∙ ap (λ q. collect k.found (go q k.state)) (chosen_one c)

  pub below_halts : (c : Bool) (n o k : Followed E) (e : Halt) → Leads n o (choosing_side s s.is_wide (below x y) (below y x)) c → HaltsAtStep o k e (know_test s s.is_wide (side Equal c x y)) → Halts n k e (one_below s x y)
  below_halts c n o k e h a go = ended_from k.found e _ _ (chose_side s s.is_wide false false c (below x y) (below y x) (side Equal c x y) n o h (chosen_side Equal c x y) go) (a (go (chosen c false false)))

  -- joined, or not
  pub apart_joined : (more less : Fact) (m n : Followed E) (r : Result Bool Halt) → are_joined s (pos 1) (minus x y) (minus y x) m.state ≡ true → more ≡ minus x y → less ≡ minus y x →
      MatchResult r (λ c. Leads m n (one_way s more less) c) (λ e. Halts m n e (one_way s more less)) →
      MatchResult r (λ c. Leads m n (apart s x y) c) (λ e. Halts m n e (apart s x y))
  apart_joined more less m n (Ok c) j d e a = λ go. ap (λ b. collect m.found (split_apart s b x y m.state go)) j ∙ (λ i. collect m.found (told_apart s (sym d i) (sym e i) m.state (go false))) ∙ a go
  apart_joined more less m n (Err h) j d e a = λ go. ended_from n.found h _ _ (ap (λ b. collect m.found (split_apart s b x y m.state go)) j ∙ (λ i. collect m.found (told_apart s (sym d i) (sym e i) m.state (go false)))) (a go)

  pub apart_below : (m n : Followed E) (r : Result Bool Halt) → are_joined s (pos 1) (minus x y) (minus y x) m.state ≡ false →
      MatchResult r (λ c. Leads m n (one_below s x y) c) (λ e. Halts m n e (one_below s x y)) →
      MatchResult r (λ c. Leads m n (apart s x y) c) (λ e. Halts m n e (apart s x y))
  apart_below m n (Ok c) j a = λ go. ap (λ b. collect m.found (split_apart s b x y m.state go)) j ∙ a go
  apart_below m n (Err e) j a = λ go. ended_from n.found e _ _ (ap (λ b. collect m.found (split_apart s b x y m.state go)) j) (a go)

-- what there is where there is nothing, or something
pub matched_none : {A : Type 0} (o : Option A) (N : Type 0) (P : A → Type 0) → o ≡ None → MatchOption o N P → N
matched_none None N P e h = h
matched_none (Some x) N P e h = absurd cc

-- the differences of two numbers whose ways are joined
abbrev pub AreDifferences : {E : Type 0} → Setting E → (x y : Fact) → State E → (more less : Fact) → Type 0
AreDifferences s x y st more less = (are_joined s (pos 1) (minus x y) (minus y x) st ≡ true) × (more ≡ minus x y) × (less ≡ minus y x)

-- ways that are joined, and ways that are not
module _ {E : Type 0} (s : Setting E) (f g p q : Fact) where
  pub joined_ways : (form negation : Fact) (b : Bool) (m n : Followed E) (r : Result Bool Halt) → b ≡ true → form ≡ f → negation ≡ g →
      MatchResult r (λ c. Leads m n (split_from_zero s form negation) c) (λ e. Halts m n e (split_from_zero s form negation)) →
      MatchResult r (λ c. Leads m n (λ st go. cond b (split_from_zero s f g st go) (split_sign s p q f g st go)) c) (λ e. Halts m n e (λ st go. cond b (split_from_zero s f g st go) (split_sign s p q f g st go)))
  joined_ways form negation b m n (Ok c) j d e a = λ go. ap (λ x. collect m.found (cond x (split_from_zero s f g m.state go) (split_sign s p q f g m.state go))) j ∙ (λ i. collect m.found (split_from_zero s (sym d i) (sym e i) m.state go)) ∙ a go
  joined_ways form negation b m n (Err h) j d e a = λ go. ended_from n.found h _ _ (ap (λ x. collect m.found (cond x (split_from_zero s f g m.state go) (split_sign s p q f g m.state go))) j ∙ (λ i. collect m.found (split_from_zero s (sym d i) (sym e i) m.state go))) (a go)

  pub parted_ways : (b : Bool) (m n : Followed E) (r : Result Bool Halt) → b ≡ false →
      MatchResult r (λ c. Leads m n (split_sign s p q f g) c) (λ e. Halts m n e (split_sign s p q f g)) →
      MatchResult r (λ c. Leads m n (λ st go. cond b (split_from_zero s f g st go) (split_sign s p q f g st go)) c) (λ e. Halts m n e (λ st go. cond b (split_from_zero s f g st go) (split_sign s p q f g st go)))
  parted_ways b m n (Ok c) j a = λ go. ap (λ x. collect m.found (cond x (split_from_zero s f g m.state go) (split_sign s p q f g m.state go))) j ∙ a go
  parted_ways b m n (Err h) j a = λ go. ended_from n.found h _ _ (ap (λ x. collect m.found (cond x (split_from_zero s f g m.state go) (split_sign s p q f g m.state go))) j) (a go)

-- not 0, or 0
module _ {E : Type 0} (s : Setting E) (f g : Fact) where
  pub zero_first : (b : Bool) (m n k : Followed E) → Leads m n choosing b → b ≡ true → Steps n k (told_apart s f g) → Leads m k (split_from_zero s f g) true
  zero_first b m n k h d a go = first_way b m n (λ st. told_apart s f g st (go true)) (λ st. know_two s s.is_wide f g st (go false)) h d ∙ a (go true)

  pub zero_first_stops : (b : Bool) (m n k : Followed E) (e : WalkError) → Leads m n choosing b → b ≡ true → StopsAtStep n e (told_apart s f g) → Halts m k (halts.Refused e) (split_from_zero s f g)
  zero_first_stops b m n k e h d a go = refused_from e _ _ (first_way b m n (λ st. told_apart s f g st (go true)) (λ st. know_two s s.is_wide f g st (go false)) h d) (a (go true))

  pub zero_second : (b : Bool) (m n k : Followed E) → Leads m n choosing b → b ≡ false → Steps n k (know_two s s.is_wide f g) → Leads m k (split_from_zero s f g) false
  zero_second b m n k h d a go = second_way b m n (λ st. told_apart s f g st (go true)) (λ st. know_two s s.is_wide f g st (go false)) h d ∙ a (go false)

  pub zero_second_halts : (b : Bool) (m n k : Followed E) (e : Halt) → Leads m n choosing b → b ≡ false → HaltsAtStep n k e (know_two s s.is_wide f g) → Halts m k e (split_from_zero s f g)
  zero_second_halts b m n k e h d a go = ended_from k.found e _ _ (second_way b m n (λ st. told_apart s f g st (go true)) (λ st. know_two s s.is_wide f g st (go false)) h d) (a (go false))

-- above, below, or 0, by which of the ways are left out
module _ {E : Type 0} (s : Setting E) (p q f g : Fact) (out : LeftOut) where
  ways_rest : State E → Outcomes E → Tree E
  ways_rest st go = split_rest s out.second out.third q f g st go

  ways : State E → Outcomes E → Tree E
  ways st go = fork_unless out.first (out.second && out.third) st (λ a. know_test s s.is_wide p a (go true)) (λ a. ways_rest a go)

  are_ways : (m : Followed E) → AreLeftOut s p q f g m.state out → (go : Outcomes E) → collect m.found (split_sign s p q f g m.state go) ≡ collect m.found (ways m.state go)
  unfolding ways ways_rest
  are_ways m e go = λ i. collect m.found (fork_unless (sym e.0 i) (sym e.1 i && sym e.2 i) m.state (λ a. know_test s s.is_wide p a (go true)) (λ a. split_rest s (sym e.1 i) (sym e.2 i) q f g a go))

  way_first : (b : Bool) (m n : Followed E) → AreLeftOut s p q f g m.state out → Leads m n (choosing_unless out.first (out.second && out.third)) b → b ≡ true → (go : Outcomes E) → collect m.found (split_sign s p q f g m.state go) ≡ collect n.found (know_test s s.is_wide p n.state (go true))
  unfolding ways
  way_first b m n e h d go = are_ways m e go ∙ first_unless out.first (out.second && out.third) b m n (λ st. know_test s s.is_wide p st (go true)) (λ st. ways_rest st go) h d

  way_rest : (b : Bool) (m n : Followed E) → AreLeftOut s p q f g m.state out → Leads m n (choosing_unless out.first (out.second && out.third)) b → b ≡ false → (go : Outcomes E) → collect m.found (split_sign s p q f g m.state go) ≡ collect n.found (ways_rest n.state go)
  unfolding ways
  way_rest b m n e h d go = are_ways m e go ∙ second_unless out.first (out.second && out.third) b m n (λ st. know_test s s.is_wide p st (go true)) (λ st. ways_rest st go) h d

  way_second : (c : Bool) (n o : Followed E) → Leads n o (choosing_unless out.second out.third) c → c ≡ true → (go : Outcomes E) → collect n.found (ways_rest n.state go) ≡ collect o.found (know_test s s.is_wide q o.state (go true))
  unfolding ways_rest
  way_second c n o l z go = first_unless out.second out.third c n o (λ st. know_test s s.is_wide q st (go true)) (λ st. know_two s s.is_wide f g st (go false)) l z

  way_third : (c : Bool) (n o : Followed E) → Leads n o (choosing_unless out.second out.third) c → c ≡ false → (go : Outcomes E) → collect n.found (ways_rest n.state go) ≡ collect o.found (know_two s s.is_wide f g o.state (go false))
  unfolding ways_rest
  way_third c n o l z go = second_unless out.second out.third c n o (λ st. know_test s s.is_wide q st (go true)) (λ st. know_two s s.is_wide f g st (go false)) l z

  pub ways_first : (b : Bool) (m n k : Followed E) → AreLeftOut s p q f g m.state out → Leads m n (choosing_unless out.first (out.second && out.third)) b → b ≡ true → Steps n k (know_test s s.is_wide p) → Leads m k (split_sign s p q f g) true
  ways_first b m n k e h d a go = way_first b m n e h d go ∙ a (go true)

  pub ways_first_halts : (b : Bool) (m n k : Followed E) (t : Halt) → AreLeftOut s p q f g m.state out → Leads m n (choosing_unless out.first (out.second && out.third)) b → b ≡ true → HaltsAtStep n k t (know_test s s.is_wide p) → Halts m k t (split_sign s p q f g)
  ways_first_halts b m n k t e h d a go = ended_from k.found t _ _ (way_first b m n e h d go) (a (go true))

  pub ways_second : (b c : Bool) (m n o k : Followed E) → AreLeftOut s p q f g m.state out → Leads m n (choosing_unless out.first (out.second && out.third)) b → b ≡ false → Leads n o (choosing_unless out.second out.third) c → c ≡ true → Steps o k (know_test s s.is_wide q) → Leads m k (split_sign s p q f g) true
  ways_second b c m n o k e h d l z a go = way_rest b m n e h d go ∙ way_second c n o l z go ∙ a (go true)

  pub ways_second_halts : (b c : Bool) (m n o k : Followed E) (t : Halt) → AreLeftOut s p q f g m.state out → Leads m n (choosing_unless out.first (out.second && out.third)) b → b ≡ false → Leads n o (choosing_unless out.second out.third) c → c ≡ true → HaltsAtStep o k t (know_test s s.is_wide q) → Halts m k t (split_sign s p q f g)
  ways_second_halts b c m n o k t e h d l z a go = ended_from k.found t _ _ (way_rest b m n e h d go ∙ way_second c n o l z go) (a (go true))

  pub ways_third : (b c : Bool) (m n o k : Followed E) → AreLeftOut s p q f g m.state out → Leads m n (choosing_unless out.first (out.second && out.third)) b → b ≡ false → Leads n o (choosing_unless out.second out.third) c → c ≡ false → Steps o k (know_two s s.is_wide f g) → Leads m k (split_sign s p q f g) false
  ways_third b c m n o k e h d l z a go = way_rest b m n e h d go ∙ way_third c n o l z go ∙ a (go false)

  pub ways_third_halts : (b c : Bool) (m n o k : Followed E) (t : Halt) → AreLeftOut s p q f g m.state out → Leads m n (choosing_unless out.first (out.second && out.third)) b → b ≡ false → Leads n o (choosing_unless out.second out.third) c → c ≡ false → HaltsAtStep o k t (know_two s s.is_wide f g) → Halts m k t (split_sign s p q f g)
  ways_third_halts b c m n o k t e h d l z a go = ended_from k.found t _ _ (way_rest b m n e h d go ∙ way_third c n o l z go) (a (go false))

-- what is handed on as it is, and a refusal that becomes the end of a path
pub halted : {T : Type 0} (r : Result T Halt) (h : Halt) (P : T → Type 0) (Q : Halt → Type 0) → IsErr r × IsErrAnd r (λ x. x ≡ h) → Q h → MatchResult r P Q
halted (Ok x) h P Q d q = absurd d.1
halted (Err x) h P Q d q = subst Q (sym d.1) q
