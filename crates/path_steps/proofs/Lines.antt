-- Lines of the conditions, one after another: what they say of a loaded number, and what they owe of a stored one.
use Rattle.std.proofs.Common.{◌≡◌, ℕ, Bool, true, false, List, [], ◌∷◌, map, cond, nat_eq, refl, sym, ap, subst, ◌∙◌}
use Rattle.std.specs.Prelude.{Result, Ok, Err, MatchResult}
use Rattle.semantics.specs.Core.{Site, Space, Global, Local}
use Rattle.semantics.specs.Word.{Kind}
use Rattle.facts.specs.Symbols.{Fact}
use Rattle.facts.specs.Launching.{BufferBound}
use Rattle.facts.specs.Refusals.{IsUnfit}
use Rattle.facts.specs.View.{buffer_bound}
use Rattle.facts.specs.declared.contents.BufferBound as code
use Rattle.facts.specs.declared.error.WalkError.{WalkError}
use Rattle.walk_trees.specs.Bits.{tell_where}
use Rattle.walk_trees.specs.Contents.{of_buffer, contents_in, content_fact, content_owed, know_contents, claim_contents}
use Rattle.walk_trees.specs.Terms.{keep_contents}
use Rattle.walk_trees.specs.Trees.{OfContent, Tree}
use Rattle.walk_trees.specs.Values.{Value}
use Rattle.walk_trees.specs.Walks.{Setting, State, brought, claim_form, is_none, spot_at}
use Rattle.path_steps.specs.Lines.{claim_where, keep}
use Rattle.path_steps.specs.Paths.{Followed, collect, with_spot}
use Rattle.path_steps.specs.Leads.{Steps, Leads}
use Rattle.path_steps.specs.Refusals.{StopsAtStep, Stops}
use Rattle.path_steps.proofs.Refusing.{refused_from, unfit_claim}

-- lines of a buffer, as the code has them
abbrev pub all_known : {E : Type 0} → Setting E → ℕ → Fact → List code.BufferBound → State E → (State E → Tree E) → Tree E
all_known s b f xs st go = know_contents s (of_buffer b (map buffer_bound xs)) f st go

abbrev pub one_known : {E : Type 0} → Setting E → ℕ → Fact → code.BufferBound → State E → (State E → Tree E) → Tree E
one_known s b f x st go = tell_where s (nat_eq (buffer_bound x).buffer b) (content_fact (buffer_bound x) f) st go

abbrev pub all_claimed : {E : Type 0} → Setting E → ℕ → Fact → List code.BufferBound → State E → (State E → Tree E) → Tree E
all_claimed s b f xs st go = claim_contents s (of_buffer b (map buffer_bound xs)) f st go

abbrev pub one_claimed : {E : Type 0} → Setting E → ℕ → Fact → code.BufferBound → State E → (State E → Tree E) → Tree E
one_claimed s b f x st go = claim_where s (nat_eq (buffer_bound x).buffer b) (buffer_bound x) f st go

-- the first line, then the others
module _ {E : Type 0} (s : Setting E) (f : Fact) (x : BufferBound) (xs : List BufferBound) (st : State E) (go : State E → Tree E) where
  known_by : (c : Bool) → know_contents s (cond c (x ∷ xs) xs) f st go ≡ tell_where s c (content_fact x f) st (λ st'. know_contents s xs f st' go)
  known_by true = refl
  known_by false = refl

  claimed_by : (c : Bool) → claim_contents s (cond c (x ∷ xs) xs) f st go ≡ claim_where s c x f st (λ st'. claim_contents s xs f st' go)
  claimed_by true = refl
  claimed_by false = refl

module _ {E : Type 0} (s : Setting E) (b : ℕ) (f : Fact) (x : code.BufferBound) (xs : List code.BufferBound) (st : State E) (go : State E → Tree E) where
  pub known_front : all_known s b f (x ∷ xs) st go ≡ one_known s b f x st (λ st'. all_known s b f xs st' go)
  known_front = known_by s f (buffer_bound x) (of_buffer b (map buffer_bound xs)) st go (nat_eq (buffer_bound x).buffer b)

  pub claimed_front : all_claimed s b f (x ∷ xs) st go ≡ one_claimed s b f x st (λ st'. all_claimed s b f xs st' go)
  claimed_front = claimed_by s f (buffer_bound x) (of_buffer b (map buffer_bound xs)) st go (nat_eq (buffer_bound x).buffer b)

-- the lines of a buffer are those of its array
pub known_in : {E : Type 0} (s : Setting E) (sp : Space) (b : ℕ) (f : Fact) (m n : Followed E) (r : Result (Unit {0}) WalkError) → sp ≡ Global →
    MatchResult r (λ _. Steps m n (know_contents s (of_buffer b s.contents) f)) (λ e. StopsAtStep m e (know_contents s (of_buffer b s.contents) f)) →
    MatchResult r (λ _. Steps m n (know_contents s (contents_in s sp b) f)) (λ e. StopsAtStep m e (know_contents s (contents_in s sp b) f))
known_in s Global b f m n r d h = h
known_in s Local b f m n r d h = absurd cc

-- a line of another buffer
pub told_not : {E : Type 0} (s : Setting E) (c : Bool) (f : Fact) (m : Followed E) → c ≡ false → Steps m m (tell_where s c f)
told_not s c f m d go = ap (λ a. collect m.found (tell_where s a f m.state go)) d

pub claimed_not : {E : Type 0} (s : Setting E) (c : Bool) (x : BufferBound) (f : Fact) (m : Followed E) → c ≡ false → Steps m m (claim_where s c x f)
claimed_not s c x f m d go = ap (λ a. collect m.found (claim_where s a x f m.state go)) d

-- a line of this one
module _ {E : Type 0} (s : Setting E) (c : Bool) (d : c ≡ true) where
  pub told_so : (f fact : Fact) (m n : Followed E) (r : Result (Unit {0}) WalkError) → fact ≡ f →
      MatchResult r (λ _. Steps m n (tell_where s true fact)) (λ e. StopsAtStep m e (tell_where s true fact)) →
      MatchResult r (λ _. Steps m n (tell_where s c f)) (λ e. StopsAtStep m e (tell_where s c f))
  told_so f fact m n r p h = subst (λ a. MatchResult r (λ _. Steps m n (tell_where s a f)) (λ e. StopsAtStep m e (tell_where s a f))) (sym d) (subst (λ x. MatchResult r (λ _. Steps m n (tell_where s true x)) (λ e. StopsAtStep m e (tell_where s true x))) p h)

  pub told_unfit : (f : Fact) (m : Followed E) (e : WalkError) → StopsAtStep m e (tell_where s true f) → StopsAtStep m e (tell_where s c f)
  told_unfit f m e h = subst (λ a. StopsAtStep m e (tell_where s a f)) (sym d) h

  pub claimed_so : (x : BufferBound) (f owed : Fact) (m n : Followed E) (r : Result (Unit {0}) WalkError) → owed ≡ content_owed x.is_upper x.sum f →
      MatchResult r (λ _. Steps m n (claim_form s OfContent true owed)) (λ e. StopsAtStep m e (claim_form s OfContent true owed)) →
      MatchResult r (λ _. Steps m n (claim_where s c x f)) (λ e. StopsAtStep m e (claim_where s c x f))
  claimed_so x f owed m n r p h = subst (λ a. MatchResult r (λ _. Steps m n (claim_where s a x f)) (λ e. StopsAtStep m e (claim_where s a x f))) (sym d) (subst (λ y. MatchResult r (λ _. Steps m n (claim_form s OfContent true y)) (λ e. StopsAtStep m e (claim_form s OfContent true y))) p h)

  pub claimed_unfit : (x : BufferBound) (f : Fact) (m : Followed E) (e : WalkError) → IsUnfit e (content_owed x.is_upper x.sum f) → StopsAtStep m e (claim_where s c x f)
  claimed_unfit x f m e h = subst (λ a. StopsAtStep m e (claim_where s a x f)) (sym d) (λ go. unfit_claim e m.found _ true _ (content_owed x.is_upper x.sum f) _ h)

-- a value is brought to a kind, and then its lines are claimed
module _ {E : Type 0} (s : Setting E) (xs : List BufferBound) (k : Kind) (site : Site) (v : Value) where
  pub keep_steps : (l m n o : Followed E) (v' : Value) (r : Result (Unit {0}) WalkError) → m ≡ with_spot l (spot_at site l.state) → Leads m n (brought s k v) v' →
      MatchResult r (λ _. Steps n o (claim_contents s xs v'.form)) (λ e. StopsAtStep n e (claim_contents s xs v'.form)) →
      MatchResult r (λ _. Steps l o (keep s xs k site v)) (λ e. StopsAtStep l e (keep s xs k site v))
  keep_steps l m n o v' r d a h = by r h
    where
      there : (go : State E → Tree E) → collect l.found (keep s xs k site v l.state go) ≡ collect n.found (claim_contents s xs v'.form n.state go)
      there go = ap (λ (u : Followed _). collect u.found (brought s k v u.state (λ w st'. claim_contents s xs w.form st' go))) (sym d) ∙ a (λ w st'. claim_contents s xs w.form st' go)

      by : (q : Result (Unit {0}) WalkError) → MatchResult q (λ _. Steps n o (claim_contents s xs v'.form)) (λ e. StopsAtStep n e (claim_contents s xs v'.form)) → MatchResult q (λ _. Steps l o (keep s xs k site v)) (λ e. StopsAtStep l e (keep s xs k site v))
      by (Ok u) p = λ go. there go ∙ p go
      by (Err e) p = λ go. refused_from e _ _ (there go) (p go)

  pub keep_stops : (l m : Followed E) (e : WalkError) → m ≡ with_spot l (spot_at site l.state) → Stops m e (brought s k v) → StopsAtStep l e (keep s xs k site v)
  keep_stops l m e d h go = refused_from e _ _ (ap (λ (u : Followed _). collect u.found (brought s k v u.state (λ w st'. claim_contents s xs w.form st' go))) (sym d)) (h (λ w st'. claim_contents s xs w.form st' go))

-- without lines nothing is asked
pub keep_none : {E : Type 0} (s : Setting E) (xs : List BufferBound) (k : Kind) (site : Site) (v : Value) (c : Bool) (m : Followed E) → c ≡ is_none xs → c ≡ true → Steps m m (keep_contents s xs k site v)
keep_none s [] k site v c m d e go = refl
keep_none s (x ∷ xs) k site v c m d e go = absurd cc

pub keep_some : {E : Type 0} (s : Setting E) (xs : List BufferBound) (k : Kind) (site : Site) (v : Value) (c : Bool) (m n : Followed E) (r : Result (Unit {0}) WalkError) → c ≡ is_none xs → c ≡ false →
    MatchResult r (λ _. Steps m n (keep s xs k site v)) (λ e. StopsAtStep m e (keep s xs k site v)) →
    MatchResult r (λ _. Steps m n (keep_contents s xs k site v)) (λ e. StopsAtStep m e (keep_contents s xs k site v))
keep_some s [] k site v c m n r d e h = absurd cc
keep_some s (x ∷ xs) k site v c m n r d e h = h
