-- A loop's ranking on a path.
use Rattle.std.proofs.Common.{◌≡◌, ℕ, Bool, true, false, cond, List, [], ◌∷◌, ◌++◌, sym, ap, subst, ◌∙◌}
use Rattle.std.specs.Prelude.{pos, Result, MatchResult}
use Rattle.std.proofs.lemmas.List.{append-nil}
use Rattle.facts.specs.Symbols.{Fact, constant}
use Rattle.facts.specs.Refusals.{IsUnfit}
use Rattle.facts.specs.declared.error.WalkError.{WalkError}
use Rattle.walk_trees.specs.Trees.{OfRanking, Spot, Tree, Replaced}
use Rattle.walk_trees.specs.Walks.{State, settles, claim, with_rank, rank_form, stand}
use Rattle.obligations.specs.Notes.{Bound, opens, holds, fallen, fallen_by}
use Rattle.obligations.specs.Replacing.{replaced, made}
use Rattle.obligations.specs.Walking.{Placed, on_path, never, if_replaced, has_form, claim_rank, rank_on, arrive}
use Rattle.path_steps.specs.Paths.{Followed, collect, with_spot, with_ranked}
use Rattle.path_steps.specs.Leads.{Steps}
use Rattle.path_steps.specs.Refusals.{StopsAtStep}
use Rattle.path_steps.proofs.Refusing.{unfit_goal}
use Rattle.arrival_claims.specs.Unfit.{IsNotPut}
use Rattle.arrival_claims.specs.Claims.{claim_told, put_opened, put_fallen, put_entered, never_entered, claim_opened, claim_fallen, claim_entered}
use Rattle.arrival_claims.proofs.Lines.{unfit_replaced, unfit_told, before}
use Rattle.arrival_claims.proofs.Making.{unfit_among}
use Rattle.arrival_claims.proofs.Putting.{Walk, Does, does_as, does_same, put_does, never_does, unmade_stops}

-- a ranking that was put in the path's terms, by the forms that were made
module _ {E : Type 0} (w : Placed E) (n : ℕ) (l : Followed E) where
  abbrev rank : Fact
  rank = (w.notes.ranking n).form

  pub rank_there : has_form w l.state rank ≡ true → rank_on w n l.state ≡ replaced (on_path w l.state) rank
  rank_there e = ap (λ b. cond b (replaced (on_path w l.state) rank) (constant (pos 0))) e

  pub rank_nowhere : has_form w l.state rank ≡ false → rank_on w n l.state ≡ constant (pos 0)
  rank_nowhere e = ap (λ b. cond b (replaced (on_path w l.state) rank) (constant (pos 0))) e

  -- a claim of it
  module _ (extra : State E → List Fact) (f : State E → Fact) where
    abbrev claims : State E → Walk E
    claims st = claim OfRanking true (settles w.setting st (f st)) (Replaced (made (on_path w st) rank ++ extra st) (f st))

    pub rank_does : (m : Followed E) (ms : List Fact) (g : Fact) (r : Result (Unit {0}) WalkError) → has_form w l.state rank ≡ true → ms ≡ made (on_path w l.state) rank ++ extra l.state → g ≡ f l.state →
        Does l m r (claim_told w.setting OfRanking ms g) → Does l m r (λ st go. claim_rank w n (extra st) (f st) st go)
    rank_does m ms g r e p q h =
        put_does (λ st. has_form w st rank) claims l m r e
        (does_as l m r (claim_told w.setting OfRanking ms g) (claim_told w.setting OfRanking (made (on_path w l.state) rank ++ extra l.state) (f l.state)) (λ i. claim_told w.setting OfRanking (p i) (q i)) h)

    pub rank_never : (m : Followed E) (r : Result (Unit {0}) WalkError) → has_form w l.state rank ≡ false → Does l m r never → Does l m r (λ st go. claim_rank w n (extra st) (f st) st go)
    rank_never m r e h = never_does (λ st. has_form w st rank) claims l m r e h

    pub rank_unmade : (e : WalkError) → IsNotPut (on_path w l.state) rank e → StopsAtStep l e (λ st go. claim_rank w n (extra st) (f st) st go)
    rank_unmade e h =
        let ms = made (on_path w l.state) rank in
        unmade_stops (λ st. has_form w st rank) claims l ms e (λ u. unfit_goal OfRanking true (settles w.setting l.state (f l.state)) (Replaced (ms ++ extra l.state) (f l.state)) l e (unfit_replaced e _ _ (before e ms (extra l.state) u))) h

-- where it opens, after a turn, and where its test was true
module _ {E : Type 0} (w : Placed E) (n : ℕ) (l : Followed E) where
  abbrev bound : Bound
  bound = (w.notes.ranking n).bound

  abbrev Put : List Fact → Fact → Type 0
  Put ms g = (has_form w l.state (w.notes.ranking n).form ≡ true) × ((ms ≡ made (on_path w l.state) (w.notes.ranking n).form) × (g ≡ replaced (on_path w l.state) (w.notes.ranking n).form))

  pub opened_does : (ms : List Fact) (g : Fact) (m : Followed E) (r : Result (Unit {0}) WalkError) → Put ms g → Does l m r (put_opened w n ms g) → Does l m r (claim_opened w n)
  opened_does ms g m r p h =
      rank_does w n l (λ st. []) (λ st. opens bound (rank_on w n st)) m ms (opens bound g) r p.0 (p.1.0 ∙ sym (append-nil _)) (ap (opens bound) (p.1.1 ∙ sym (rank_there w n l p.0))) h

  pub opened_never : (m : Followed E) (r : Result (Unit {0}) WalkError) → has_form w l.state (w.notes.ranking n).form ≡ false → Does l m r never → Does l m r (claim_opened w n)
  opened_never m r e h = rank_never w n l (λ st. []) (λ st. opens bound (rank_on w n st)) m r e h

  pub opened_unmade : (e : WalkError) → IsNotPut (on_path w l.state) (w.notes.ranking n).form e → StopsAtStep l e (claim_opened w n)
  opened_unmade e h = rank_unmade w n l (λ st. []) (λ st. opens bound (rank_on w n st)) e h

  pub fallen_does : (ms : List Fact) (g : Fact) (m : Followed E) (r : Result (Unit {0}) WalkError) → Put ms g → Does l m r (put_fallen w n ms g) → Does l m r (claim_fallen w n)
  fallen_does ms g m r p h =
      let x = rank_form l.state.ranks n in
      let q = p.1.1 ∙ sym (rank_there w n l p.0) in
      rank_does w n l (λ st. fallen_by bound (rank_form st.ranks n) (rank_on w n st) ∷ []) (λ st. fallen bound (rank_form st.ranks n) (rank_on w n st)) m (ms ++ fallen_by bound x g ∷ []) (fallen bound x g) r p.0
      (λ i. p.1.0 i ++ fallen_by bound x (q i) ∷ []) (ap (fallen bound x) q) h

  pub fallen_never : (m : Followed E) (r : Result (Unit {0}) WalkError) → has_form w l.state (w.notes.ranking n).form ≡ false → Does l m r never → Does l m r (claim_fallen w n)
  fallen_never m r e h = rank_never w n l (λ st. fallen_by bound (rank_form st.ranks n) (rank_on w n st) ∷ []) (λ st. fallen bound (rank_form st.ranks n) (rank_on w n st)) m r e h

  pub fallen_unmade : (e : WalkError) → IsNotPut (on_path w l.state) (w.notes.ranking n).form e → StopsAtStep l e (claim_fallen w n)
  fallen_unmade e h = rank_unmade w n l (λ st. fallen_by bound (rank_form st.ranks n) (rank_on w n st) ∷ []) (λ st. fallen bound (rank_form st.ranks n) (rank_on w n st)) e h

  -- with its value noted
  entered_same : (ms : List Fact) (g : Fact) → Put ms g → (go : State E → Tree E) → collect l.found (claim_entered w n l.state go) ≡ collect l.found (put_entered w n ms g l.state go)
  entered_same ms g p go =
      let q : rank_on w n l.state ≡ g = rank_there w n l p.0 ∙ sym p.1.1 in
      let m : made (on_path w l.state) (w.notes.ranking n).form ++ [] ≡ ms = append-nil _ ∙ sym p.1.0 in
      let f = holds bound (rank_on w n l.state) in
      ap (λ b. collect l.found (if_replaced b (claim OfRanking true (settles w.setting l.state f) (Replaced (made (on_path w l.state) (w.notes.ranking n).form ++ []) f)) l.state (λ st. go (with_rank n (rank_on w n l.state) st)))) p.0
      ∙ (λ i. collect l.found (claim_told w.setting OfRanking (m i) (holds bound (q i)) l.state (λ st. go (with_rank n (q i) st))))

  pub entered_does : (ms : List Fact) (g : Fact) (m : Followed E) (r : Result (Unit {0}) WalkError) → Put ms g → Does l m r (put_entered w n ms g) → Does l m r (claim_entered w n)
  entered_does ms g m r p h = does_same l m r (put_entered w n ms g) (claim_entered w n) (entered_same ms g p) h

  never_same : has_form w l.state (w.notes.ranking n).form ≡ false → (go : State E → Tree E) → collect l.found (claim_entered w n l.state go) ≡ collect l.found (never_entered n l.state go)
  never_same e go =
      let f = holds bound (rank_on w n l.state) in
      ap (λ b. collect l.found (if_replaced b (claim OfRanking true (settles w.setting l.state f) (Replaced (made (on_path w l.state) (w.notes.ranking n).form ++ []) f)) l.state (λ st. go (with_rank n (rank_on w n l.state) st)))) e
      ∙ ap (λ x. collect l.found (never l.state (λ st. go (with_rank n x st)))) (rank_nowhere w n l e)

  pub entered_never : (m : Followed E) (r : Result (Unit {0}) WalkError) → has_form w l.state (w.notes.ranking n).form ≡ false → Does l m r (never_entered n) → Does l m r (claim_entered w n)
  entered_never m r e h = does_same l m r (never_entered n) (claim_entered w n) (never_same e) h

  pub entered_unmade : (e : WalkError) → IsNotPut (on_path w l.state) (w.notes.ranking n).form e → StopsAtStep l e (claim_entered w n)
  entered_unmade e h go = rank_unmade w n l (λ st. []) (λ st. holds bound (rank_on w n st)) e h (λ st. go (with_rank n (rank_on w n l.state) st))

-- a claim of it, by the forms of the claim
pub rank_as : {E : Type 0} (w : Placed E) (l m : Followed E) (r : Result (Unit {0}) WalkError) (ms ns : List Fact) (f g : Fact) → ms ≡ ns → f ≡ g → Does l m r (claim_told w.setting OfRanking ms f) → Does l m r (claim_told w.setting OfRanking ns g)
rank_as w l m r ms ns f g p q h = does_as l m r (claim_told w.setting OfRanking ms f) (claim_told w.setting OfRanking ns g) (λ i. claim_told w.setting OfRanking (p i) (q i)) h

pub rank_unfit : {E : Type 0} (w : Placed E) (l : Followed E) (ms : List Fact) (f : Fact) (e : WalkError) → IsUnfit e f → StopsAtStep l e (claim_told w.setting OfRanking ms f)
rank_unfit w l ms f e h = unfit_goal OfRanking true (settles w.setting l.state f) (Replaced ms f) l e (unfit_told e ms f h)

pub way_unfit : {E : Type 0} (w : Placed E) (l : Followed E) (ms : List Fact) (x f : Fact) (e : WalkError) → IsUnfit e x → StopsAtStep l e (claim_told w.setting OfRanking (ms ++ x ∷ []) f)
way_unfit w l ms x f e h = unfit_goal OfRanking true (settles w.setting l.state f) (Replaced (ms ++ x ∷ []) f) l e (unfit_replaced e _ f (unfit_among e ms [] x h))

-- a step, and then its value noted
pub noted : {E : Type 0} (walk : Walk E) (n : ℕ) (k : Fact) (l m o : Followed E) → Steps l m walk → o ≡ with_ranked m n k → Steps l o (λ st go. walk st (λ st'. go (with_rank n k st')))
noted walk n k l m o s d go = s (λ st. go (with_rank n k st)) ∙ ap (λ (u : Followed _). collect u.found (go u.state)) (sym d)

pub not_noted : {E : Type 0} (walk : Walk E) (n : ℕ) (k : Fact) (l : Followed E) (e : WalkError) → StopsAtStep l e walk → StopsAtStep l e (λ st go. walk st (λ st'. go (with_rank n k st')))
not_noted walk n k l e s go = s (λ st. go (with_rank n k st))

-- from where the walk stands
pub stood_does : {E : Type 0} (walk : State E → (State E → Tree E) → Tree E) (p : Spot) (l m n : Followed E) (r : Result (Unit {0}) WalkError) → m ≡ with_spot l p → MatchResult r (λ _. Steps m n walk) (λ e. StopsAtStep m e walk) → MatchResult r (λ _. Steps l n (λ st go. walk (stand p st) go)) (λ e. StopsAtStep l e (λ st go. walk (stand p st) go))
stood_does walk p l m n r d h = subst (λ u. MatchResult r (λ _. Steps u n walk) (λ e. StopsAtStep u e walk)) d h

pub at_test : {E : Type 0} (w : Placed E) (n : ℕ) (b again : Bool) (l o : Followed E) (r : Result (Unit {0}) WalkError) → again ≡ b → MatchResult r (λ _. Steps l o (arrive w n b)) (λ e. StopsAtStep l e (arrive w n b)) → MatchResult r (λ _. Steps l o (arrive w n again)) (λ e. StopsAtStep l e (arrive w n again))
at_test w n b again l o r e h = subst (λ c. MatchResult r (λ _. Steps l o (arrive w n c)) (λ e. StopsAtStep l e (arrive w n c))) (sym e) h
