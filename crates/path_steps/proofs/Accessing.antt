-- Accesses: the two claims of an index, then the access.
use Rattle.std.proofs.Common.{◌≡◌, Bool, true, false, sym, ap, subst, ◌∙◌}
use Rattle.std.specs.Prelude.{pos, Result, Ok, Err, MatchResult}
use Rattle.semantics.specs.Core.{Array, Site}
use Rattle.semantics.specs.Word.{Kind}
use Rattle.facts.specs.Symbols.{Fact, constant, minus}
use Rattle.facts.specs.Refusals.{IsUnfit}
use Rattle.facts.specs.declared.error.WalkError.{WalkError}
use Rattle.walk_trees.specs.Trees.{OfIndex, AtLeastZero, Spot, Tree, Touch}
use Rattle.walk_trees.specs.Values as values
use Rattle.walk_trees.specs.Walks as walks
use Rattle.walk_trees.specs.Walks.{Setting, State, spot_at}
use Rattle.walk_trees.specs.Terms as terms
use Rattle.walk_trees.specs.Contents.{contents_of, know_contents}
use Rattle.path_steps.specs.Paths.{Followed, collect, add_access, with_spot, with_access}
use Rattle.path_steps.specs.Leads.{Steps, Leads}
use Rattle.path_steps.specs.Refusals.{Refused, StopsAtStep, Stops}
use Rattle.path_steps.specs.declared.path.Value.{Value}
use Rattle.path_steps.proofs.Refusing.{second_claim, refused_from}

pub last_steps : {E : Type 0} (s : Setting E) (last i low room : Fact) (l m n : Followed E) → low ≡ i → room ≡ minus last i → Steps l m (walks.claim_form s OfIndex true low) → Steps m n (walks.claim_form s OfIndex true room) → Steps l n (terms.up_to_last s last i)
last_steps s last i low room l m n d f p q go =
    (λ j. collect l.found (walks.claim_form s OfIndex true (sym d j) l.state (λ st'. walks.claim_form s OfIndex true (sym f j) st' go)))
    ∙ p (λ st'. walks.claim_form s OfIndex true room st' go) ∙ q go

pub room_stops : {E : Type 0} (s : Setting E) (last i : Fact) (m : Followed E) (e : WalkError) → IsUnfit e (minus last i) → StopsAtStep m e (terms.up_to_last s last i)
room_stops s last i m e h go = second_claim e m.found _ true _ (AtLeastZero i) _ true _ (minus last i) _ h

pub index_stops : {E : Type 0} (s : Setting E) (last i low : Fact) (m : Followed E) (e : WalkError) → low ≡ i → StopsAtStep m e (walks.claim_form s OfIndex true low) → StopsAtStep m e (terms.up_to_last s last i)
index_stops s last i low m e d h go =
    let more : State _ → Tree _ = λ st. walks.claim_form s OfIndex true (minus last i) st go in
    subst (λ x. Refused e (collect m.found (walks.claim_form s OfIndex true x m.state more))) d (h more)

pub end_stops : {E : Type 0} (s : Setting E) (last i low room : Fact) (l m : Followed E) (e : WalkError) → low ≡ i → room ≡ minus last i → Steps l m (walks.claim_form s OfIndex true low) → StopsAtStep m e (walks.claim_form s OfIndex true room) → StopsAtStep l e (terms.up_to_last s last i)
end_stops s last i low room l m e d p t h go =
    refused_from e _ _
    ((λ j. collect l.found (walks.claim_form s OfIndex true (sym d j) l.state (λ st'. walks.claim_form s OfIndex true (sym p j) st' go))) ∙ t (λ st'. walks.claim_form s OfIndex true room st' go))
    (h go)

-- up to a last index that is it
pub up_to_same : {E T : Type 0} (s : Setting E) (last other i : Fact) (m n : Followed E) (r : Result T WalkError) → last ≡ other →
    MatchResult r (λ u. Steps m n (terms.up_to_last s last i)) (λ e. StopsAtStep m e (terms.up_to_last s last i)) →
    MatchResult r (λ u. Steps m n (terms.up_to_last s other i)) (λ e. StopsAtStep m e (terms.up_to_last s other i))
up_to_same s last other i m n r d h = subst (λ f. MatchResult r (λ u. Steps m n (terms.up_to_last s f i)) (λ e. StopsAtStep m e (terms.up_to_last s f i))) d h

-- at the site of the access
module _ {E : Type 0} (s : Setting E) (is_store : Bool) (a : Array) (site : Site) (i : Fact) where
  reached : (p : Spot) (l m : Followed E) → p ≡ spot_at site l.state → m ≡ with_spot l p → (go : State E → Tree E) → collect l.found (terms.access s is_store a site i l.state go) ≡ collect m.found (terms.in_array s a i m.state (λ st'. Touch (terms.target_at is_store a site st') i st'.held (go st')))
  reached p l m d h go = ap (λ (u : Followed _). collect u.found (terms.in_array s a i u.state (λ st'. Touch (terms.target_at is_store a site st') i st'.held (go st')))) (sym (h ∙ ap (with_spot l) d))

  pub access_steps : (p q : Spot) (l m n o : Followed E) → p ≡ spot_at site l.state → m ≡ with_spot l p → Steps m n (terms.in_array s a i) → q ≡ spot_at site n.state → o ≡ with_access n (record { is_store = is_store; array = a; spot = q }) i → Steps l o (terms.access s is_store a site i)
  unfolding collect
  access_steps p q l m n o d h b w t go =
      reached p l m d h go
      ∙ b (λ st'. Touch (terms.target_at is_store a site st') i st'.held (go st'))
      ∙ ap (λ x. collect (add_access n.found (record { is_store = is_store; array = a; spot = x }) i n.state.held) (go n.state)) (sym w)
      ∙ ap (λ (u : Followed _). collect u.found (go u.state)) (sym t)

  pub access_stops : (p : Spot) (l m : Followed E) (e : WalkError) → p ≡ spot_at site l.state → m ≡ with_spot l p → StopsAtStep m e (terms.in_array s a i) → StopsAtStep l e (terms.access s is_store a site i)
  access_stops p l m e d h b go = refused_from e _ _ (reached p l m d h go) (b (λ st'. Touch (terms.target_at is_store a site st') i st'.held (go st')))

-- any number that an array may hold
module _ {E : Type 0} (s : Setting E) (a : Array) where
  pub element_leads : (k : Kind) (v : values.Value) (l m n : Followed E) → k ≡ terms.array_kind s a → Leads l m (walks.unknown s k) v → Steps m n (know_contents s (contents_of s a) v.form) → Leads l n (terms.element s a) v
  element_leads k v l m n d h t go =
      ap (λ x. collect l.found (walks.unknown s x l.state (λ w st'. know_contents s (contents_of s a) w.form st' (λ st''. go w st'')))) (sym d)
      ∙ h (λ w st'. know_contents s (contents_of s a) w.form st' (λ st''. go w st''))
      ∙ t (go v)

  pub unknown_refused : (k : Kind) (l : Followed E) (e : WalkError) → k ≡ terms.array_kind s a → Stops l e (walks.unknown s k) → Stops l e (terms.element s a)
  unknown_refused k l e d h go =
      refused_from e _ _ (ap (λ x. collect l.found (walks.unknown s x l.state (λ w st'. know_contents s (contents_of s a) w.form st' (λ st''. go w st'')))) (sym d)) (h (λ w st'. know_contents s (contents_of s a) w.form st' (λ st''. go w st'')))

  pub element_stops : (k : Kind) (v : values.Value) (l m : Followed E) (e : WalkError) → k ≡ terms.array_kind s a → Leads l m (walks.unknown s k) v → StopsAtStep m e (know_contents s (contents_of s a) v.form) → Stops l e (terms.element s a)
  element_stops k v l m e d h t go =
      refused_from e _ _
      (ap (λ x. collect l.found (walks.unknown s x l.state (λ w st'. know_contents s (contents_of s a) w.form st' (λ st''. go w st'')))) (sym d)
      ∙ h (λ w st'. know_contents s (contents_of s a) w.form st' (λ st''. go w st'')))
      (t (go v))

-- a load behind its access
module _ {E : Type 0} (s : Setting E) (a : Array) (site : Site) (i : Fact) where
  pub load_after : (l m n : Followed E) (view : Value → values.Value) (r : Result Value WalkError) → Steps l m (terms.access s false a site i) →
      MatchResult r (λ v. Leads m n (terms.element s a) (view v)) (λ e. Stops m e (terms.element s a)) →
      MatchResult r (λ v. Leads l n (terms.load s a site i) (view v)) (λ e. Stops l e (terms.load s a site i))
  load_after l m n view (Ok v) b h = λ go. b (λ st'. terms.element s a st' go) ∙ h go
  load_after l m n view (Err e) b h = λ go. refused_from e _ _ (b (λ st'. terms.element s a st' go)) (h go)

  pub load_stops : (l : Followed E) (e : WalkError) → StopsAtStep l e (terms.access s false a site i) → Stops l e (terms.load s a site i)
  load_stops l e h go = h (λ st'. terms.element s a st' go)

-- what a store keeps, then its access
module _ {E : Type 0} (s : Setting E) (a : Array) (site : Site) (i v : values.Value) where
  pub store_after : (k : Kind) (l m n : Followed E) (r : Result (Unit {0}) WalkError) → k ≡ terms.array_kind s a → Steps l m (terms.keep_contents s (contents_of s a) k site v) →
      MatchResult r (λ _. Steps m n (terms.access s true a site i.form)) (λ e. StopsAtStep m e (terms.access s true a site i.form)) →
      MatchResult r (λ _. Steps l n (terms.stored s a site i v)) (λ e. StopsAtStep l e (terms.stored s a site i v))
  store_after k l m n (Ok u) d b h = λ go. ap (λ x. collect l.found (terms.keep_contents s (contents_of s a) x site v l.state (λ st'. terms.access s true a site i.form st' go))) (sym d) ∙ b (λ st'. terms.access s true a site i.form st' go) ∙ h go
  store_after k l m n (Err e) d b h = λ go. refused_from e _ _ (ap (λ x. collect l.found (terms.keep_contents s (contents_of s a) x site v l.state (λ st'. terms.access s true a site i.form st' go))) (sym d) ∙ b (λ st'. terms.access s true a site i.form st' go)) (h go)

  pub store_stops : (k : Kind) (l : Followed E) (e : WalkError) → k ≡ terms.array_kind s a → StopsAtStep l e (terms.keep_contents s (contents_of s a) k site v) → StopsAtStep l e (terms.stored s a site i v)
  store_stops k l e d h go = refused_from e _ _ (ap (λ x. collect l.found (terms.keep_contents s (contents_of s a) x site v l.state (λ st'. terms.access s true a site i.form st' go))) (sym d)) (h (λ st'. terms.access s true a site i.form st' go))
