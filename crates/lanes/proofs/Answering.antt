-- The value of a term over a memory is what its loads lead to, one by one.
use Rattle.std.proofs.Common.{◌≡◌, ℕ, pos, List, [], ◌∷◌, Bool, true, false, not, slice_index_or, refl, sym, ap, ◌∙◌, subst, Result, Ok, Err}
use Rattle.semantics.specs.Word.{Word, word, Fault, zero_word, calculate_unary, convert, truth, is_zero, smaller, larger, as_kind}
use Rattle.semantics.specs.Core.{Site, Array, Term, Literal, Variable, Id, Load, Unary, Binary, Convert, Compare, Not, And, Or, Select, Minimum, Maximum, Shift, Within, Opaque}
use Rattle.semantics.specs.Setup.{Setup, identity}
use Rattle.semantics.specs.Memory.{Memory, cell, extent, kind_at}
use Rattle.semantics.specs.Evaluation.{Outcome, Gives, Needs, Faults, evaluate, and_then, settled, asks, load, decide, operate, compare, shifted, inside, opaque, Index, At, Outside, within, read as answered}
use Rattle.semantics.proofs.Words.{as_kind-in_kind, as_kind-same}
use Rattle.semantics.proofs.LoadKinds.{element_has_kind}
use Rattle.lanes.specs.Reckoning.{word_at}
use Rattle.lanes.proofs.Reading.{Got, Value, Wrong, got_then, got_by, loaded, either, read}

abbrev pub Final : Got → (List Word → Outcome) → Type 0
Final (Value v) f = (r : List Word) → f r ≡ Gives v r
Final (Wrong fault site) f = f [] ≡ Faults fault site

-- given these answers one by one, each the memory's, the outcome is this one
abbrev pub Follows : Setup → ℕ → Memory → (List Word → Outcome) → Got → List Word → Type 0
Follows s i m f o [] = Final o f
Follows s i m f o (x ∷ xs) =
    (a : Array) × (k : ℕ) × (site : Site) × (f [] ≡ Needs a k site) × (x ≡ word_at s m (cell s i a k)) × Follows s i m (λ r. f (x ∷ r)) o xs

abbrev pub Leads : Setup → ℕ → Memory → (List Word → Outcome) → Got → Type 0
Leads s i m f o = (xs : List Word) × Follows s i m f o xs

-- what comes after a value
then-final : (s : Setup) (i : ℕ) (m : Memory) (f : List Word → Outcome) (o : Got) (go : Word → List Word → Outcome) (next : Word → Got) → Final o f → ((v : Word) → Leads s i m (go v) (next v)) → Leads s i m (λ r. and_then (f r) go) (got_then o next)
then-final s i m f (Value v) go next h k = subst (λ (x : List Word → Outcome). Leads s i m (λ r. and_then (x r) go) (next v)) (λ j r. sym (h r) j) (k v)
then-final s i m f (Wrong fault site) go next h k = ([], ap (λ x. and_then x go) h)

then-follows : (s : Setup) (i : ℕ) (m : Memory) (f : List Word → Outcome) (o : Got) (go : Word → List Word → Outcome) (next : Word → Got) (xs : List Word) → Follows s i m f o xs → ((v : Word) → Leads s i m (go v) (next v)) → Leads s i m (λ r. and_then (f r) go) (got_then o next)
then-follows s i m f o go next [] h k = then-final s i m f o go next h k
then-follows s i m f o go next (x ∷ xs) h k =
    let t = then-follows s i m (λ r. f (x ∷ r)) o go next xs h.5 k in
    (x ∷ t.0, (h.0, h.1, h.2, ap (λ y. and_then y go) h.3, h.4, t.1))

pub leads-then : (s : Setup) (i : ℕ) (m : Memory) (f : List Word → Outcome) (o : Got) (go : Word → List Word → Outcome) (next : Word → Got) → Leads s i m f o → ((v : Word) → Leads s i m (go v) (next v)) → Leads s i m (λ r. and_then (f r) go) (got_then o next)
leads-then s i m f o go next h k = then-follows s i m f o go next h.0 h.1 k

leads-value : (s : Setup) (i : ℕ) (m : Memory) (v : Word) → Leads s i m (λ r. Gives v r) (Value v)
leads-value s i m v = ([], λ r. refl)

leads-settled : (s : Setup) (i : ℕ) (m : Memory) (w : Result Word Fault) (site : Site) → Leads s i m (λ r. settled w site r) (got_by w site)
leads-settled s i m (Ok w) site = ([], λ r. refl)
leads-settled s i m (Err f) site = ([], refl)

-- what memory has of an array is of its kind already
read-back : (s : Setup) (i : ℕ) (m : Memory) (a : Array) (n : ℕ) → answered s a (word_at s m (cell s i a n)) ≡ word_at s m (cell s i a n)
read-back s i m a n =
    let k = kind_at s (cell s i a n) in
    let z = as_kind k (m (cell s i a n)) in
    ap (λ x. word x (as_kind x z)) (sym (element_has_kind s i n a)) ∙ ap (word k) (as_kind-same k z (as_kind-in_kind k (m (cell s i a n))))

leads-load : (s : Setup) (i : ℕ) (m : Memory) (a : Array) (site : Site) (k : Word) → Leads s i m (λ r. load s a site k.value r) (loaded s i m a site (within (extent s a) k.value))
leads-load s i m a site k = by (within (extent s a) k.value) refl
  where
    by : (at : Index) → within (extent s a) k.value ≡ at → Leads s i m (λ r. load s a site k.value r) (loaded s i m a site at)
    by (At n) e = (word_at s m (cell s i a n) ∷ [], (a, n, site, ap (λ x. asks a x site) e, refl, λ r. ap (λ x. Gives x r) (read-back s i m a n)))
    by Outside e = ([], ap (λ x. asks a x site) e)

leads-either : (s : Setup) (i : ℕ) (m : Memory) (b : Bool) (f g : List Word → Outcome) (o p : Got) → Leads s i m f o → Leads s i m g p → Leads s i m (λ r. decide b (f r) (g r)) (either b o p)
leads-either s i m true f g o p h k = h
leads-either s i m false f g o p h k = k

pub reads : (s : Setup) (i : ℕ) (m : Memory) (vars : List Word) (e : Term) → Leads s i m (evaluate s i [] e vars) (read s i m vars e)
unfolding evaluate
reads s i m vars (Literal k z) = leads-value s i m (word k z)
reads s i m vars (Variable x) = leads-value s i m (slice_index_or vars x zero_word)
reads s i m vars (Id k f d) = leads-value s i m (word k (pos (identity s i f d)))
reads s i m vars (Load a site index) = leads-then s i m _ _ _ _ (reads s i m vars index) (λ k. leads-load s i m a site k)
reads s i m vars (Unary op kind site e) = leads-then s i m _ _ _ _ (reads s i m vars e) (λ a. leads-settled s i m (calculate_unary op s.width kind a.value) site)
reads s i m vars (Binary op kind site left right) =
    leads-then s i m _ _ _ _ (reads s i m vars left) (λ a. leads-then s i m _ _ _ _ (reads s i m vars right) (λ b. leads-settled s i m (operate op s.width kind a b) site))
reads s i m vars (Convert kind site e) = leads-then s i m _ _ _ _ (reads s i m vars e) (λ a. leads-settled s i m (convert s.width kind a.value) site)
reads s i m vars (Compare r kind left right) =
    leads-then s i m _ _ _ _ (reads s i m vars left) (λ a. leads-then s i m _ _ _ _ (reads s i m vars right) (λ b. leads-value s i m (truth (compare r kind a b))))
reads s i m vars (Not e) = leads-then s i m _ _ _ _ (reads s i m vars e) (λ a. leads-value s i m (truth (is_zero a.value)))
reads s i m vars (And left right) =
    leads-then s i m _ _ _ _ (reads s i m vars left) (λ a. leads-either s i m (is_zero a.value) _ _ _ _ (leads-value s i m (truth false))
    (leads-then s i m _ _ _ _ (reads s i m vars right) (λ b. leads-value s i m (truth (not (is_zero b.value))))))
reads s i m vars (Or left right) =
    leads-then s i m _ _ _ _ (reads s i m vars left) (λ a. leads-either s i m (not (is_zero a.value)) _ _ _ _ (leads-value s i m (truth true))
    (leads-then s i m _ _ _ _ (reads s i m vars right) (λ b. leads-value s i m (truth (not (is_zero b.value))))))
reads s i m vars (Select test taken skipped) =
    leads-then s i m _ _ _ _ (reads s i m vars test) (λ t. leads-either s i m (is_zero t.value) _ _ _ _ (reads s i m vars skipped) (reads s i m vars taken))
reads s i m vars (Minimum left right) =
    leads-then s i m _ _ _ _ (reads s i m vars left) (λ a. leads-then s i m _ _ _ _ (reads s i m vars right) (λ b. leads-value s i m (smaller a b)))
reads s i m vars (Maximum left right) =
    leads-then s i m _ _ _ _ (reads s i m vars left) (λ a. leads-then s i m _ _ _ _ (reads s i m vars right) (λ b. leads-value s i m (larger a b)))
reads s i m vars (Shift d k value count) =
    leads-then s i m _ _ _ _ (reads s i m vars value) (λ a. leads-then s i m _ _ _ _ (reads s i m vars count) (λ b. leads-value s i m (shifted d k a b)))
reads s i m vars (Within site n index) =
    leads-then s i m _ _ _ _ (reads s i m vars index) (λ k. leads-settled s i m (inside (within n k.value) k) site)
reads s i m vars (Opaque n at k first second third) =
    leads-then s i m _ _ _ _ (reads s i m vars first) (λ a. leads-then s i m _ _ _ _ (reads s i m vars second) (λ b. leads-then s i m _ _ _ _ (reads s i m vars third) (λ c. leads-value s i m (opaque s i [] n at k a b c))))
