-- The steps of a walk, composed.
use Rattle.std.proofs.Common.{◌≡◌, ℕ, Bool, true, false, List, sym, ap, ◌∙◌}
use Rattle.std.specs.Prelude.{ℤ, Option, Some}
use Rattle.semantics.specs.Word.{Kind, Uint}
use Rattle.domain.specs.declared.Bounds.{Bounds}
use Rattle.facts.specs.Symbols.{Fact, constant, minus}
use Rattle.walk_trees.specs.Held as held
use Rattle.walk_trees.specs.Trees.{Tree, Know, Sort, OfRange, AtLeastZero}
use Rattle.walk_trees.specs.Values as values
use Rattle.walk_trees.specs.Walks as walks
use Rattle.walk_trees.specs.Walks.{Setting, State, counted, claimed_once, settles, newest, know_all, bound_facts, lower_fact, upper_fact, low_end, high_end, demand}
use Rattle.path_steps.specs.Paths.{Choice, Found, Followed, First, Other, front, by_choice, take_first, take_other, with_choice, choosing, collect, add_claim, with_claim, with_fact, with_element}
use Rattle.path_steps.specs.Leads.{Steps, Leads}

pub claim_steps : {E : Type 0} (s : Setting E) (o : Sort) (needed settled : Bool) (f : Fact) (m n : Followed E) → settled ≡ settles s m.state f → n ≡ with_claim m o needed settled (AtLeastZero f) → Steps m n (walks.claim_form s o needed f)
unfolding collect
claim_steps s o needed settled f m n e d go =
    ap (λ b. collect (add_claim m.found (demand o m.state) needed b (AtLeastZero f)) (go (claimed_once m.state))) (sym e)
    ∙ ap (λ (p : Followed _). collect p.found (go p.state)) (sym d)

-- a fact in front of what is known
pub knows : {E : Type 0} (f : Fact) (m n : Followed E) → n ≡ with_fact m f → (rest : Tree E) → collect m.found (Know f rest) ≡ collect n.found rest
unfolding collect
knows f m n e rest = ap (λ (p : Followed _). collect p.found rest) (sym e)

pub knows_low : {E : Type 0} (f : Fact) (low : Option ℤ) (z : ℤ) (m n : Followed E) → low ≡ Some z → n ≡ with_fact m (minus f (constant z)) → (more : List Fact) (rest : Tree E) → collect m.found (know_all (lower_fact f low more) rest) ≡ collect n.found (know_all more rest)
knows_low f low z m n d e more rest = ap (λ o. collect m.found (know_all (lower_fact f o more) rest)) d ∙ knows (minus f (constant z)) m n e (know_all more rest)

pub knows_high : {E : Type 0} (f : Fact) (high : Option ℤ) (z : ℤ) (m n : Followed E) → high ≡ Some z → n ≡ with_fact m (minus (constant z) f) → (rest : Tree E) → collect m.found (know_all (upper_fact f high) rest) ≡ collect n.found rest
knows_high f high z m n d e rest = ap (λ o. collect m.found (know_all (upper_fact f o) rest)) d ∙ knows (minus (constant z) f) m n e rest

pub range_steps : {E : Type 0} (s : Setting E) (needed : Bool) (k : Kind) (f low high : Fact) (l m n : Followed E) → low ≡ low_end k f → high ≡ high_end k f → Steps l m (walks.claim_form s (OfRange k) needed low) → Steps m n (walks.claim_form s (OfRange k) needed high) → Steps l n (walks.in_range s needed k f)
range_steps s needed k f low high l m n d e a b go =
    (λ i. collect l.found (walks.claim_form s (OfRange k) needed (sym d i) l.state (λ st'. walks.claim_form s (OfRange k) needed (sym e i) st' go)))
    ∙ a (λ st'. walks.claim_form s (OfRange k) needed high st' go) ∙ b go

-- a new symbol: its two bounds, then its element
pub invents : {E : Type 0} (s : Setting E) (e : E) (new : Fact) (bounds : Bounds) (k l m n : Followed E) → new ≡ newest k.state → bounds ≡ s.domain.bounds_of e →
    ((more : List Fact) (rest : Tree E) → collect k.found (know_all (lower_fact new bounds.low more) rest) ≡ collect l.found (know_all more rest)) → l.state ≡ k.state →
    ((rest : Tree E) → collect l.found (know_all (upper_fact new bounds.high) rest) ≡ collect m.found rest) → m.state ≡ l.state →
    n ≡ with_element m e → Leads k n (walks.invent s e) new
invents s e new bounds k l m n d b low p high q f go =
    let end : Fact → Tree _ = λ x. go x (walks.holding (held.with_new e k.state.held) k.state) in
    (λ i. collect k.found (know_all (bound_facts (sym d i) (sym b i)) (end (sym d i))))
    ∙ low (upper_fact new bounds.high) (end new) ∙ high (end new)
    ∙ ap (λ (st : State _). collect m.found (go new (walks.holding (held.with_new e st.held) st))) (sym (q ∙ p))
    ∙ ap (λ (x : Followed _). collect x.found (go new x.state)) (sym f)

pub unknown_leads : {E : Type 0} (s : Setting E) (k : Kind) (x : E) (f : Fact) (m n : Followed E) → x ≡ walks.any_of s.domain k → Leads m n (walks.invent s x) f → Leads m n (walks.unknown s k) (values.value k f)
unknown_leads s k x f m n d h go = ap (λ y. collect m.found (walks.invent s y m.state (λ g st'. go (values.value k g) st'))) (sym d) ∙ h (λ g st'. go (values.value k g) st')

pub wraps : {E : Type 0} (s : Setting E) (kept : Bool) (f : Fact) (v : values.Value) (l m n : Followed E) → kept ≡ walks.is_kept s f l.state → kept ≡ false → Steps l m (walks.in_range s kept Uint f) → Leads m n (walks.unknown s Uint) v → Leads l n (walks.ranged s Uint f) v
wraps s kept f v l m n d e a b go =
    (λ i. collect l.found (walks.in_range s (sym d i) Uint f l.state (λ st'. walks.kept_or_new s (sym d i) f st' go)))
    ∙ a (λ st'. walks.kept_or_new s kept f st' go)
    ∙ ap (λ c. collect m.found (walks.kept_or_new s c f m.state go)) e
    ∙ b go

pub keeps : {E : Type 0} (s : Setting E) (kept : Bool) (f : Fact) (l m : Followed E) → kept ≡ walks.is_kept s f l.state → kept ≡ true → Steps l m (walks.in_range s kept Uint f) → Leads l m (walks.ranged s Uint f) (values.value Uint f)
keeps s kept f l m d e a go =
    (λ i. collect l.found (walks.in_range s (sym d i) Uint f l.state (λ st'. walks.kept_or_new s (sym d i) f st' go)))
    ∙ a (λ st'. walks.kept_or_new s kept f st' go)
    ∙ ap (λ c. collect m.found (walks.kept_or_new s c f m.state go)) e

abbrev fork_by : {E : Type 0} (m : Followed E) (go : Bool → State E → Tree E) → Choice → Found E
fork_by m go c = by_choice c (collect (take_first m.found) (go true m.state)) (λ k. collect (take_other k m.found) (go false (counted k m.state)))

pub chose_first : {E : Type 0} (m n : Followed E) → First ≡ front m.found.left → n ≡ with_choice m First → Leads m n choosing true
unfolding collect
chose_first m n d e go = ap (fork_by m go) (sym d) ∙ ap (λ (u : Followed _). collect u.found (go true u.state)) (sym e)

pub chose_other : {E : Type 0} (k : ℕ) (m n : Followed E) → Other k ≡ front m.found.left → n ≡ with_choice m (Other k) → Leads m n choosing false
unfolding collect
chose_other k m n d e go = ap (fork_by m go) (sym d) ∙ ap (λ (u : Followed _). collect u.found (go false u.state)) (sym e)
