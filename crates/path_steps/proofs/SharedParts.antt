-- A quotient by a form, and what it leaves, as new symbols.
use Rattle.std.proofs.Common.{◌≡◌, sym, ap, subst, ◌∙◌}
use Rattle.std.specs.Prelude.{Option, Some, Result, Ok, Err, MatchResult}
use Rattle.semantics.specs.Word.{Kind}
use Rattle.facts.specs.Symbols.{Fact, minus}
use Rattle.facts.specs.Refusals.{IsMemory, IsUnfit}
use Rattle.facts.specs.declared.error.WalkError.{WalkError}
use Rattle.walk_trees.specs.Trees.{Tree, Know}
use Rattle.walk_trees.specs.Shares as shares
use Rattle.walk_trees.specs.Walks as walks
use Rattle.walk_trees.specs.Walks.{Setting, State}
use Rattle.walk_trees.specs.Quotients.{named_by}
use Rattle.walk_trees.specs.SharedQuotients.{quotient_element, left_element, below_divisor, shared, keep, make}
use Rattle.path_steps.specs.Paths.{Found, Followed, collect, with_fact, with_shared}
use Rattle.path_steps.specs.Leads.{Leads}
use Rattle.path_steps.specs.Refusals.{Refused, Stops}
use Rattle.path_steps.specs.View.{shared_seen}
use Rattle.path_steps.specs.declared.path.Shared.{Shared}
use Rattle.path_steps.proofs.Refusing.{unfit_fact, refused_from}
use Rattle.path_steps.proofs.Leading.{knows}

-- one fact behind another
pub knows_two : {E : Type 0} (f g : Fact) (m n o : Followed E) → n ≡ with_fact m f → o ≡ with_fact n g → (rest : Tree E) → collect m.found (Know f (Know g rest)) ≡ collect o.found rest
knows_two f g m n o d e rest = knows f m n d (Know g rest) ∙ knows g n o e rest

pub second_refused : {E : Type 0} (f g : Fact) (m n : Followed E) (e : WalkError) → n ≡ with_fact m f → IsUnfit e g → (rest : Tree E) → Refused e (collect m.found (Know f (Know g rest)))
second_refused f g m n e d u rest = refused_from e _ _ (knows f m n d (Know g rest)) (unfit_fact e n.found g rest u)

no_memory : {E : Type 0} (e : WalkError) (n : Found E) → IsMemory e → Refused e n
no_memory e n h = subst (λ x. Refused x n) (sym h) tt

module _ {E : Type 0} (s : Setting E) (k : Kind) (x y h : Fact) (go : Option shares.Shared → State E → Tree E) where
  -- what goes on behind the quotient's symbol, with what the domain knows of what is left
  abbrev left_on : E → Fact → State E → Tree E
  left_on b q st = Know (minus x h) (Know (below_divisor y (minus x h)) (named_by s b (minus x h) st (λ r st2. keep (shared x y q r) st2 go)))

  made_first : (a : E) (l : Followed E) → a ≡ quotient_element s l.state k x y → collect l.found (make s k x y h l.state go) ≡ collect l.found (walks.invent s a l.state (left_on (left_element s l.state x y)))
  made_first a l d = ap (λ e. collect l.found (walks.invent s e l.state (left_on (left_element s l.state x y)))) (sym d)

  made_left : (a : E) (q : Fact) (l m n : Followed E) → a ≡ quotient_element s l.state k x y → Leads l m (walks.invent s a) q →
      ((rest : Tree E) → collect m.found (Know (minus x h) (Know (below_divisor y (minus x h)) rest)) ≡ collect n.found rest) → n.state ≡ m.state →
      collect l.found (make s k x y h l.state go) ≡ collect n.found (named_by s (left_element s l.state x y) (minus x h) n.state (λ r st2. keep (shared x y q r) st2 go))
  made_left a q l m n d i f p =
      made_first a l d ∙ i (left_on (left_element s l.state x y))
      ∙ f (named_by s (left_element s l.state x y) (minus x h) m.state (λ r st2. keep (shared x y q r) st2 go))
      ∙ ap (λ st. collect n.found (named_by s (left_element s l.state x y) (minus x h) st (λ r st2. keep (shared x y q r) st2 go))) (sym p)

  made_name : (a b : E) (q left : Fact) (l m n : Followed E) → a ≡ quotient_element s l.state k x y → b ≡ left_element s l.state x y → Leads l m (walks.invent s a) q →
      ((rest : Tree E) → collect m.found (Know (minus x h) (Know (below_divisor y (minus x h)) rest)) ≡ collect n.found rest) → n.state ≡ m.state → left ≡ minus x h →
      collect l.found (make s k x y h l.state go) ≡ collect n.found (named_by s b left n.state (λ r st2. keep (shared x y q r) st2 go))
  made_name a b q left l m n d c i f p t =
      made_left a q l m n d i f p
      ∙ (λ j. collect n.found (named_by s (sym c j) (sym t j) n.state (λ r st2. keep (shared x y q r) st2 go)))

module _ {E : Type 0} (s : Setting E) (k : Kind) (x y h : Fact) (a b : E) (q left : Fact) (l m n : Followed E) (d : a ≡ quotient_element s l.state k x y) where
  pub make_first_stops : (e : WalkError) → Stops l e (walks.invent s a) → Stops l e (make s k x y h)
  make_first_stops e u go = refused_from e _ _ (made_first s k x y h go a l d) (u (left_on s k x y h go (left_element s l.state x y)))

  pub make_left_stops : (e : WalkError) → Leads l m (walks.invent s a) q → ((rest : Tree E) → Refused e (collect m.found (Know (minus x h) (Know (below_divisor y (minus x h)) rest)))) → Stops l e (make s k x y h)
  make_left_stops e i u go =
      refused_from e _ _ (made_first s k x y h go a l d ∙ i (left_on s k x y h go (left_element s l.state x y)))
      (u (named_by s (left_element s l.state x y) (minus x h) m.state (λ r st2. keep (shared x y q r) st2 go)))

  module _ (c : b ≡ left_element s l.state x y) (i : Leads l m (walks.invent s a) q)
      (f : (rest : Tree E) → collect m.found (Know (minus x h) (Know (below_divisor y (minus x h)) rest)) ≡ collect n.found rest) (p : n.state ≡ m.state) (t : left ≡ minus x h) where
    pub make_name_stops : (e : WalkError) → Stops n e (named_by s b left) → Stops l e (make s k x y h)
    make_name_stops e u go = refused_from e _ _ (made_name s k x y h go a b q left l m n d c i f p t) (u (λ r st2. keep (shared x y q r) st2 go))

    pub make_leads : (r : Fact) (o v : Followed E) (z : Result Shared WalkError) → Leads n o (named_by s b left) r →
        MatchResult z (λ w. (shared_seen w ≡ shared x y q r) × (v ≡ with_shared o (shared_seen w))) IsMemory →
        MatchResult z (λ w. Leads l v (make s k x y h) (Some (shared_seen w))) (λ e. Stops l e (make s k x y h))
    make_leads r o v (Ok w) u j = λ go.
        made_name s k x y h go a b q left l m n d c i f p t ∙ u (λ r st2. keep (shared x y q r) st2 go)
        ∙ ap (λ g. collect o.found (go (Some g) (walks.with_quotient g o.state))) (sym j.0)
        ∙ ap (λ (g : Followed E). collect g.found (go (Some (shared_seen w)) g.state)) (sym j.1)
    make_leads r o v (Err e) u j = λ go. no_memory e _ j
