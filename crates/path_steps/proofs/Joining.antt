-- Ways that are joined: new symbols for two excesses, and the facts of what they are.
use Rattle.std.proofs.Common.{◌≡◌, Bool, true, false, ◌&&◌, ◌++◌, ◌<◌, ◌^◌, [], ◌∷◌, arith, refl, sym, ap, subst, ◌∙◌}
use Rattle.std.specs.Prelude.{not, pos, negsuc, Some, None, Result, Ok, Err, MatchResult}
use Rattle.semantics.specs.Word.{Kind}
use Rattle.linear.specs.Exact.{sum, multiple}
use Rattle.linear.specs.Sizes.{size}
use Rattle.linear.proofs.Sizes.{size_sum, size_difference}
use Rattle.facts.specs.Symbols.{Fact, constant, minus, equals}
use Rattle.facts.specs.Refusals.{IsUnfit}
use Rattle.facts.specs.declared.error.WalkError.{WalkError}
use Rattle.walk_trees.specs.Joined.{excess, know_product, invent_excesses, apart_facts, told_apart, picked_element, picked_facts, pick_joined}
use Rattle.walk_trees.specs.Operators.{small_product}
use Rattle.walk_trees.specs.Trees.{Tree, Know}
use Rattle.walk_trees.specs.Values.{value}
use Rattle.walk_trees.specs.Walks.{Setting, State, Onward, invent, know_all}
use Rattle.path_steps.specs.Joins.{told, distance, nearer}
use Rattle.path_steps.specs.Paths.{Followed, collect, with_fact}
use Rattle.path_steps.specs.Leads.{Steps, Leads, LeadsTwo}
use Rattle.path_steps.specs.Refusals.{StopsAtStep, Stops, StopsTwo}
use Rattle.path_steps.proofs.Leading.{knows}
use Rattle.path_steps.proofs.Refusing.{refused_from, unfit_fact}

-- one of the tests of ways that are joined is false, or all are true
pub not_joining : (a b : Bool) → a ≡ false → (a && b) ≡ false
not_joining true b h = absurd cc
not_joining false b h = refl

pub not_more : (a b c d : Bool) → b ≡ false → (a && ((b && c) && d)) ≡ false
not_more true true c d h = absurd cc
not_more true false c d h = refl
not_more false b c d h = refl

pub not_far : (a b c : Bool) → b ≡ false → (a && (b && c)) ≡ false
not_far true true c h = absurd cc
not_far true false c h = refl
not_far false b c h = refl

pub not_less : (a b c d : Bool) → c ≡ false → (a && (b && (c && d))) ≡ false
not_less true true true d h = absurd cc
not_less true true false d h = refl
not_less true false c d h = refl
not_less false b c d h = refl

pub not_near : (a b c : Bool) → c ≡ false → (a && (b && c)) ≡ false
not_near true true true h = absurd cc
not_near true true false h = refl
not_near true false c h = refl
not_near false b c h = refl

pub all_joined : (a b c : Bool) → a ≡ true → b ≡ true → c ≡ true → (a && (b && c)) ≡ true
all_joined true true true d e f = refl
all_joined true true false d e f = absurd cc
all_joined true false c d e f = absurd cc
all_joined false b c d e f = absurd cc

-- sums and differences of new symbols are small
pub small-sum : (f g : Fact) → size f ≡ 1 → size g ≡ 1 → size (sum f g) < 2 ^ 63
small-sum f g d e = let h = size_sum f g in omega (arith, d, e, h)

pub small-difference : (f g : Fact) → size f ≡ 1 → size g ≡ 1 → size (minus f g) < 2 ^ 63
small-difference f g d e = let h = size_difference f g in omega (arith, d, e, h)

-- the product of new symbols
module _ {E : Type 0} (p q : Fact) where
  pub product_known : (h fact : Fact) (m n : Followed E) → small_product p q ≡ Some h → fact ≡ multiple (negsuc 0) h → n ≡ with_fact m fact → Steps m n (λ st go. know_product (small_product p q) (go st))
  product_known h fact m n d e w go =
      ap (λ o. collect m.found (know_product o (go m.state))) d
      ∙ ap (λ f. collect m.found (Know f (go m.state))) (sym e)
      ∙ knows fact m n w (go m.state)
      ∙ ap (λ (u : Followed E). collect n.found (go u.state)) (sym w)

  pub no_product : (m : Followed E) → small_product p q ≡ None → Steps m m (λ st go. know_product (small_product p q) (go st))
  no_product m d go = ap (λ o. collect m.found (know_product o (go m.state))) d

  pub product_stops : (h : Fact) (m : Followed E) (e : WalkError) → small_product p q ≡ Some h → IsUnfit e (multiple (negsuc 0) h) → StopsAtStep m e (λ st go. know_product (small_product p q) (go st))
  product_stops h m e d u go = refused_from e _ _ (ap (λ o. collect m.found (know_product o (go m.state))) d) (unfit_fact e m.found (multiple (negsuc 0) h) (go m.state) u)

-- two excesses
module _ {E : Type 0} (s : Setting E) (more less : Fact) (a b : E) (p q : Fact) (l m n : Followed E) where
  first_there : a ≡ excess s l.state more → (go : Fact → Fact → State E → Tree E) → collect l.found (invent_excesses s more less l.state go) ≡ collect l.found (invent s a l.state (λ p' st1. invent s (excess s st1 less) st1 (λ q' st2. know_product (small_product p' q') (go p' q' st2))))
  first_there d go = ap (λ x. collect l.found (invent s x l.state (λ p' st1. invent s (excess s st1 less) st1 (λ q' st2. know_product (small_product p' q') (go p' q' st2))))) (sym d)

  second_there : a ≡ excess s l.state more → Leads l m (invent s a) p → b ≡ excess s m.state less → (go : Fact → Fact → State E → Tree E) → collect l.found (invent_excesses s more less l.state go) ≡ collect m.found (invent s b m.state (λ q' st2. know_product (small_product p q') (go p q' st2)))
  second_there d h e go =
      first_there d go
      ∙ h (λ p' st1. invent s (excess s st1 less) st1 (λ q' st2. know_product (small_product p' q') (go p' q' st2)))
      ∙ ap (λ x. collect m.found (invent s x m.state (λ q' st2. know_product (small_product p q') (go p q' st2)))) (sym e)

  third_there : a ≡ excess s l.state more → Leads l m (invent s a) p → b ≡ excess s m.state less → Leads m n (invent s b) q → (go : Fact → Fact → State E → Tree E) → collect l.found (invent_excesses s more less l.state go) ≡ collect n.found (know_product (small_product p q) (go p q n.state))
  third_there d h e k go = second_there d h e go ∙ k (λ q' st2. know_product (small_product p q') (go p q' st2))

  pub excesses_lead : (o : Followed E) → a ≡ excess s l.state more → Leads l m (invent s a) p → b ≡ excess s m.state less → Leads m n (invent s b) q → Steps n o (λ st go. know_product (small_product p q) (go st)) → LeadsTwo l o (invent_excesses s more less) p q
  excesses_lead o d h e k t go = third_there d h e k go ∙ t (go p q)

  pub first_excess_stops : (e : WalkError) → a ≡ excess s l.state more → Stops l e (invent s a) → StopsTwo l e (invent_excesses s more less)
  first_excess_stops e d h go = refused_from e _ _ (first_there d go) (h (λ p' st1. invent s (excess s st1 less) st1 (λ q' st2. know_product (small_product p' q') (go p' q' st2))))

  pub second_excess_stops : (x : WalkError) → a ≡ excess s l.state more → Leads l m (invent s a) p → b ≡ excess s m.state less → Stops m x (invent s b) → StopsTwo l x (invent_excesses s more less)
  second_excess_stops x d h e k go = refused_from x _ _ (second_there d h e go) (k (λ q' st2. know_product (small_product p q') (go p q' st2)))

  pub excess_product_stops : (x : WalkError) → a ≡ excess s l.state more → Leads l m (invent s a) p → b ≡ excess s m.state less → Leads m n (invent s b) q → StopsAtStep n x (λ st go. know_product (small_product p q) (go st)) → StopsTwo l x (invent_excesses s more less)
  excess_product_stops x d h e k t go = refused_from x _ _ (third_there d h e k go) (t (go p q))

-- one fact
module _ {E : Type 0} (f : Fact) where
  pub one_told : (fact : Fact) (l m : Followed E) → fact ≡ f → m ≡ with_fact l fact → Steps l m (told (f ∷ []))
  one_told fact l m d h go =
      ap (λ x. collect l.found (Know x (go l.state))) (sym d)
      ∙ knows fact l m h (go l.state)
      ∙ ap (λ (u : Followed E). collect m.found (go u.state)) (sym h)

  pub one_unfit : (l : Followed E) (e : WalkError) → IsUnfit e f → StopsAtStep l e (told (f ∷ []))
  one_unfit l e h go = unfit_fact e l.found f _ h

-- a sum of new symbols is at least 1
module _ (p q both : Fact) (d : both ≡ sum p q) where
  pub apart_fact : minus both (constant (pos 1)) ≡ minus (sum p q) (constant (pos 1))
  apart_fact = ap (λ x. minus x (constant (pos 1))) d

  pub apart_unfit : (e : WalkError) → IsUnfit e (minus both (constant (pos 1))) → IsUnfit e (minus (sum p q) (constant (pos 1)))
  apart_unfit e h = subst (IsUnfit e) apart_fact h

-- one way on which two numbers differ
module _ {E : Type 0} (s : Setting E) (more less p q net : Fact) where
  net_there : (l m : Followed E) → LeadsTwo l m (invent_excesses s more less) p q → net ≡ minus p q → (go : State E → Tree E) → collect l.found (told_apart s more less l.state go) ≡ collect m.found (told (equals more net) m.state (λ st. told (minus (sum p q) (constant (pos 1)) ∷ []) st go))
  net_there l m h d go =
      h (λ p' q' st'. know_all (apart_facts more p' q') (go st'))
      ∙ ap (λ x. collect m.found (told (equals more x) m.state (λ st. told (minus (sum p q) (constant (pos 1)) ∷ []) st go))) (sym d)

  pub apart_told : (l m n o : Followed E) (r : Result (Unit {0}) WalkError) → LeadsTwo l m (invent_excesses s more less) p q → net ≡ minus p q → Steps m n (told (equals more net)) →
      MatchResult r (λ _. Steps n o (told (minus (sum p q) (constant (pos 1)) ∷ []))) (λ e. StopsAtStep n e (told (minus (sum p q) (constant (pos 1)) ∷ []))) →
      MatchResult r (λ _. Steps l o (told_apart s more less)) (λ e. StopsAtStep l e (told_apart s more less))
  apart_told l m n o (Ok u) h d k t = λ go. net_there l m h d go ∙ k (λ st. told (minus (sum p q) (constant (pos 1)) ∷ []) st go) ∙ t go
  apart_told l m n o (Err e) h d k t = λ go. refused_from e _ _ (net_there l m h d go ∙ k (λ st. told (minus (sum p q) (constant (pos 1)) ∷ []) st go)) (t go)

  pub net_stops : (l m : Followed E) (e : WalkError) → LeadsTwo l m (invent_excesses s more less) p q → net ≡ minus p q → StopsAtStep m e (told (equals more net)) → StopsAtStep l e (told_apart s more less)
  net_stops l m e h d t go = refused_from e _ _ (net_there l m h d go) (t (λ st. told (minus (sum p q) (constant (pos 1)) ∷ []) st go))

pub excesses_stop : {E : Type 0} (s : Setting E) (more less : Fact) (l : Followed E) (e : WalkError) → StopsTwo l e (invent_excesses s more less) → StopsAtStep l e (told_apart s more less)
excesses_stop s more less l e h go = h (λ p' q' st'. know_all (apart_facts more p' q') (go st'))

facts_by : (g : Bool) (x y m p q : Fact) → picked_facts g x y m p q ≡ equals (nearer g x y) (distance g m p) ++ equals (nearer (not g) x y) (distance g m q)
facts_by true x y m p q = refl
facts_by false x y m p q = refl

-- the less or the greater of two numbers
module _ {E : Type 0} (s : Setting E) (g : Bool) (kind : Kind) (x y more less : Fact) (d-more : more ≡ minus y x) (d-less : less ≡ minus x y) (a : E) (l : Followed E) (d-a : a ≡ picked_element s g l.state x y) where
  picked_there : (go : Onward E) → collect l.found (pick_joined s g kind x y l.state go) ≡ collect l.found (invent s a l.state (λ m' st1. invent_excesses s more less st1 (λ p' q' st2. know_all (picked_facts g x y m' p' q') (go (value kind m') st2))))
  picked_there go = λ i. collect l.found (invent s (sym d-a i) l.state (λ m' st1. invent_excesses s (sym d-more i) (sym d-less i) st1 (λ p' q' st2. know_all (picked_facts g x y m' p' q') (go (value kind m') st2))))

  pub picked_stops : (e : WalkError) → Stops l e (invent s a) → Stops l e (pick_joined s g kind x y)
  picked_stops e h go = refused_from e _ _ (picked_there go) (h (λ m' st1. invent_excesses s more less st1 (λ p' q' st2. know_all (picked_facts g x y m' p' q') (go (value kind m') st2))))

  module _ (w : Fact) (m : Followed E) (h : Leads l m (invent s a) w) where
    pub picked_excesses_stop : (e : WalkError) → StopsTwo m e (invent_excesses s more less) → Stops l e (pick_joined s g kind x y)
    picked_excesses_stop e t go = refused_from e _ _ (picked_there go ∙ h (λ m' st1. invent_excesses s more less st1 (λ p' q' st2. know_all (picked_facts g x y m' p' q') (go (value kind m') st2)))) (t (λ p' q' st2. know_all (picked_facts g x y w p' q') (go (value kind w) st2)))

    module _ (p q : Fact) (n : Followed E) (k : LeadsTwo m n (invent_excesses s more less) p q) (near far by_p by_q : Fact) (d-near : near ≡ nearer g x y) (d-far : far ≡ nearer (not g) x y) (d-p : by_p ≡ distance g w p) (d-q : by_q ≡ distance g w q) where
      near_there : (go : Onward E) → collect l.found (pick_joined s g kind x y l.state go) ≡ collect n.found (told (equals near by_p) n.state (λ st. told (equals far by_q) st (λ st'. go (value kind w) st')))
      near_there go =
          picked_there go
          ∙ h (λ m' st1. invent_excesses s more less st1 (λ p' q' st2. know_all (picked_facts g x y m' p' q') (go (value kind m') st2)))
          ∙ k (λ p' q' st2. know_all (picked_facts g x y w p' q') (go (value kind w) st2))
          ∙ ap (λ fs. collect n.found (know_all fs (go (value kind w) n.state))) (facts_by g x y w p q)
          ∙ (λ i. collect n.found (know_all (equals (sym d-near i) (sym d-p i) ++ equals (sym d-far i) (sym d-q i)) (go (value kind w) n.state)))

      pub near_stops : (e : WalkError) → StopsAtStep n e (told (equals near by_p)) → Stops l e (pick_joined s g kind x y)
      near_stops e t go = refused_from e _ _ (near_there go) (t (λ st. told (equals far by_q) st (λ st'. go (value kind w) st')))

      pub far_stops : (o : Followed E) (e : WalkError) → Steps n o (told (equals near by_p)) → StopsAtStep o e (told (equals far by_q)) → Stops l e (pick_joined s g kind x y)
      far_stops o e t u go = refused_from e _ _ (near_there go ∙ t (λ st. told (equals far by_q) st (λ st'. go (value kind w) st'))) (u (λ st'. go (value kind w) st'))

      pub pick_leads : (o r : Followed E) → Steps n o (told (equals near by_p)) → Steps o r (told (equals far by_q)) → Leads l r (pick_joined s g kind x y) (value kind w)
      pick_leads o r t u go = near_there go ∙ t (λ st. told (equals far by_q) st (λ st'. go (value kind w) st')) ∙ u (λ st'. go (value kind w) st')
