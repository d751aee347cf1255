-- Of any two ends at barriers or of the kernel, one way round or the other, what is to be shown of both is in the list.
use Rattle.std.proofs.Common.{◌≡◌, Bool, true, false, cond, List, [], ◌∷◌, sym, subst, inl, inr}
use Rattle.std.specs.Prelude.{◌⊎◌}
use Rattle.domain.specs.declared.Domain.{Ghosts}
use Rattle.facts.specs.Symbols.{Fact}
use Rattle.facts.specs.Elements.{Known}
use Rattle.walk_trees.specs.Trees.{Ended, Obligation}
use Rattle.walk_trees.proofs.Each.{Has, Each, each-left, each-right}
use Rattle.obligations.specs.Notes.{Notes}
use Rattle.obligations.specs.Listing.{Of}
use Rattle.obligations.specs.Meetings.{is_rest, two_meet, meet_each, meetings}

module _ {E : Type 0} (P : Obligation → Type 0) (g : Ghosts E) (k : Known E) (launch : List Fact) (n : Notes) where
  -- all that is to be shown of an end and another one
  abbrev pub Owes : Of (Ended E) → Of (Ended E) → Type 0
  Owes u v = Each P (two_meet g k launch n u v)

  pub where-true : (b : Bool) (xs : List Obligation) → b ≡ true → Each P (cond b xs []) → Each P xs
  where-true true xs e h = h
  where-true false xs e h = cc

  meet_each-has : (u : Of (Ended E)) (vs : List (Of (Ended E))) → Each P (meet_each g k launch n u vs) → (v : Of (Ended E)) → Has v vs → Owes u v
  meet_each-has u [] h v k' = absurd k'
  meet_each-has u (x ∷ vs) h v (inl e) = subst (Owes u) (sym e) (each-left P (two_meet g k launch n u x) (meet_each g k launch n u vs) h)
  meet_each-has u (x ∷ vs) h v (inr i) = meet_each-has u vs (each-right P (two_meet g k launch n u x) (meet_each g k launch n u vs) h) v i

  -- those of the first in the list
  head-has : (x : Of (Ended E)) (us : List (Of (Ended E))) → Each P (meetings g k launch n (x ∷ us)) → is_rest x.it.arrived.stop ≡ true → (v : Of (Ended E)) → Has v (x ∷ us) → Owes x v
  head-has x us h r v i =
      let all = meet_each g k launch n x (x ∷ us) in
      meet_each-has x (x ∷ us) (where-true (is_rest x.it.arrived.stop) all r (each-left P (cond (is_rest x.it.arrived.stop) all []) (meetings g k launch n us) h)) v i

  pub meetings-has : (us : List (Of (Ended E))) → Each P (meetings g k launch n us) → (u v : Of (Ended E)) → is_rest u.it.arrived.stop ≡ true → is_rest v.it.arrived.stop ≡ true → Has u us → Has v us → Owes u v ⊎ Owes v u
  meetings-has [] h u v r t i j = absurd i
  meetings-has (x ∷ us) h u v r t (inl e) j = inl (subst (λ y. Owes y v) (sym e) (head-has x us h (subst (λ (y : Of (Ended E)). is_rest y.it.arrived.stop ≡ true) e r) v j))
  meetings-has (x ∷ us) h u v r t (inr i) (inl e) = inr (subst (λ y. Owes y u) (sym e) (head-has x us h (subst (λ (y : Of (Ended E)). is_rest y.it.arrived.stop ≡ true) e t) u (inr i)))
  meetings-has (x ∷ us) h u v r t (inr i) (inr j) = meetings-has us (each-right P (cond (is_rest x.it.arrived.stop) (meet_each g k launch n x (x ∷ us)) []) (meetings g k launch n us) h) u v r t i j
