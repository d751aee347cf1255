-- Two items of a group that have come to two stops, alike at their anchor: what is owed of them is so.
use Rattle.std.proofs.Common.{◌≡◌, ℕ, ◌<◌, Bool, true, false, ◌&&◌, nat_eq, cond, List, [], ◌∷◌, Option, Some, None, slice_index_or, arith, refl, sym, ap, ap₂, subst, ◌∙◌, inl, inr, eqb-true}
use Rattle.std.specs.List.{All}
use Rattle.std.proofs.lemmas.Bool.{and_from}
use Rattle.std.proofs.lemmas.Bool.Decides.{nat_tests}
use Rattle.semantics.specs.Word.{Word, zero_word}
use Rattle.semantics.specs.Setup.{group_of, item_count}
use Rattle.facts.specs.Launching.{launch_facts, known}
use Rattle.facts.proofs.Worlds.{Walked, Root, setup_of}
use Rattle.arrivals.specs.Trees.{Stop, AtBarrier, AtHead, AtEnd, Turns}
use Rattle.arrivals.specs.Places.{same_numbers}
use Rattle.arrivals.specs.Paths.{Same}
use Rattle.arrivals.specs.Shown.{Owed, Nothing, Agreement, Never, same_turns, owed}
use Rattle.arrivals.proofs.Meetings.{same-sym}
use Rattle.walk_trees.specs.Trees.{Ended}
use Rattle.walk_trees.specs.Shown.{IsShownWithProducts}
use Rattle.walk_trees.proofs.Each.{each-all}
use Rattle.obligations.specs.Notes.{Notes}
use Rattle.obligations.specs.Listing.{Of}
use Rattle.obligations.specs.Meetings.{same_anchor, same_at, is_rest, owed_obligations, meetings}
use Rattle.obligations.proofs.Nodes.{Reached, at_anchor}
use Rattle.obligations.proofs.Couples.{Couple}
use Rattle.obligations.proofs.MeetingLists.{Owes, where-true, meetings-has}
use Rattle.obligations.proofs.Crossed.{same_anchor-equal, alike-moved}
use Rattle.obligations.proofs.Agreeing.{IsOwed, Stopped, as-owed}

nat_eq-sym : (n m : ℕ) → nat_eq n m ≡ nat_eq m n
nat_eq-sym n m = grind (arith, nat_tests)

same_numbers-sym : (a b : List ℕ) → same_numbers a b ≡ same_numbers b a
same_numbers-sym [] [] = refl
same_numbers-sym [] (m ∷ ms) = refl
same_numbers-sym (n ∷ ns) [] = refl
same_numbers-sym (n ∷ ns) (m ∷ ms) = ap₂ (λ a b. a && b) (nat_eq-sym n m) (same_numbers-sym ns ms)

same_turns-sym : (a b : Turns) → same_turns a b ≡ same_turns b a
same_turns-sym None None = refl
same_turns-sym None (Some l) = refl
same_turns-sym (Some l) None = refl
same_turns-sym (Some l) (Some m) = same_numbers-sym l m

-- what is owed is the same, one way round or the other
owed-sym : (a b : Stop) (t u : Turns) → owed a b (same_turns t u) ≡ owed b a (same_turns u t)
owed-sym (AtBarrier n) (AtBarrier m) t u = by (nat_eq n m) refl ∙ ap₂ (λ x y. cond (x && y) (Agreement m) Never) (nat_eq-sym n m) (same_turns-sym t u)
  where
    by : (x : Bool) → nat_eq n m ≡ x → cond (nat_eq n m && same_turns t u) (Agreement n) Never ≡ cond (nat_eq n m && same_turns t u) (Agreement m) Never
    by true e = ap (λ k. cond (nat_eq n m && same_turns t u) (Agreement k) Never) (eqb-true n m e)
    by false e = ap (λ x. cond (x && same_turns t u) (Agreement n) Never) e ∙ sym (ap (λ x. cond (x && same_turns t u) (Agreement m) Never) e)
owed-sym (AtBarrier n) (AtHead m again) t u = refl
owed-sym (AtBarrier n) AtEnd t u = refl
owed-sym (AtHead n again) (AtBarrier m) t u = refl
owed-sym (AtHead n again) (AtHead m also) t u = refl
owed-sym (AtHead n again) AtEnd t u = refl
owed-sym AtEnd (AtBarrier m) t u = refl
owed-sym AtEnd (AtHead m again) t u = refl
owed-sym AtEnd AtEnd t u = refl

is_owed-sym : (n : Notes) (here there : List Word) (o : Owed) → IsOwed n here there o → IsOwed n there here o
is_owed-sym n here there Nothing h = tt
is_owed-sym n here there (Agreement b) h = same-sym (n.same b) here there h
is_owed-sym n here there Never h = h

owed-at : (a a' b b' : Stop) (t t' u u' : Turns) → a ≡ a' → b ≡ b' → t ≡ t' → u ≡ u' → owed a b (same_turns t u) ≡ owed a' b' (same_turns t' u')
owed-at a a' b b' t t' u u' e f g h = ap₂ (λ x y. owed x y (same_turns t u)) e f ∙ ap₂ (λ x y. owed a' b' (same_turns x y)) g h

-- in the order of the list
module _ {E : Type 0} (w : Walked E) (n : Notes) (i j : ℕ) (hi : i < item_count (setup_of w)) (hj : j < item_count (setup_of w)) (r q : Root) (all : List (Of (Ended E))) (A : Option ℕ) (h k : Bool) (stop stop' : Stop) (turns turns' : Turns) (here there : List Word) (p : Reached (record { walked = w; item = i; place = hi; root = r }) all A h stop turns here) (o : Reached (record { walked = w; item = j; place = hj; root = q }) all A k stop' turns' there) where
  abbrev couple : Couple E
  couple = record { walked = w; i = i; j = j; first = hi; second = hj; root = r; other = q; news = p.news; more = o.news }

  abbrev stopped : Stopped couple here there
  stopped = record { here = p.node; there = o.node; fit = p.fit; other_fit = o.fit; known = p.known; other_known = o.known; forms = p.forms; other_forms = o.forms }

  listed : is_rest stop' ≡ true → group_of (setup_of w) i ≡ group_of (setup_of w) j → Same (same_at n A) (at_anchor h r) (at_anchor k q) → ((b : ℕ) → owed stop stop' (same_turns turns turns') ≡ Agreement b → (x : ℕ) → (slice_index_or here x zero_word).kind ≡ (slice_index_or there x zero_word).kind) → Owes IsShownWithProducts w.domain (known w.domain w.kernel.sizes w.conditions) (launch_facts w.conditions) n p.node o.node → IsOwed n here there (owed stop stop' (same_turns turns turns'))
  listed rest group alike kinds shown =
      let own = owed p.node.it.arrived.stop o.node.it.arrived.stop (same_turns p.node.it.arrived.turns o.node.it.arrived.turns) in
      let both = owed_obligations w.domain (known w.domain w.kernel.sizes w.conditions) (launch_facts w.conditions) n p.node o.node own in
      let alike_there = alike-moved n (λ b. at_anchor b r) (λ b. at_anchor b q) p.node.anchor A p.node.is_head h o.node.is_head k p.anchor p.head o.head alike in
      let may = and_from (same_anchor p.node.anchor o.node.anchor) (is_rest o.node.it.arrived.stop) (same_anchor-equal p.node.anchor o.node.anchor (p.anchor ∙ sym o.anchor)) (ap is_rest o.stopped ∙ rest) in
      let same = owed-at p.node.it.arrived.stop stop o.node.it.arrived.stop stop' p.node.it.arrived.turns turns o.node.it.arrived.turns turns' p.stopped o.stopped p.turned o.turned in
      subst (IsOwed n here there) (owed-at p.node.it.arrived.stop stop o.node.it.arrived.stop stop' p.node.it.arrived.turns turns o.node.it.arrived.turns turns' p.stopped o.stopped p.turned o.turned)
      (as-owed couple n here there stopped group alike_there own (λ b e. kinds b (sym same ∙ e)) (where-true IsShownWithProducts w.domain (known w.domain w.kernel.sizes w.conditions) (launch_facts w.conditions) n (same_anchor p.node.anchor o.node.anchor && is_rest o.node.it.arrived.stop) both may shown))

-- where variables are to be alike, with equal kinds
pub met : {E : Type 0} (w : Walked E) (n : Notes) (i j : ℕ) (hi : i < item_count (setup_of w)) (hj : j < item_count (setup_of w)) (r q : Root) (all : List (Of (Ended E))) → All IsShownWithProducts (meetings w.domain (known w.domain w.kernel.sizes w.conditions) (launch_facts w.conditions) n all) → (A : Option ℕ) (h k : Bool) (stop stop' : Stop) (turns turns' : Turns) (here there : List Word) → Reached (record { walked = w; item = i; place = hi; root = r }) all A h stop turns here → Reached (record { walked = w; item = j; place = hj; root = q }) all A k stop' turns' there → is_rest stop ≡ true → is_rest stop' ≡ true → group_of (setup_of w) i ≡ group_of (setup_of w) j → Same (same_at n A) (at_anchor h r) (at_anchor k q) → ((b : ℕ) → owed stop stop' (same_turns turns turns') ≡ Agreement b → (x : ℕ) → (slice_index_or here x zero_word).kind ≡ (slice_index_or there x zero_word).kind) → IsOwed n here there (owed stop stop' (same_turns turns turns'))
met w n i j hi hj r q all shown A h k stop stop' turns turns' here there p o rest rest' group alike kinds = elim (meetings-has IsShownWithProducts w.domain (known w.domain w.kernel.sizes w.conditions) (launch_facts w.conditions) n all (each-all IsShownWithProducts (meetings w.domain (known w.domain w.kernel.sizes w.conditions) (launch_facts w.conditions) n all) shown) p.node o.node (ap is_rest p.stopped ∙ rest) (ap is_rest o.stopped ∙ rest') p.here o.here) [
  | inl l ↦ listed w n i j hi hj r q all A h k stop stop' turns turns' here there p o rest' group alike kinds l
  | inr l ↦
      is_owed-sym n there here (owed stop stop' (same_turns turns turns'))
      (subst (IsOwed n there here) (owed-sym stop' stop turns' turns)
      (listed w n j i hj hi q r all A k h stop' stop turns' turns there here o p rest (sym group) (same-sym (same_at n A) (at_anchor h r) (at_anchor k q) alike) (λ b e x. sym (kinds b (owed-sym stop stop' turns turns' ∙ e) x)) l))
]
