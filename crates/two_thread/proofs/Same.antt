-- What is to be shown heeds of the notes what is alike alone.
use Rattle.std.proofs.Common.{◌≡◌, ℕ, List, [], ◌∷◌, ◌++◌, map, cond, ◌&&◌, Bool, true, false, Option, Some, None, refl, ap, ◌∙◌}
use Rattle.arrivals.specs.Shown as shown
use Rattle.arrivals.specs.Shown.{same_turns}
use Rattle.domain.specs.declared.Domain.{Ghosts}
use Rattle.facts.specs.Elements.{Known}
use Rattle.facts.specs.Launching.{each_dimension}
use Rattle.facts.specs.Symbols.{Fact}
use Rattle.walk_trees.specs.Pairs.{Scope, Within, Across, same_group, order_fact, id}
use Rattle.walk_trees.specs.Trees.{Ended, OfMeeting, OfSame, OfPair, AtLeastZero}
use Rattle.walk_trees.specs.Seconds.{second_forms}
use Rattle.obligations.specs.Listing.{Of}
use Rattle.obligations.specs.Meetings.{same_anchor, same_at, same_facts, group_facts, is_rest, agreement, agreements, meeting, owed_obligations, two_meet, meet_each, meetings, first_form, other_form}
use Rattle.obligations.specs.Meetings as specs
use Rattle.obligations.specs.Crossings.{Crossing, alike_facts, scope_facts, is_apart, second_index, crossing_obligation}
use Rattle.obligations.specs.Notes.{Notes}
use Rattle.facts.specs.Symbols.{First, Second, once, equals, minus}

module _ (n m : Notes) (h : (b : ℕ) → n.same b ≡ m.same b) where
  at-same : (a : Option ℕ) → same_at n a ≡ same_at m a
  at-same None = refl
  at-same (Some b) = h b

  group-same : (a : Option ℕ) (u v : Bool) → group_facts n a u v ≡ group_facts m a u v
  group-same a u v = ap (λ xs. each_dimension same_group ++ same_facts u v xs) (at-same a)

  module _ {E : Type 0} (g : Ghosts E) (k : Known E) (launch : List Fact) where
    one-same : (u v : Of (Ended E)) (f : Fact) → agreement g k launch n u v f ≡ agreement g k launch m u v f
    one-same u v f = ap (λ x. record { sort = OfSame; spot = specs.spot_at u.it.arrived.stop; other = Some (specs.spot_at v.it.arrived.stop); needed = true; settled = specs.is_settled_of_two g k u v f; facts = launch ++ (u.it.facts ++ (second_forms v.it.facts ++ x)); goal = Some (AtLeastZero f) }) (group-same u.anchor u.is_head v.is_head)

    never-same : (u v : Of (Ended E)) → meeting OfMeeting launch n u v false None ≡ meeting OfMeeting launch m u v false None
    never-same u v = ap (λ x. record { sort = OfMeeting; spot = specs.spot_at u.it.arrived.stop; other = Some (specs.spot_at v.it.arrived.stop); needed = true; settled = false; facts = launch ++ (u.it.facts ++ (second_forms v.it.facts ++ x)); goal = None }) (group-same u.anchor u.is_head v.is_head)

    all-same : (u v : Of (Ended E)) (xs : List ℕ) → agreements g k launch n u v xs ≡ agreements g k launch m u v xs
    all-same u v [] = refl
    all-same u v (x ∷ xs) = λ i. one-same u v (minus (first_form u x) (other_form v x)) i ∷ one-same u v (minus (other_form v x) (first_form u x)) i ∷ all-same u v xs i

    owed-same : (u v : Of (Ended E)) (o : shown.Owed) → owed_obligations g k launch n u v o ≡ owed_obligations g k launch m u v o
    owed-same u v shown.Nothing = refl
    owed-same u v (shown.Agreement b) = all-same u v (n.same b) ∙ ap (agreements g k launch m u v) (h b)
    owed-same u v shown.Never = ap (λ x. x ∷ []) (never-same u v)

    each-same : (u : Of (Ended E)) (vs : List (Of (Ended E))) → meet_each g k launch n u vs ≡ meet_each g k launch m u vs
    each-same u [] = refl
    each-same u (v ∷ vs) = λ i. cond (same_anchor u.anchor v.anchor && is_rest v.it.arrived.stop) (owed-same u v (shown.owed u.it.arrived.stop v.it.arrived.stop (same_turns u.it.arrived.turns v.it.arrived.turns)) i) [] ++ each-same u vs i

    pub meetings_same : (us : List (Of (Ended E))) → meetings g k launch n us ≡ meetings g k launch m us
    meetings_same [] = refl
    meetings_same (u ∷ us) = λ i. cond (is_rest u.it.arrived.stop) (each-same u (u ∷ us) i) [] ++ meetings_same us i

    alike-same : (a : Option ℕ) (u v b : Bool) → alike_facts n a u v b ≡ alike_facts m a u v b
    alike-same a u v true = ap (same_facts u v) (at-same a)
    alike-same a u v false = refl

    scope-same : (s : Scope) (x : Crossing E) → scope_facts n s x ≡ scope_facts m s x
    scope-same Within x = ap (λ l. each_dimension same_group ++ l) (alike-same x.first.anchor x.first.is_head x.second.is_head x.alike)
    scope-same Across x = refl

    crossing-same : (x : Crossing E) → crossing_obligation g k launch n x ≡ crossing_obligation g k launch m x
    crossing-same x = ap (λ l. record { sort = OfPair; spot = x.first.it.target.spot; other = Some x.second.it.target.spot; needed = true; settled = is_apart g k x; facts = launch ++ (x.first.it.facts ++ (second_forms x.second.it.facts ++ (l ++ (order_fact x.order (once (id x.scope First x.dimension)) (once (id x.scope Second x.dimension)) ∷ equals x.first.it.index (second_index x))))); goal = None }) (scope-same x.scope x)

    pub crossings_same : (xs : List (Crossing E)) → map (crossing_obligation g k launch n) xs ≡ map (crossing_obligation g k launch m) xs
    crossings_same [] = refl
    crossings_same (x ∷ xs) = λ i. crossing-same x i ∷ crossings_same xs i
