-- What is to be shown of two items of a group that have come to their next barriers or their ends.
use Rattle.std.specs.Prelude.{ℕ, List, [], ◌∷◌, ◌++◌, Bool, true, false, ◌&&◌, nat_eq, cond, Option, Some, None, slice_index_or}
use Rattle.domain.specs.declared.Domain.{Ghosts}
use Rattle.facts.specs.Symbols.{Side, First, Second, Symbol, Variable, AtAnchor, Fact, once, minus, equals}
use Rattle.facts.specs.Elements.{Known, is_from_zero}
use Rattle.facts.specs.Launching.{each_dimension}
use Rattle.arrivals.specs.Trees.{Stop, AtBarrier, AtHead, AtEnd}
use Rattle.arrivals.specs.Shown.{Owed, Nothing, Agreement, Never, owed, same_turns}
use Rattle.walk_trees.specs.Held.{element_with}
use Rattle.walk_trees.specs.Values.{Value}
use Rattle.walk_trees.specs.Trees.{Sort, OfSame, OfMeeting, Spot, Goal, AtLeastZero, Ended, Obligation}
use Rattle.walk_trees.specs.Terms.{no_value}
use Rattle.walk_trees.specs.Statements.{spot_of}
use Rattle.walk_trees.specs.Pairs.{same_group}
use Rattle.walk_trees.specs.Seconds.{second_form, second_forms, element_of_two}
use Rattle.obligations.specs.Notes.{Notes}
use Rattle.obligations.specs.Listing.{Of}

-- two anchors, by their barriers' numbers
abbrev pub same_anchor : Option ℕ → Option ℕ → Bool
same_anchor None None = true
same_anchor None (Some m) = false
same_anchor (Some n) None = false
same_anchor (Some n) (Some m) = nat_eq n m

-- the slots that are alike at an anchor
abbrev pub same_at : Notes → Option ℕ → List ℕ
same_at n None = []
same_at n (Some b) = n.same b

-- a variable at the anchor, as the tree names it
abbrev pub anchor_symbol : (is_head : Bool) → Side → ℕ → Symbol
anchor_symbol false w x = Variable w x
anchor_symbol true w x = AtAnchor w x

-- the first one's variables at the anchor and the second one's are equal
abbrev pub same_facts : (first second : Bool) → List ℕ → List Fact
same_facts u v [] = []
same_facts u v (x ∷ xs) = equals (once (anchor_symbol u First x)) (once (anchor_symbol v Second x)) ++ same_facts u v xs

-- two items of one group, with what is alike at their anchor
abbrev pub group_facts : Notes → (anchor : Option ℕ) → (first second : Bool) → List Fact
group_facts n a u v = each_dimension same_group ++ same_facts u v (same_at n a)

abbrev pub spot_at : Stop → Spot
spot_at (AtBarrier n) = spot_of n
spot_at (AtHead n again) = spot_of n
spot_at AtEnd = spot_of 0

abbrev pub meeting : {E : Type 0} → Sort → (launch : List Fact) → Notes → Of (Ended E) → Of (Ended E) → (settled : Bool) → Option Goal → Obligation
meeting o launch n u v settled g = record {
  sort = o;
  spot = spot_at u.it.arrived.stop;
  other = Some (spot_at v.it.arrived.stop);
  needed = true;
  settled = settled;
  facts = launch ++ (u.it.facts ++ (second_forms v.it.facts ++ group_facts n u.anchor u.is_head v.is_head));
  goal = g;
}

abbrev pub value_form : List Value → ℕ → Fact
value_form vs x = (slice_index_or vs x no_value).form

-- one variable, as the first one has it and as the second one has it
abbrev pub first_form : {E : Type 0} → Of (Ended E) → ℕ → Fact
first_form u x = value_form u.it.arrived.variables x

abbrev pub other_form : {E : Type 0} → Of (Ended E) → ℕ → Fact
other_form v x = second_form (value_form v.it.arrived.variables x)

abbrev pub is_settled_of_two : {E : Type 0} → Ghosts E → Known E → Of (Ended E) → Of (Ended E) → Fact → Bool
is_settled_of_two g k u v f = is_from_zero (g.bounds_of (element_with g (element_of_two g k u.it.arrived.held v.it.arrived.held) f)).low

abbrev pub agreement : {E : Type 0} → Ghosts E → Known E → (launch : List Fact) → Notes → Of (Ended E) → Of (Ended E) → Fact → Obligation
agreement g k launch n u v f = meeting OfSame launch n u v (is_settled_of_two g k u v f) (Some (AtLeastZero f))

abbrev pub agreements : {E : Type 0} → Ghosts E → Known E → (launch : List Fact) → Notes → Of (Ended E) → Of (Ended E) → List ℕ → List Obligation
agreements g k launch n u v [] = []
agreements g k launch n u v (x ∷ xs) =
    agreement g k launch n u v (minus (first_form u x) (other_form v x)) ∷ agreement g k launch n u v (minus (other_form v x) (first_form u x)) ∷ agreements g k launch n u v xs

-- at one barrier what is said to be alike is; at the end nothing; else no two items come to both
abbrev pub owed_obligations : {E : Type 0} → Ghosts E → Known E → (launch : List Fact) → Notes → Of (Ended E) → Of (Ended E) → Owed → List Obligation
owed_obligations g k launch n u v Nothing = []
owed_obligations g k launch n u v (Agreement b) = agreements g k launch n u v (n.same b)
owed_obligations g k launch n u v Never = meeting OfMeeting launch n u v false None ∷ []

abbrev pub is_rest : Stop → Bool
is_rest (AtBarrier n) = true
is_rest (AtHead n again) = false
is_rest AtEnd = true

abbrev pub two_meet : {E : Type 0} → Ghosts E → Known E → (launch : List Fact) → Notes → Of (Ended E) → Of (Ended E) → List Obligation
two_meet g k launch n u v =
    cond (same_anchor u.anchor v.anchor && is_rest v.it.arrived.stop) (owed_obligations g k launch n u v (owed u.it.arrived.stop v.it.arrived.stop (same_turns u.it.arrived.turns v.it.arrived.turns))) []

abbrev pub meet_each : {E : Type 0} → Ghosts E → Known E → (launch : List Fact) → Notes → Of (Ended E) → List (Of (Ended E)) → List Obligation
meet_each g k launch n u [] = []
meet_each g k launch n u (v ∷ vs) = two_meet g k launch n u v ++ meet_each g k launch n u vs

-- each end at a barrier or of the kernel with itself and those behind it. Trees stand anchor by anchor
abbrev pub meetings : {E : Type 0} → Ghosts E → Known E → (launch : List Fact) → Notes → List (Of (Ended E)) → List Obligation
meetings g k launch n [] = []
meetings g k launch n (u ∷ us) = cond (is_rest u.it.arrived.stop) (meet_each g k launch n u (u ∷ us)) [] ++ meetings g k launch n us
