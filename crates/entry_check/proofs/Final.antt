-- Ends of which none is at a barrier.
use Rattle.std.proofs.Common.{◌≡◌, List, [], ◌∷◌, ◌++◌, cond, Bool, true, false, ◌&&◌, refl, ap, ◌∙◌}
use Rattle.std.proofs.lemmas.Bool.{and_parts}
use Rattle.arrivals.specs.Shown as shown
use Rattle.arrivals.specs.Shown.{same_turns}
use Rattle.arrivals.specs.Trees.{Stop, AtBarrier, AtHead, AtEnd}
use Rattle.walk_trees.specs.Trees.{Ended}
use Rattle.obligations.specs.Listing.{Of}
use Rattle.obligations.specs.Meetings.{is_rest, same_anchor}
use Rattle.obligations.specs.Notes.{Notes}
use Rattle.two_thread.specs.Meetings.{all_meetings, meet_each, meet_from, owed_of}
use Rattle.entry_check.specs.Pairs.{all_final, no_barrier}

either_none : {A : Type 0} (b : Bool) (xs : List A) → xs ≡ [] → cond b xs [] ≡ []
either_none true xs e = e
either_none false xs e = refl

not_rest : {A : Type 0} (b : Bool) (xs : List A) → cond (b && false) xs [] ≡ []
not_rest true xs = refl
not_rest false xs = refl

module _ {E : Type 0} (n : Notes) where
  two_none : (u v : Of (Ended E)) (same : Bool) (s t : Stop) → no_barrier s ≡ true → no_barrier t ≡ true → is_rest s ≡ true → cond (same_anchor u.anchor v.anchor && is_rest t) (owed_of n u v (shown.owed s t same)) [] ≡ []
  two_none u v same (AtBarrier i) t h k r = absurd cc
  two_none u v same (AtHead i again) t h k r = absurd cc
  two_none u v same AtEnd (AtBarrier j) h k r = absurd cc
  two_none u v same AtEnd (AtHead j again) h k r = not_rest (same_anchor u.anchor v.anchor) (owed_of n u v (shown.owed AtEnd (AtHead j again) same))
  two_none u v same AtEnd AtEnd h k r = either_none (same_anchor u.anchor v.anchor && true) [] refl

  each_none : (u : Of (Ended E)) (vs : List (Of (Ended E))) → no_barrier u.it.arrived.stop ≡ true → is_rest u.it.arrived.stop ≡ true → all_final vs ≡ true → meet_each n u vs ≡ []
  each_none u [] h r k = refl
  each_none u (v ∷ vs) h r k =
      let p = and_parts (no_barrier v.it.arrived.stop) (all_final vs) k in
      ap (λ l. l ++ meet_each n u vs) (two_none u v (same_turns u.it.arrived.turns v.it.arrived.turns) u.it.arrived.stop v.it.arrived.stop h p.0 r) ∙ each_none u vs h r p.1

  from_none : (u : Of (Ended E)) (vs : List (Of (Ended E))) (b : Bool) → is_rest u.it.arrived.stop ≡ b → no_barrier u.it.arrived.stop ≡ true → all_final vs ≡ true → meet_from n u vs ≡ []
  from_none u vs true r h k = ap (λ b. cond b (meet_each n u vs) []) r ∙ each_none u vs h r k
  from_none u vs false r h k = ap (λ b. cond b (meet_each n u vs) []) r

  pub none_meet : (us : List (Of (Ended E))) → all_final us ≡ true → all_meetings n us ≡ []
  none_meet [] h = refl
  none_meet (u ∷ us) h =
      let p = and_parts (no_barrier u.it.arrived.stop) (all_final us) h in
      ap (λ l. l ++ all_meetings n us) (from_none u (u ∷ us) (is_rest u.it.arrived.stop) refl p.0 h) ∙ none_meet us p.1

pub final_both : {E : Type 0} (us vs : List (Of (Ended E))) → all_final (us ++ vs) ≡ (all_final us && all_final vs)
final_both [] vs = refl
final_both (u ∷ us) vs = ap (λ b. no_barrier u.it.arrived.stop && b) (final_both us vs) ∙ apart (no_barrier u.it.arrived.stop) (all_final us) (all_final vs)
  where
    apart : (a b c : Bool) → (a && (b && c)) ≡ ((a && b) && c)
    apart true b c = refl
    apart false b c = refl
