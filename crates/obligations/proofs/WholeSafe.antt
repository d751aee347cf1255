-- A kernel of which all is shown place by place is pair-safe.
use Rattle.std.proofs.Common.{◌≡◌, ℕ, ◌<◌, Bool, true, List, [], ◌++◌, map, Option, Some, None, refl, sym, ap, subst, inl}
use Rattle.std.specs.List.{All}
use Rattle.semantics.specs.Core.{number}
use Rattle.semantics.specs.Setup.{Setup, item_count}
use Rattle.semantics.specs.Solo.{opening}
use Rattle.semantics.specs.Safety.{IsPairSafeWithin}
use Rattle.facts.specs.Launching.{launch_facts, known}
use Rattle.facts.proofs.Worlds.{Walked, setup_of}
use Rattle.arrivals.specs.Points as points
use Rattle.arrivals.specs.Points.{Point}
use Rattle.arrivals.specs.Trees.{AtBarrier, AtHead, End, IsEnd}
use Rattle.arrivals.specs.Places.{Place, places, own_place}
use Rattle.arrivals.specs.Places as placed
use Rattle.arrivals.specs.Paths.{Held}
use Rattle.arrivals.specs.Shown as arrivals
use Rattle.arrivals.specs.Shown.{Came, Line, Shown, IsSound, IsShort, HasHead, at_opening}
use Rattle.arrivals.proofs.Alike.{waits-alike, ends-last}
use Rattle.arrivals.proofs.Apart.{no_clash}
use Rattle.arrivals.proofs.Keeping.{keeps}
use Rattle.arrivals.proofs.Quiet.{quiet}
use Rattle.walk_trees.specs.Trees.{Obligation}
use Rattle.walk_trees.specs.Shown.{IsShownWithProducts}
use Rattle.walk_trees.proofs.QuotientSound.{DividesLawfully}
use Rattle.walk_trees.proofs.SameWords.{same_words-refl}
use Rattle.walk_trees.proofs.Standing.{all_left, all_right}
use Rattle.obligations.specs.Notes.{Notes, number_at}
use Rattle.obligations.specs.Telling.{TellsOfItems}
use Rattle.obligations.specs.Walking.{course}
use Rattle.obligations.specs.Listing.{all_trees, claims_of, accesses_of, ends_in}
use Rattle.obligations.specs.Meetings.{meetings}
use Rattle.obligations.specs.Crossings.{crossings, crossing_obligation}
use Rattle.obligations.specs.Shown.{obligations}
use Rattle.obligations.proofs.PlaceLines.{notes_of, line_by, of_holds}
use Rattle.obligations.proofs.Opened.{opening-words}
use Rattle.obligations.proofs.Started.{view}
use Rattle.obligations.proofs.Arriving.{at_barrier, at_head}
use Rattle.obligations.proofs.Owing.{pair_shown}
use Rattle.obligations.proofs.Accessing as accessing
use Rattle.loop_bounds.specs.Costs.{cost}
use Rattle.rankings.proofs.Short.{ranked_short}
use Rattle.obligations.specs.Limits.{limit_at, turns_at, AreLimits}
use Rattle.obligations.proofs.Ranks.{ranks}
use Rattle.obligations.proofs.Stationed as stationed

module _ {E : Type 0} (w : Walked E) (n : Notes) (tell : TellsOfItems n) (laws : DividesLawfully w.domain) (shown : All IsShownWithProducts (obligations w.domain w.kernel w.conditions n)) where
  abbrev s : Setup
  s = setup_of w

  abbrev k : arrivals.Notes
  k = notes_of s w.conditions.contents n

  abbrev together : List Obligation
  together = meetings w.domain (known w.domain w.kernel.sizes w.conditions) (launch_facts w.conditions) n (ends_in (all_trees w.domain w.kernel w.conditions n))

  abbrev apart : List Obligation
  apart = map (crossing_obligation w.domain (known w.domain w.kernel.sizes w.conditions) (launch_facts w.conditions) n) (crossings w.kernel w.conditions (accesses_of (all_trees w.domain w.kernel w.conditions n)))

  claims : All IsShownWithProducts (claims_of w.conditions (all_trees w.domain w.kernel w.conditions n))
  claims = all_left IsShownWithProducts (claims_of w.conditions (all_trees w.domain w.kernel w.conditions n)) (together ++ apart) shown

  pairs : All IsShownWithProducts (together ++ apart)
  pairs = all_right IsShownWithProducts (claims_of w.conditions (all_trees w.domain w.kernel w.conditions n)) (together ++ apart) shown

  opens : (i : ℕ) → i < item_count s → Line k (own_place None) i (at_opening s i) (at_opening s i)
  opens i h =
      let words = opening-words (view w n i h (at_opening s i) (at_opening s i)) in
      of_holds s n None None i (at_opening s i) (at_opening s i) (record { words = words; before = words; opens = same_words-refl (opening s i).variables; facts = refl; congruences = refl; multiples = refl })

  -- the lines of a place where a path comes
  head-is : (m : ℕ) (h : Option Point) → HasHead m h → number_at h ≡ Some m
  head-is m None e = absurd e
  head-is m (Some x) e = ap Some e

  at_heads : (p q : Place) (u : End) (m : ℕ) (again : Bool) → points.Has p (places w.kernel.body) → points.Has q (places w.kernel.body) → q.anchor ≡ p.anchor → HasHead m q.head → IsEnd u [] (placed.tree w.kernel.body p) → u.stop ≡ AtHead m again
      → (i : ℕ) (from here : Held) → i < item_count s → Came s k p i u.path from here → Line k q i from here
  at_heads p q u m again is so anchor head end stop i from here h came =
      let y = stationed.at_leaf w n tell laws claims p is i h u.path from here came u refl end in
      let z = at_head w n tell laws i h from came.root (number_at p.anchor) (number_at p.head) (stationed.holds w n tell laws claims p is i h u.path from here came) (stationed.own w n tell laws claims p is i h u.path from here came)
      (launch_facts w.conditions) (stationed.all w n tell laws claims p is i h u.path from here came) (stationed.last w n tell laws claims p is i h u.path from here came) m again u.turns y.0 here
      (subst (λ x. stationed.At w n tell laws claims p is i h u.path from here came ((course (stationed.pl w n tell laws claims p is i h u.path from here came)).stops x u.turns y.0) y.0 here) stop y.1) in
      subst (λ a. line_by s n (number_at a) (number_at q.head) i from here ≡ true) (sym anchor)
      (subst (λ b. line_by s n (number_at p.anchor) b i from here ≡ true) (sym (head-is m q.head head)) (of_holds s n (number_at p.anchor) (Some m) i from here z))

  at_barriers : (p : Place) (b : Point) (u : End) → points.Has p (places w.kernel.body) → points.Has (own_place (Some b)) (places w.kernel.body) → IsEnd u [] (placed.tree w.kernel.body p) → u.stop ≡ AtBarrier (number b.statement)
      → (i : ℕ) (from here : Held) → i < item_count s → Came s k p i u.path from here → Line k (own_place (Some b)) i here here
  at_barriers p b u is so end stop i from here h came =
      let y = stationed.at_leaf w n tell laws claims p is i h u.path from here came u refl end in
      let z = at_barrier w n tell laws i h from came.root (number_at p.anchor) (number_at p.head) (stationed.holds w n tell laws claims p is i h u.path from here came) (stationed.own w n tell laws claims p is i h u.path from here came)
      (launch_facts w.conditions) (stationed.all w n tell laws claims p is i h u.path from here came) (stationed.last w n tell laws claims p is i h u.path from here came) (number b.statement) u.turns y.0 here
      (subst (λ x. stationed.At w n tell laws claims p is i h u.path from here came ((course (stationed.pl w n tell laws claims p is i h u.path from here came)).stops x u.turns y.0) y.0 here) stop y.1) in
      of_holds s n (Some (number b.statement)) None i here here z.0

  pub leaves : Shown s k
  leaves = record {
    opens = opens;
    at_heads = at_heads;
    at_barriers = at_barriers;
    pairs = λ p q u v is so anchor end other no nor. inl (pair_shown w n tell laws claims (all_left IsShownWithProducts together apart pairs) p q u v is so anchor end other no nor);
  }

  pub whole_pair_safe : (bound : ℕ) → IsSound s → IsShort s w.conditions.contents bound → IsPairSafeWithin w.conditions.contents s bound
  whole_pair_safe bound sure short = record {
    quiet = quiet s k sure leaves (accessing.faults w n tell laws claims (all_right IsShownWithProducts together apart pairs));
    short = short;
    apart = no_clash s k sure leaves (accessing.accesses w n tell laws claims (all_right IsShownWithProducts together apart pairs));
    agree = λ i j a b ne g. waits-alike s k sure leaves i j (record { first = a; second = b; distinct = ne; group = g });
    ends = λ i j a b ne g. ends-last s k sure leaves i j (record { first = a; second = b; distinct = ne; group = g });
    keeps = keeps s k sure leaves (accessing.stores w n tell laws claims (all_right IsShownWithProducts together apart pairs));
  }

  -- within the cost, with as many turns as is said of loops
  pub whole_safe_within : IsSound s → AreLimits n → IsPairSafeWithin w.conditions.contents s (cost (turns_at n) w.kernel.body)
  whole_safe_within sure are = whole_pair_safe (cost (turns_at n) w.kernel.body) sure (ranked_short s k (limit_at n) sure leaves (ranks w n tell laws claims are))
