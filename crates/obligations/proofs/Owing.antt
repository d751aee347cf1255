-- Where all is shown, two items of a group that have come to their barriers or ends are as they have to be.
use Rattle.std.proofs.Common.{◌≡◌, ℕ, ◌<◌, Bool, true, List, [], length, Option, Some, None, slice_index_or, arith, refl, sym, ap, ◌∙◌, subst, inl, inr}
use Rattle.std.specs.List.{All}
use Rattle.std.proofs.lemmas.Bool.{cases_lt}
use Rattle.semantics.specs.Word.{Word, zero_word}
use Rattle.semantics.specs.Launch.{Kernel, Launch}
use Rattle.semantics.specs.Conditions.{Content}
use Rattle.semantics.specs.Setup.{Setup, item_count}
use Rattle.facts.specs.Launching.{launch_facts, known}
use Rattle.facts.proofs.Worlds.{Walked, View, setup_of}
use Rattle.arrivals.specs.Points as points
use Rattle.arrivals.specs.Points.{Point}
use Rattle.arrivals.specs.Trees.{Stop, AtBarrier, AtHead, AtEnd, Turns, End, IsEnd}
use Rattle.arrivals.specs.Places.{Place, places}
use Rattle.arrivals.specs.Places as placed
use Rattle.arrivals.specs.Paths.{Held, Same}
use Rattle.arrivals.specs.Shown as arrivals
use Rattle.arrivals.specs.Shown.{Came, Both, IsHead, Owed, Nothing, Agreement, Never, owed, same_turns, Shows, PairShown, alike_at}
use Rattle.walk_trees.specs.Walks.{State}
use Rattle.walk_trees.specs.Shown.{IsShownWithProducts}
use Rattle.walk_trees.proofs.QuotientSound.{DividesLawfully}
use Rattle.obligations.specs.Notes.{Notes, number_at}
use Rattle.obligations.specs.Telling.{TellsOfItems}
use Rattle.obligations.specs.Roots.{kinds}
use Rattle.obligations.specs.Walking.{course}
use Rattle.obligations.specs.Listing.{all_trees, claims_of, ends_in, is_some, of_place}
use Rattle.obligations.specs.Meetings.{same_at, is_rest, meetings}
use Rattle.obligations.proofs.Words.{are_words, words-each, fits-length}
use Rattle.obligations.proofs.Rooted.{past-each}
use Rattle.obligations.proofs.PlaceLines.{root_at, notes_of}
use Rattle.obligations.proofs.Nodes.{Reached, at_anchor}
use Rattle.obligations.proofs.Planting.{end-has}
use Rattle.obligations.proofs.Started.{over, view}
use Rattle.obligations.proofs.Arriving.{EndsAt, at_barrier, at_end}
use Rattle.obligations.proofs.Agreeing.{IsOwed}
use Rattle.obligations.proofs.Meetings.{met}
use Rattle.obligations.proofs.Stationed as stationed

-- words of one kernel's variables have equal kinds
kinds-same : (k : Kernel) (l : Launch) (a b : List Word) → are_words k l a ≡ true → are_words k l b ≡ true → (x : ℕ) → (slice_index_or a x zero_word).kind ≡ (slice_index_or b x zero_word).kind
kinds-same k l a b h j x = elim (cases_lt x (length (kinds k))) [
  | inl m ↦ (words-each k l a h x m).kind ∙ sym (words-each k l b j x m).kind
  | inr g ↦ ap (λ (w : Word). w.kind) (past-each a zero_word x (let e = fits-length k l 0 (kinds k) a h in omega (arith, e, g)) ∙ sym (past-each b zero_word x (let e = fits-length k l 0 (kinds k) b j in omega (arith, e, g))))
]

-- what is owed of two stops is an agreement at barriers alone
agreed : (x y : Stop) (t : Bool) (m : ℕ) → owed x y t ≡ Agreement m → ((b : ℕ) × (x ≡ AtBarrier b)) × ((b : ℕ) × (y ≡ AtBarrier b))
agreed (AtBarrier a) (AtBarrier b) t m e = ((a, refl), (b, refl))
agreed (AtBarrier a) (AtHead b again) t m e = cc
agreed (AtBarrier a) AtEnd t m e = cc
agreed (AtHead a again) (AtBarrier b) t m e = cc
agreed (AtHead a again) (AtHead b also) t m e = cc
agreed (AtHead a again) AtEnd t m e = cc
agreed AtEnd (AtBarrier b) t m e = cc
agreed AtEnd (AtHead b again) t m e = cc
agreed AtEnd AtEnd t m e = cc

rests : (x : Stop) → (IsHead x → ⊥) → is_rest x ≡ true
rests (AtBarrier m) h = refl
rests (AtHead m again) h = absurd (h tt)
rests AtEnd h = refl

pub alike-is : (s : Setup) (cs : List Content) (n : Notes) (x : Option Point) → alike_at (notes_of s cs n) x ≡ same_at n (number_at x)
alike-is s cs n None = refl
alike-is s cs n (Some p) = refl

-- what an item had at its anchor
pub at_anchor-is : (b : Option ℕ) (from root : Held) → (b ≡ None → root ≡ from) → at_anchor (is_some b) (root_at from root) ≡ from.variables
at_anchor-is None from root h = ap (λ (l : Held). l.variables) (h refl)
at_anchor-is (Some m) from root h = refl

module _ {E : Type 0} (w : Walked E) (n : Notes) (tell : TellsOfItems n) (laws : DividesLawfully w.domain) (shown : All IsShownWithProducts (claims_of w.conditions (all_trees w.domain w.kernel w.conditions n)))
    (together : All IsShownWithProducts (meetings w.domain (known w.domain w.kernel.sizes w.conditions) (launch_facts w.conditions) n (ends_in (all_trees w.domain w.kernel w.conditions n))))
  where
    abbrev s : Setup
    s = setup_of w

    abbrev k : arrivals.Notes
    k = notes_of s w.conditions.contents n

    -- one item at one leaf
    module _ (p : Place) (is : points.Has p (places w.kernel.body)) (u : End) (end : IsEnd u [] (placed.tree w.kernel.body p)) (i : ℕ) (h : i < item_count s) (from here : Held) (came : Came s k p i u.path from here) where
      abbrev c : View E
      c = stationed.c w n tell laws shown p is i h u.path from here came

      stop-is : (x : Stop) (t : Turns) (st : State E) → stationed.At w n tell laws shown p is i h u.path from here came ((course (stationed.pl w n tell laws shown p is i h u.path from here came)).stops x t st) st here → is_rest x ≡ true →
          EndsAt c (stationed.last w n tell laws shown p is i h u.path from here came) x t here.variables × ((m : ℕ) → x ≡ AtBarrier m → are_words w.kernel w.launch here.variables ≡ true)
      stop-is (AtBarrier m) t st y r =
          let q = at_barrier w n tell laws i h from came.root (number_at p.anchor) (number_at p.head) (stationed.holds w n tell laws shown p is i h u.path from here came) (stationed.own w n tell laws shown p is i h u.path from here came)
          (launch_facts w.conditions) (stationed.all w n tell laws shown p is i h u.path from here came) (stationed.last w n tell laws shown p is i h u.path from here came) m t st here y in
          (q.1, λ o e. q.0.words)
      stop-is (AtHead m again) t st y r = cc
      stop-is AtEnd t st y r = (
        at_end w n tell laws i h from came.root (number_at p.anchor) (number_at p.head) (stationed.holds w n tell laws shown p is i h u.path from here came) (stationed.own w n tell laws shown p is i h u.path from here came)
            (launch_facts w.conditions) (stationed.all w n tell laws shown p is i h u.path from here came) (stationed.last w n tell laws shown p is i h u.path from here came) t st here y,
        λ o e. cc,
      )

      pub reached : is_rest u.stop ≡ true → Reached c (ends_in (all_trees w.domain w.kernel w.conditions n)) (number_at p.anchor) (is_some (number_at p.head)) u.stop u.turns here.variables × ((m : ℕ) → u.stop ≡ AtBarrier m → are_words w.kernel w.launch here.variables ≡ true)
      reached r =
          let q = stationed.at_leaf w n tell laws shown p is i h u.path from here came u refl end in
          let e = stop-is u.stop u.turns q.0 q.1 r in
          let it = stationed.it w n tell laws shown p is i h u.path from here came in (
            record {
              node = of_place it e.0.node;
              news = e.0.news;
              fit = e.0.fit;
              known = e.0.known;
              forms = e.0.forms;
              stopped = e.0.stopped;
              turned = e.0.turned;
              anchor = refl;
              head = refl;
              here = end-has (all_trees w.domain w.kernel w.conditions n) it e.0.node (stationed.it-has w n tell laws shown p is i h u.path from here came) e.0.here;
            },
            e.1,
          )

    module _ (p q : Place) (u v : End) (is : points.Has p (places w.kernel.body)) (so : points.Has q (places w.kernel.body)) (anchor : p.anchor ≡ q.anchor) (end : IsEnd u [] (placed.tree w.kernel.body p)) (other : IsEnd v [] (placed.tree w.kernel.body q)) (no : IsHead u.stop → ⊥) (nor : IsHead v.stop → ⊥) where
      both-owed : (here there : Held) → Both s k p q u v here there → IsOwed n here.variables there.variables (owed u.stop v.stop (same_turns u.turns v.turns))
      both-owed here there y =
          let one = reached p is u end y.i y.two.first y.a here y.one (rests u.stop no) in
          let two = reached q so v other y.j y.two.second y.b there y.other (rests v.stop nor) in
          let same : Same (same_at n (number_at p.anchor)) y.a.variables y.b.variables = subst (λ xs. Same xs y.a.variables y.b.variables) (alike-is s w.conditions.contents n p.anchor) y.same in
          let first = at_anchor-is (number_at p.head) y.a y.one.root (stationed.own w n tell laws shown p is y.i y.two.first u.path y.a here y.one) in
          let second = at_anchor-is (number_at q.head) y.b y.other.root (stationed.own w n tell laws shown q so y.j y.two.second v.path y.b there y.other) in
          met (over w n) n y.i y.j y.two.first y.two.second (root_at y.a y.one.root) (root_at y.b y.other.root) (ends_in (all_trees w.domain w.kernel w.conditions n)) together
          (number_at p.anchor) (is_some (number_at p.head)) (is_some (number_at q.head)) u.stop v.stop u.turns v.turns here.variables there.variables
          one.0 (subst (λ o. Reached (view w n y.j y.two.second y.b y.other.root) (ends_in (all_trees w.domain w.kernel w.conditions n)) o (is_some (number_at q.head)) v.stop v.turns there.variables) (sym (ap number_at anchor)) two.0)
          (rests u.stop no) (rests v.stop nor) y.two.group
          (subst (λ ws. Same (same_at n (number_at p.anchor)) ws (at_anchor (is_some (number_at q.head)) (root_at y.b y.other.root))) (sym first) (subst (λ ws. Same (same_at n (number_at p.anchor)) y.a.variables ws) (sym second) same))
          (λ m e. let g = agreed u.stop v.stop (same_turns u.turns v.turns) m e in kinds-same w.kernel w.launch here.variables there.variables (one.1 g.0.0 g.0.1) (two.1 g.1.0 g.1.1))

      shows : (o : Owed) → owed u.stop v.stop (same_turns u.turns v.turns) ≡ o → Shows s k p q u v o
      shows Nothing e = tt
      shows (Agreement m) e = λ here there y. subst (IsOwed n here.variables there.variables) e (both-owed here there y)
      shows Never e = λ here there y. subst (IsOwed n here.variables there.variables) e (both-owed here there y)

      pub pair_shown : PairShown s k p q u v
      pair_shown = shows (owed u.stop v.stop (same_turns u.turns v.turns)) refl
