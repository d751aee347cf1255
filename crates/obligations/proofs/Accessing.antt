-- Where all is shown, no two items make accesses of one element, one of them a store.
use Rattle.std.proofs.Common.{◌≡◌, ◌≢◌, ℕ, zero, suc, ◌+◌, ◌<◌, Bool, true, false, List, [], ◌∷◌, length, map, slice_index_or, arith, refl, sym, ap, ◌∙◌, subst, inl}
use Rattle.std.specs.Prelude.{ℤ}
use Rattle.std.specs.List.{All}
use Rattle.semantics.specs.Core.{Space, Global, Local, Array}
use Rattle.semantics.specs.Launch.{LocalArray}
use Rattle.semantics.specs.Setup.{Setup, group_of, item_count}
use Rattle.semantics.specs.Memory.{Cell, owner_of, cell, extent_in, no_array}
use Rattle.semantics.specs.Solo as solo
use Rattle.semantics.specs.Contents.{HonestFront, StoresKept}
use Rattle.facts.specs.Launching.{launch_facts, known}
use Rattle.facts.proofs.Launched.{buffers-length}
use Rattle.facts.proofs.Worlds.{Walked, View, setup_of}
use Rattle.arrivals.specs.Points as points
use Rattle.arrivals.specs.Trees.{Front, IsFront}
use Rattle.arrivals.specs.Places.{Place, places}
use Rattle.arrivals.specs.Places as placed
use Rattle.arrivals.specs.Paths.{Held, Same, Makes}
use Rattle.arrivals.specs.Shown as arrivals
use Rattle.arrivals.specs.Shown.{Came, Two, alike_at}
use Rattle.arrivals.specs.Races.{space_of, Race, Fronts, AccessesShown, is_fenced}
use Rattle.arrivals.specs.Faults.{FaultsShown, StoresShown}
use Rattle.semantics.specs.Item.{Status, Running, Stopped}
use Rattle.semantics.specs.Word.{Fault}
use Rattle.semantics.specs.Core.{Site}
use Rattle.walk_trees.specs.Shown.{IsShownWithProducts}
use Rattle.walk_trees.proofs.QuotientSound.{DividesLawfully}
use Rattle.walk_trees.proofs.Fronts.{IsFine}
use Rattle.semantics.specs.Ask.{act}
use Rattle.obligations.specs.Notes.{Notes, number_at}
use Rattle.obligations.specs.Telling.{TellsOfItems}
use Rattle.obligations.specs.Listing.{all_trees, claims_of, accesses_of, is_some, of_place}
use Rattle.obligations.specs.Meetings.{same_at}
use Rattle.obligations.specs.Crossings.{crossings, crossing_obligation}
use Rattle.obligations.proofs.PlaceLines.{root_at, notes_of}
use Rattle.obligations.proofs.Nodes.{Made, at_anchor}
use Rattle.obligations.proofs.Planting.{access-has}
use Rattle.obligations.proofs.Started.{over, view}
use Rattle.obligations.proofs.CrossingLists.{IsNumbered, IsOf}
use Rattle.obligations.proofs.Crossed.{not-within, not-across}
use Rattle.obligations.proofs.Owing.{at_anchor-is, alike-is}
use Rattle.obligations.proofs.Fronting.{fine_at}
use Rattle.obligations.proofs.Stationed as stationed
use Rattle.semantics.specs.Item.{trail}

running-not : (s : Status) (f : Fault) (site : Site) → s ≡ Running → s ≡ Stopped f site → ⊥
running-not s f site r e = cc

buffer-below : (bs : List (List ℤ)) (b k : ℕ) → k < length (slice_index_or bs b []) → b < length bs
buffer-below [] b k h = absurd (omega (arith, h))
buffer-below (x ∷ bs) zero k h = omega arith
buffer-below (x ∷ bs) (suc b) k h = let l = buffer-below bs b k h in omega (arith, l)

array-below : (bs : List LocalArray) (b k : ℕ) → k < (slice_index_or bs b no_array).length → b < length bs
array-below [] b k h = absurd (omega (arith, h))
array-below (x ∷ bs) zero k h = omega arith
array-below (x ∷ bs) (suc b) k h = let l = array-below bs b k h in omega (arith, l)

module _ {E : Type 0} (w : Walked E) (n : Notes) (tell : TellsOfItems n) (laws : DividesLawfully w.domain) (shown : All IsShownWithProducts (claims_of w.conditions (all_trees w.domain w.kernel w.conditions n)))
    (apart : All IsShownWithProducts (map (crossing_obligation w.domain (known w.domain w.kernel.sizes w.conditions) (launch_facts w.conditions) n) (crossings w.kernel w.conditions (accesses_of (all_trees w.domain w.kernel w.conditions n)))))
  where
    abbrev s : Setup
    s = setup_of w

    abbrev k : arrivals.Notes
    k = notes_of s w.conditions.contents n

    -- an element that is there is of an array that is there
    is-of : (sp : Space) (b x : ℕ) → x < extent_in s sp b → IsNumbered w.kernel sp b
    is-of Global b x h = let m = buffers-length w.kernel.buffers w.launch.buffers w.fits.buffers in let l = buffer-below w.launch.buffers b x h in omega (arith, m, l)
    is-of Local b x h = array-below w.kernel.arrays b x h

    -- one item in front of one statement
    module _ (p : Place) (is : points.Has p (places w.kernel.body)) (f : Front) (front : IsFront f [] (placed.tree w.kernel.body p)) (i : ℕ) (h : i < item_count s) (from here : Held) (came : Came s k p i f.path from here) where
      abbrev pub c : View E
      c = stationed.c w n tell laws shown p is i h f.path from here came

      pub fine : (it : Rattle.semantics.specs.Item.Item) → it.variables ≡ here.variables → HonestFront s w.conditions.contents i (trail it.left) f.statement.statement it.variables it.answers → (turns : ℕ) (rest : List Rattle.semantics.specs.Item.Entry) → IsFine c (stationed.all w n tell laws shown p is i h f.path from here came) it (act s i it f.statement.statement turns rest)
      fine it same honest turns rest =
          fine_at c (launch_facts w.conditions) laws (stationed.all w n tell laws shown p is i h f.path from here came) (stationed.last w n tell laws shown p is i h f.path from here came) n (number_at p.anchor) (number_at p.head) (λ e x. x) tell.rankings
          f.statement.statement here (stationed.at_front w n tell laws shown p is i h f.path from here came f refl front) it same honest turns rest

      -- an access with its array
      pub record Finds (a : solo.Access) : Type 0 where
        pub array : Array
        pub made : Made c (accesses_of (all_trees w.domain w.kernel w.conditions n)) (number_at p.anchor) (is_some (number_at p.head)) a.is_store array a.at.index
        pub at : a.at ≡ cell s i array a.at.index
        pub there : IsOf w.kernel array

      pub finds : (a : solo.Access) → Makes s w.conditions.contents i f.statement.statement here.variables a → Finds a
      finds a m =
          let o = (fine m.it m.variables m.honest m.turns m.rest).noted a m.touches in
          let it = stationed.it w n tell laws shown p is i h f.path from here came in
          record {
            array = o.node.target.array;
            made = record {
              node = of_place it o.node;
              news = o.news;
              fit = o.fit;
              known = o.known;
              index = o.index;
              store = o.store;
              array = refl;
              anchor = refl;
              head = refl;
              here = access-has (all_trees w.domain w.kernel w.conditions n) it o.node (stationed.it-has w n tell laws shown p is i h f.path from here came) o.here;
            };
            at = o.at;
            there = is-of o.node.target.array.space o.node.target.array.number a.at.index o.inside;
          }

    pub faults : FaultsShown s k
    faults p f is front i from here h came stops = (fine p is f front i h from here came stops.it stops.variables stops.honest stops.turns stops.rest).runs stops.answer stops.fault stops.site (running-not stops.it.status stops.fault stops.site stops.runs) stops.stops

    pub stores : StoresShown s k
    stores p f is front i from here h came at value writes = subst (StoresKept s w.conditions.contents) writes.stores (fine p is f front i h from here came writes.it writes.variables writes.honest writes.turns writes.rest).kept

    owners-same : (i j : ℕ) (sp sp' : Space) → owner_of s i sp ≡ owner_of s j sp' → sp ≡ sp'
    owners-same i j Global Global e = refl
    owners-same i j Global Local e = absurd (omega (arith, e))
    owners-same i j Local Global e = absurd (omega (arith, e))
    owners-same i j Local Local e = refl

    space-is : (sp : Space) (i : ℕ) → space_of (owner_of s i sp) ≡ sp
    space-is Global i = refl
    space-is Local i = let e : 1 + group_of s i ≡ suc (group_of s i) = omega arith in ap space_of e

    global-apart : (i j : ℕ) (sp sp' : Space) → group_of s i ≢ group_of s j → owner_of s i sp ≡ owner_of s j sp' → sp ≡ Global
    global-apart i j Global sp' n e = refl
    global-apart i j Local Global n e = absurd (omega (arith, e))
    global-apart i j Local Local n e = absurd (n (omega (arith, e)))

    same-array : (a b : Array) → a.space ≡ b.space → a.number ≡ b.number → a ≡ b
    same-array a b p q = λ i. record { space = p i; number = q i }

    -- two items at a race
    module _ (sp : Space) (p q : Place) (f g : Front) (fronts : Fronts s p q f g) (i j : ℕ) (hi : i < item_count s) (hj : j < item_count s) (from other : Held) (race : Race s k sp p q f g i j from other) where
      one : Finds p fronts.first f fronts.front i hi from race.one.here race.one.came race.a
      one = finds p fronts.first f fronts.front i hi from race.one.here race.one.came race.a race.one.makes

      two : Finds q fronts.second g fronts.other j hj other race.two.here race.two.came race.b
      two = finds q fronts.second g fronts.other j hj other race.two.here race.two.came race.b race.two.makes

      owners : owner_of s i one.array.space ≡ owner_of s j two.array.space
      owners = sym (ap (λ (z : Cell). z.owner) one.at) ∙ ap (λ (z : Cell). z.owner) race.element ∙ ap (λ (z : Cell). z.owner) two.at

      arrays : two.array ≡ one.array
      arrays = same-array two.array one.array (sym (owners-same i j one.array.space two.array.space owners)) (sym (ap (λ (z : Cell). z.array) two.at) ∙ sym (ap (λ (z : Cell). z.array) race.element) ∙ ap (λ (z : Cell). z.array) one.at)

      space : one.array.space ≡ sp
      space = sym (ap (λ (z : Cell). space_of z.owner) one.at ∙ space-is one.array.space i) ∙ race.space

      other-made : Made (view w n j hj other race.two.came.root) (accesses_of (all_trees w.domain w.kernel w.conditions n)) (number_at q.anchor) (is_some (number_at q.head)) race.b.is_store one.array race.a.at.index
      other-made =
          subst (λ a. Made (view w n j hj other race.two.came.root) (accesses_of (all_trees w.domain w.kernel w.conditions n)) (number_at q.anchor) (is_some (number_at q.head)) race.b.is_store a race.a.at.index) arrays
          (subst (λ x. Made (view w n j hj other race.two.came.root) (accesses_of (all_trees w.domain w.kernel w.conditions n)) (number_at q.anchor) (is_some (number_at q.head)) race.b.is_store two.array x) (sym (ap (λ (z : Cell). z.index) race.element)) two.made)

      pub not-together : i ≢ j → group_of s i ≡ group_of s j → (is_fenced s sp ≡ true → (p.anchor ≡ q.anchor) × Same (alike_at k p.anchor) from.variables other.variables) → ⊥
      not-together ne group alike =
          not-within (over w n) n i j hi hj (root_at from race.one.came.root) (root_at other race.two.came.root) (accesses_of (all_trees w.domain w.kernel w.conditions n)) apart one.array race.a.at.index one.there
          race.a.is_store race.b.is_store (number_at p.anchor) (number_at q.anchor) (is_some (number_at p.head)) (is_some (number_at q.head)) one.made other-made race.stored ne group (λ e.
          let t = alike (subst (λ y. is_fenced s y ≡ true) space e) in
          let first = at_anchor-is (number_at p.head) from race.one.came.root (stationed.own w n tell laws shown p fronts.first i hi f.path from race.one.here race.one.came) in
          let second = at_anchor-is (number_at q.head) other race.two.came.root (stationed.own w n tell laws shown q fronts.second j hj g.path other race.two.here race.two.came) in
          let same : Same (same_at n (number_at p.anchor)) from.variables other.variables = subst (λ xs. Same xs from.variables other.variables) (alike-is s w.conditions.contents n p.anchor) t.1 in
          (ap number_at t.0, subst (λ ws. Same (same_at n (number_at p.anchor)) ws (at_anchor (is_some (number_at q.head)) (root_at other race.two.came.root))) (sym first) (subst (λ ws. Same (same_at n (number_at p.anchor)) from.variables ws) (sym second) same)))

      pub not-apart : group_of s i ≢ group_of s j → ⊥
      not-apart ne =
          not-across (over w n) n i j hi hj (root_at from race.one.came.root) (root_at other race.two.came.root) (accesses_of (all_trees w.domain w.kernel w.conditions n)) apart one.array race.a.at.index one.there
          race.a.is_store race.b.is_store (number_at p.anchor) (number_at q.anchor) (is_some (number_at p.head)) (is_some (number_at q.head)) one.made other-made race.stored (global-apart i j one.array.space two.array.space ne owners) ne

    fenced-not : (b : Bool) → b ≡ false → b ≡ true → ⊥
    fenced-not b e f = cc

    pub accesses : AccessesShown s k
    accesses = record {
      alike = λ sp p q f g fenced fronts same. inl (λ i j from other two alike race. not-together sp p q f g fronts i j two.first two.second from other race two.distinct two.group (λ e. (same, alike)));
      any = λ sp p q f g unfenced fronts. inl (λ i j from other two race. not-together sp p q f g fronts i j two.first two.second from other race two.distinct two.group (λ e. absurd (fenced-not (is_fenced s sp) unfenced e)));
      across = λ sp p q f g fronts. inl (λ i j from other hi hj ne race. not-apart sp p q f g fronts i j hi hj from other race ne);
    }
