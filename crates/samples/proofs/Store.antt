-- The kernel of one store is pair-safe.
use Rattle.std.proofs.Common.{◌≡◌, ℕ, ◌+◌, ◌*◌, ◌/◌, ◌%◌, ◌≤◌, ◌<◌, ◌⊎◌, ℤ, pos, List, [], ◌∷◌, length, refl, ap, sym, ◌∙◌, inl, inr, arith, mod-eq_of_lt, lt-ltb}
use Rattle.semantics.specs.Core.{GlobalId}
use Rattle.semantics.specs.Setup.{Setup, item_count, group_size, group_count, identity}
use Rattle.semantics.specs.Memory.{Cell}
use Rattle.semantics.specs.Evaluation.{evaluate}
use Rattle.semantics.specs.Item.{Item, Running, Ended, Stopped}
use Rattle.semantics.specs.Ask.{Ask, Stores, Rests, ask}
use Rattle.semantics.specs.Solo.{after, opening, Access, Touched, passed, is_waiting}
use Rattle.semantics.specs.Safety.{IsPairSafe}
use Rattle.semantics.proofs.Groups.{quotient-below}
use Rattle.semantics.proofs.Events.{some-is}
use Rattle.samples.specs.Terms.{at}
use Rattle.samples.specs.OneStore.{one_store}

by_place : (i size groups n : ℕ) → n ≡ size → 0 < size → i < groups * size → (i / n) % groups * size + (i % n) % size ≡ i
by_place i size groups n e full lt =
    let below : i / size < groups = quotient-below i groups size lt in
    let rest : i % size < size = omega arith in
    rw (e, mod-eq_of_lt below, mod-eq_of_lt rest) (omega arith)

module _ (size groups : ℕ) (a : List ℤ) (full : 0 < size) (room : size * groups ≤ length a) where
  abbrev s : Setup
  s = one_store size groups a

  count : item_count s ≡ groups * size
  unfolding group_size group_count
  count = omega arith

  pub one_store-filled : 0 < group_size s
  unfolding group_size
  one_store-filled = omega arith

  gid : (i : ℕ) → i < item_count s → identity s i GlobalId 0 ≡ i
  unfolding group_size group_count
  gid i lt = by_place i size groups (size * 1 * 1) (omega arith) full (omega arith)

  done : ℕ → Item
  done i = record { left = []; variables = []; answers = []; local_epoch = 0; global_epoch = 0; steps = 1; status = Ended }

  store : ℕ → Ask
  store i = Stores (record { owner = 0; array = 0; index = i }) (at 1) (pos 1) (done i)

  first : (i : ℕ) → i < item_count s → ask s i (opening s i) ≡ store i
  unfolding ask opening evaluate done store
  first i lt =
      let below : i < length a = omega (arith, count, room) in
      rw (gid i lt, lt-ltb i (length a) below) refl

  data Place (i : ℕ) (it : Item) : Type 0 where
    AtStart : it ≡ opening s i → Place i it
    AtEnd : it ≡ done i → Place i it

  last : (i : ℕ) → ask s i (done i) ≡ Rests
  unfolding ask done
  last i = refl

  place : (i : ℕ) → i < item_count s → (ws : List ℤ) → Place i (after s i ws)
  unfolding store
  place i lt [] = AtStart refl
  place i lt (z ∷ ws) = go (place i lt ws)
    where
      go : Place i (after s i ws) → Place i (after s i (z ∷ ws))
      go (AtStart e) = AtEnd (rw (e, first i lt) refl)
      go (AtEnd e) = AtEnd (rw (e, last i) refl)

  status : (i : ℕ) (it : Item) → Place i it → (it.status ≡ Running) ⊎ (it.status ≡ Ended)
  unfolding opening done
  status i it (AtStart e) = inl (ap (λ (x : Item). x.status) e)
  status i it (AtEnd e) = inr (ap (λ (x : Item). x.status) e)

  steps : (i : ℕ) (it : Item) → Place i it → it.steps ≤ 1
  unfolding opening done
  steps i it (AtStart e) = let q = ap (λ (x : Item). x.steps) e in omega (arith, q)
  steps i it (AtEnd e) = let q = ap (λ (x : Item). x.steps) e in omega (arith, q)

  never : (i : ℕ) → i < item_count s → (ws : List ℤ) → is_waiting (after s i ws).status ≡ 0
  never i lt ws = elim (status i (after s i ws) (place i lt ws)) [ inl e ↦ ap is_waiting e | inr e ↦ ap is_waiting e ]

  none_passed : (i : ℕ) → i < item_count s → (ws : List ℤ) → passed s i ws ≡ 0
  none_passed i lt [] = refl
  none_passed i lt (z ∷ ws) = let q = never i lt ws in let r = none_passed i lt ws in omega (arith, q, r)

  touched-index : (i : ℕ) → i < item_count s → (ws : List ℤ) (x : Access) → Touched s i ws x → x.at.index ≡ i
  unfolding store
  touched-index i lt [] x h = elim h [ ]
  touched-index i lt (z ∷ ws) x (inr h) = touched-index i lt ws x h
  touched-index i lt (z ∷ ws) x (inl h) = go (place i lt ws)
    where
      go : Place i (after s i ws) → x.at.index ≡ i
      go (AtStart e) = let q = rw (e, first i lt) at h in ap (λ (y : Access). y.at.index) (sym (some-is _ x q))
      go (AtEnd e) = let q = rw (e, last i) at h in cc

  pub one_store-pair_safe : IsPairSafe s 1
  one_store-pair_safe = record {
    quiet = λ i ws f site lt h. elim (status i (after s i ws) (place i lt ws)) [ inl e ↦ let q : Stopped f site ≡ Running = sym h ∙ e in cc | inr e ↦ let q : Stopped f site ≡ Ended = sym h ∙ e in cc ];
    short = λ i ws lt. steps i (after s i ws) (place i lt ws);
    apart = λ i j ws vs x y hi hj ne tx ty c. ne (sym (touched-index i hi ws x tx) ∙ ap (λ (d : Cell). d.index) c.element ∙ touched-index j hj vs y ty);
    agree = λ i j hi hj ne g ws vs a b e. absurd (let q = never i hi ws in let w = ap is_waiting a in omega (arith, q, w));
    ends = λ i j hi hj ne g ws vs e. let a = never j hj vs in let b = none_passed j hj vs in omega (arith, a, b);
  }
