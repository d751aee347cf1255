-- Accesses that are made at fronts of places, where what is owed of accesses is shown, do not clash.
use Rattle.std.proofs.Common.{◌≡◌, ◌≢◌, ℕ, ◌<◌, ℤ, true, false, List, refl, sym, ap, ◌∙◌, inl, inr, subst}
use Rattle.std.specs.Prelude.{◌⊎◌}
use native.Mathlib.Decide.{ℕ_discrete}
use Rattle.semantics.specs.Setup.{Setup, group_of, item_count}
use Rattle.semantics.specs.Solo.{Access, after, passed, Touched, epoch}
use Rattle.semantics.specs.Contents.{IsHonest}
use Rattle.semantics.specs.Safety.{Clash}
use Rattle.arrivals.specs.Paths.{Same}
use Rattle.arrivals.specs.Shown.{Notes, Two, Shown, IsSound, alike_at}
use Rattle.arrivals.specs.Races.{is_fenced, space_of, Race, FreeAlike, Free, FreeAcross, Fronts, AccessesShown}
use Rattle.arrivals.proofs.Tests.{either}
use Rattle.arrivals.proofs.Standing.{Visited}
use Rattle.arrivals.proofs.Meetings.{same-sym, two-sym, Level, level}
use Rattle.arrivals.proofs.Epochs.{epoch-passed, epoch-is}
use Rattle.arrivals.proofs.Seen.{Seen, seen}

module _ (s : Setup) (k : Notes) (sound : IsSound s) (shown : Shown s k) (accesses : AccessesShown s k) (i j : ℕ) (first : i < item_count s) (second : j < item_count s) (distinct : i ≢ j) (a b : Access) (v : Seen s k i a) (w : Seen s k j b) (element : a.at ≡ b.at) (stored : (a.is_store ≡ true) ⊎ (b.is_store ≡ true)) where
  race : Race s k (space_of a.at.owner) v.place w.place v.at w.at i j v.start w.start
  race = record { a = a; b = b; one = v.touch; two = w.touch; space = refl; element = element; stored = stored }

  other_way : (a.is_store ≡ true) ⊎ (b.is_store ≡ true) → (b.is_store ≡ true) ⊎ (a.is_store ≡ true)
  other_way (inl h) = inr h
  other_way (inr h) = inl h

  race_too : Race s k (space_of a.at.owner) w.place v.place w.at v.at j i w.start v.start
  race_too = record { a = b; b = a; one = w.touch; two = v.touch; space = ap (λ c. space_of c.owner) (sym element); element = sym element; stored = other_way stored }

  fronts : Fronts s v.place w.place v.at w.at
  fronts = record { first = v.is_place; second = w.is_place; front = v.is_front; other = w.is_front }

  pub across_free : group_of s i ≢ group_of s j → ⊥
  across_free g = by (accesses.across (space_of a.at.owner) v.place w.place v.at w.at fronts)
    where
      by : FreeAcross s k (space_of a.at.owner) v.place w.place v.at w.at ⊎ FreeAcross s k (space_of a.at.owner) w.place v.place w.at v.at → ⊥
      by (inl f) = f i j v.start w.start first second g race
      by (inr f) = f j i w.start v.start second first (λ e. g (sym e)) race_too

  -- equal epochs of a fenced space: the same visit
  visits : is_fenced s (space_of a.at.owner) ≡ true → a.epoch ≡ b.epoch → passed s i v.words ≡ passed s j w.words
  visits f e =
      sym (epoch-passed s k sound shown i first (space_of a.at.owner) f v.words v.honest) ∙ sym (epoch-is (after s i v.words) a.at.owner) ∙ sym v.epoch ∙ e ∙ w.epoch
      ∙ ap (λ c. epoch (after s j w.words) c.owner) (sym element) ∙ epoch-is (after s j w.words) a.at.owner ∙ epoch-passed s k sound shown j second (space_of a.at.owner) f w.words w.honest

  pub group_free : group_of s i ≡ group_of s j → a.epoch ≡ b.epoch → ⊥
  group_free g e = by (either (is_fenced s (space_of a.at.owner)))
    where
      two : Two s i j
      two = record { first = first; second = second; distinct = distinct; group = g }

      in_any : Free s k (space_of a.at.owner) v.place w.place v.at w.at ⊎ Free s k (space_of a.at.owner) w.place v.place w.at v.at → ⊥
      in_any (inl f) = f i j v.start w.start two race
      in_any (inr f) = f j i w.start v.start (two-sym s i j two) race_too

      in_one : Level s k shown sound.numbered v.anchor w.anchor v.base w.base v.start w.start → FreeAlike s k (space_of a.at.owner) v.place w.place v.at w.at ⊎ FreeAlike s k (space_of a.at.owner) w.place v.place w.at v.at → ⊥
      in_one l (inl f) = f i j v.start w.start two (subst (λ x. Same (alike_at k x) v.start.variables w.start.variables) (sym v.of) l.same) race
      in_one l (inr f) = f j i w.start v.start (two-sym s i j two) (subst (λ x. Same (alike_at k x) w.start.variables v.start.variables) (l.anchors ∙ sym w.of) (same-sym (alike_at k v.anchor) v.start.variables w.start.variables l.same)) race_too

      by : (is_fenced s (space_of a.at.owner) ≡ true) ⊎ (is_fenced s (space_of a.at.owner) ≡ false) → ⊥
      by (inr f) = in_any (accesses.any (space_of a.at.owner) v.place w.place v.at w.at f fronts)
      by (inl f) =
          let l = level s k shown sound.numbered (passed s i v.words) i j two v.anchor w.anchor v.base w.base v.start w.start v.visited (subst (λ n. Visited s k j n w.anchor w.base w.start) (sym (visits f e)) w.visited) in
          in_one l (accesses.alike (space_of a.at.owner) v.place w.place v.at w.at f fronts (v.of ∙ l.anchors ∙ sym w.of))

pub no_clash : (s : Setup) (k : Notes) → IsSound s → Shown s k → AccessesShown s k → (i j : ℕ) (ws vs : List ℤ) (a b : Access) → i < item_count s → j < item_count s → i ≢ j → IsHonest s k.contents i ws → IsHonest s k.contents j vs → Touched s i ws a → Touched s j vs b → Clash s a b → ⊥
no_clash s k sound shown accesses i j ws vs a b first second distinct fair honest h g c = by (ℕ_discrete (group_of s i) (group_of s j)) c.unordered
  where
    v : Seen s k i a
    v = seen s k sound shown i first ws a fair h

    w : Seen s k j b
    w = seen s k sound shown j second vs b honest g

    by : Dec (group_of s i ≡ group_of s j) → (group_of s a.item ≢ group_of s b.item) ⊎ (a.epoch ≡ b.epoch) → ⊥
    by (no n) u = across_free s k sound shown accesses i j first second distinct a b v w c.element c.stored n
    by (yes e) (inl n) = n (ap (group_of s) v.item ∙ e ∙ sym (ap (group_of s) w.item))
    by (yes e) (inr f) = group_free s k sound shown accesses i j first second distinct a b v w c.element c.stored e f
