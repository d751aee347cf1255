-- So no loop turns more often: its rank tells how many turns are left.
use Rattle.std.proofs.Common.{◌≡◌, ℕ, zero, suc, ◌+◌, ◌<◌, ◌≤◌, ℤ, Bool, true, false, List, [], ◌∷◌, arith, refl, sym, inl, inr, subst}
use Rattle.semantics.specs.Core.{Statements, none, one, number}
use Rattle.semantics.specs.Setup.{Setup, item_count}
use Rattle.semantics.specs.Item.{Entry, Status, Running, Waiting, Ended, Stopped, enter, status_of}
use Rattle.semantics.specs.Word.{Word}
use Rattle.semantics.specs.Solo.{after, passed}
use Rattle.semantics.specs.Contents.{IsHonest}
use Rattle.arrivals.specs.Paths.{Held}
use Rattle.arrivals.specs.Shown.{Notes, Shown, IsSound}
use Rattle.arrivals.proofs.Controlled.{has_turned, Separate}
use Rattle.arrivals.proofs.Ranked.{AtTest, Entering, Ran, AreRan}
use Rattle.arrivals.proofs.Placing.{Stands, Placed}
use Rattle.arrivals.proofs.Runs.{is_placed, is_placed_then}
use Rattle.rankings.specs.Limits.{Limit, Holds, Falls, turns_within}
use Rattle.rankings.specs.Ranked.{Owes, RanksShown}
use Rattle.rankings.specs.Within.{was_stopped, AreWithin}
use Rattle.rankings.proofs.Falling.{left, IsRank, left_some, left_grows, left_falls, stays}

pub within-behind : (turns : ℕ → ℕ) (ss : Statements) (r : List Entry) → AreWithin turns (enter ss r) → AreWithin turns r
within-behind turns none r h = h
within-behind turns (one s ss) r h = within-behind turns ss r h.1

-- an item that goes on was not stopped
pub goes_on : (r : List Entry) → was_stopped (status_of r) ≡ false
goes_on [] = refl
goes_on (e ∷ r) = refl

module _ (s : Setup) (k : Notes) (limit : ℕ → Limit) (shown : RanksShown s k limit) (i : ℕ) (is_item : i < item_count s) where
  owed : (n : ℕ) (again : Bool) (here : Held) → AtTest s k i n again here → Owes k limit n i again here
  owed n again here (inl h) = shown.at_loops h.place h.front n again h.is_place h.is_front h.test i h.start here is_item h.came
  owed n again here (inr h) = shown.at_heads h.place h.leaf n again h.is_place h.is_leaf h.stops i h.start here is_item h.came

  holds_inside : (n : ℕ) (here : Held) → Entering s k i n here → Holds (limit n) (k.rank n i here)
  holds_inside n here h = shown.entering h.place n h.path h.is_place h.is_entering i h.start here is_item h.came

  -- a turn, and so many before it
  record Counted (n t : ℕ) (z : ℤ) : Type 0 where
    rank : IsRank (limit n) z
    turns : t + left (limit n) z ≤ turns_within (limit n)

  opened : (n : ℕ) (here : Held) → AtTest s k i n false here → Entering s k i n here → Counted n 0 (k.rank n i here)
  opened n here a x =
      let r : IsRank (limit n) (k.rank n i here) = record { opens = owed n false here a; holds = holds_inside n here x } in
      record { rank = r; turns = omega (arith, left_grows (limit n) (k.rank n i here) (shown.are_limits n) r) }

  turned : (n t : ℕ) (here : Held) → AtTest s k i n true here → Entering s k i n here → Counted n t (here.ranks n) → Counted n (suc t) (k.rank n i here)
  turned n t here a x h =
      let p = holds_inside n here x in
      let f : Falls (limit n) (here.ranks n) (k.rank n i here) = owed n true here a in
      let r : IsRank (limit n) (k.rank n i here) = stays (limit n) (here.ranks n) (k.rank n i here) (shown.are_limits n) h.rank p f in
      record { rank = r; turns = omega (arith, h.turns, left_falls (limit n) (here.ranks n) (k.rank n i here) (shown.are_limits n) h.rank p f) }

  has_turned-again : (t : ℕ) → has_turned (suc t) ≡ true
  has_turned-again t = grind arith

  counted : (n t : ℕ) (z : ℤ) → Ran s k i n (suc t) z → Counted n t z
  counted n zero z (here, (e, (a, (x, older)))) = subst (Counted n 0) (sym e) (opened n here a x)
  counted n (suc t) z (here, (e, (a, (x, older)))) = subst (Counted n (suc t)) (sym e) (turned n t here (subst (λ b. AtTest s k i n b here) (has_turned-again t) a) x (counted n t (here.ranks n) older))

  within_limit : (n t : ℕ) (z : ℤ) → Ran s k i n t z → t ≤ turns_within (limit n)
  within_limit n zero z h = omega arith
  within_limit n (suc t) z h = let c = counted n t z h in omega (arith, c.turns, left_some (limit n) z (shown.are_limits n) c.rank)

  module _ (turns : ℕ → ℕ) (enough : (n : ℕ) → turns_within (limit n) ≤ turns n) where
    all_within : (ranks : ℕ → ℤ) (r : List Entry) → AreRan s k i ranks r → AreWithin turns r
    all_within ranks [] h = tt
    all_within ranks (e ∷ r) h = (omega (arith, within_limit (number e.statement) e.turns (ranks (number e.statement)) h.0, enough (number e.statement)), all_within ranks r h.1)

    -- what is known of what is left, at each moment of a solo run
    pub record Orderly (r : List Entry) : Type 0 where
      pub within : AreWithin turns r
      pub separate : Separate r

    orderly : (n : ℕ) (r : List Entry) (vars : List Word) → Stands s k i n r vars → Orderly r
    orderly n r vars h = record { within = all_within h.ranks r h.ran; separate = h.control.separate }

    of_status : (n : ℕ) (r : List Entry) (vars : List Word) (st : Status) → was_stopped st ≡ false → Placed s k i n r vars st → Orderly r
    of_status n r vars Running e h = orderly n r vars h
    of_status n r vars Waiting e h = orderly n r vars h.1
    of_status n r vars Ended e h = orderly n r vars h.1
    of_status n r vars (Stopped f site) e h = absurd cc

    pub always_orderly : IsSound s → Shown s k → (ws : List ℤ) → IsHonest s k.contents i ws → was_stopped (after s i ws).status ≡ false → Orderly (after s i ws).left
    always_orderly sound known ws fair e = of_status (passed s i ws) (after s i ws).left (after s i ws).variables (after s i ws).status e (is_placed s k known i is_item sound ws fair)

    -- whatever answers the newest load
    pub orderly_then : IsSound s → Shown s k → (ws : List ℤ) → IsHonest s k.contents i ws → (z : ℤ) → was_stopped (after s i (z ∷ ws)).status ≡ false → Orderly (after s i (z ∷ ws)).left
    orderly_then sound known ws fair z e = of_status (passed s i (z ∷ ws)) (after s i (z ∷ ws)).left (after s i (z ∷ ws)).variables (after s i (z ∷ ws)).status e (is_placed_then s k known i is_item sound ws fair z)

pub within_bounds : (s : Setup) (k : Notes) (limit : ℕ → Limit) → IsSound s → Shown s k → RanksShown s k limit → (i : ℕ) (ws : List ℤ) → i < item_count s → IsHonest s k.contents i ws → was_stopped (after s i ws).status ≡ false → AreWithin (λ n. turns_within (limit n)) (after s i ws).left
within_bounds s k limit sound known shown i ws is_item fair e = (always_orderly s k limit shown i is_item (λ n. turns_within (limit n)) (λ n. omega arith) sound known ws fair e).within
