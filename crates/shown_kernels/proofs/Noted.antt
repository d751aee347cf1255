-- What is noted of rankings: its limits are those of the bounds that are listed.
use Rattle.std.proofs.Common.{◌≡◌, ℕ, Bool, true, false, nat_eq, cond, List, [], ◌∷◌, refl}
use Rattle.loop_bounds.specs.Turns.{turns_of}
use Rattle.loop_bounds.specs.declared.bound.Bound.{Bound}
use Rattle.loop_bounds.specs.declared.bound.Bound.TheVariants as bounds
use Rattle.loop_bounds.specs.declared.bound.LoopBound.{LoopBound}
use Rattle.rankings.specs.Limits.{limit_of, limits, AreFitting}
use Rattle.rankings.proofs.Listed.{limits-turns, limits-are}
use Rattle.obligations.specs.Limits.{limit, turns_at, AreLimits}
use Rattle.obligations.specs.declared.notes.Notes.{Notes}
use Rattle.obligations.specs.View.{ranking, ranking_of, seen}

one_limit : (b : Bound) → limit (ranking b).bound ≡ limit_of b
one_limit (bounds.Down f step m) = refl
one_limit (bounds.Halving f m) = refl
one_limit (bounds.Doubling f least m) = refl

pub noted_limits : (bs : List LoopBound) (n : ℕ) → limit (ranking_of bs n).bound ≡ limits bs n
noted_limits [] n = refl
noted_limits (b ∷ bs) n = by (nat_eq b.number n) (noted_limits bs n)
  where
    by : (x : Bool) → limit (ranking_of bs n).bound ≡ limits bs n → limit (cond x (ranking b.bound) (ranking_of bs n)).bound ≡ cond x (limit_of b.bound) (limits bs n)
    by true h = one_limit b.bound
    by false h = h

pub noted_turns : (n : Notes) (entries : List Bool) (m : ℕ) → turns_at (seen n entries) m ≡ turns_of n.rankings.items m
noted_turns n entries m = rw (noted_limits n.rankings.items m) (limits-turns n.rankings.items m)

pub noted_are_limits : (n : Notes) (entries : List Bool) → AreFitting n.rankings.items → AreLimits (seen n entries)
noted_are_limits n entries h m = rw (noted_limits n.rankings.items m) (limits-are n.rankings.items h m)
