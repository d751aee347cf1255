-- A rank that falls each turn, down to above 0, or grows up to the most, does so no more often than its limit says.
use Rattle.std.proofs.Common.{ℕ, ◌/◌, ◌<◌, ◌≤◌, arith}
use Rattle.std.specs.Prelude.{ℤ, pos, ◌≤ℤ◌}
use Rattle.std.specs.Int.{div_ceil}
use Rattle.std.proofs.lemmas.Int.{ints}
use Rattle.loop_bounds.specs.Turns.{above, digits}
use Rattle.loop_bounds.proofs.Enough.{ceil_falls, ceil_grows, ceil_some, digits_fall, digits_grow, digits_some, some_above, above_grows, above_falls, above_halves, doubled_some, doubled_grows, doubled_falls}
use Rattle.rankings.specs.Limits.{Limit, Down, Halve, Double, IsLimit, Opens, Holds, Falls, turns_within}

-- the turns that are left at a true test where the rank is this, with that one
abbrev pub left : Limit → ℤ → ℕ
left (Down step m) z = div_ceil (above z) step
left (Halve m) z = digits (above z)
left (Double least m) z = digits (above m / above z)

-- a rank at a true test, where its limit was kept up to there
pub record IsRank (l : Limit) (z : ℤ) : Type 0 where
  pub opens : Opens l z
  pub holds : Holds l z

doubled : (least z : ℤ) → pos 1 ≤ℤ least → least ≤ℤ z → pos 1 ≤ℤ z
doubled least z h k = omega (arith, ints, h, k)

pub left_some : (l : Limit) (z : ℤ) → IsLimit l → IsRank l z → 0 < left l z
left_some (Down step m) z h r = ceil_some (above z) step h (some_above z r.holds)
left_some (Halve m) z h r = digits_some (above z) (some_above z r.holds) (omega (arith, above_grows z m r.holds r.opens, h))
left_some (Double least m) z h r = doubled_some z m (doubled least z h.0 r.opens) r.holds h.1

pub left_grows : (l : Limit) (z : ℤ) → IsLimit l → IsRank l z → left l z ≤ turns_within l
left_grows (Down step m) z h r = ceil_grows (above z) (above m) step h (above_grows z m r.holds r.opens)
left_grows (Halve m) z h r = digits_grow (above z) (above m) (some_above z r.holds) (above_grows z m r.holds r.opens) h
left_grows (Double least m) z h r = doubled_grows least z m h.0 r.opens r.holds h.1

pub left_falls : (l : Limit) (y z : ℤ) → IsLimit l → IsRank l y → Holds l z → Falls l y z → left l z < left l y
left_falls (Down step m) y z h r p f = ceil_falls (above y) (above z) step h (above_falls step y z r.holds p f)
left_falls (Halve m) y z h r p f = digits_fall (above y) (above z) (some_above z p) (above_halves y z r.holds p f) (omega (arith, above_grows y m r.holds r.opens, h))
left_falls (Double least m) y z h r p f = doubled_falls y z m (doubled least y h.0 r.opens) f p h.1

-- a turn keeps it
pub stays : (l : Limit) (y z : ℤ) → IsLimit l → IsRank l y → Holds l z → Falls l y z → IsRank l z
stays (Down step m) y z h r p f = record { opens = omega (arith, ints, r.opens, f); holds = p }
stays (Halve m) y z h r p f = record { opens = omega (arith, ints, r.opens, f, p); holds = p }
stays (Double least m) y z h r p f = record { opens = omega (arith, ints, r.opens, f, h.0); holds = p }
