-- What is said of a kernel's places and loops. It may be anything: what is to be shown follows from it.
use Rattle.std.specs.Prelude.{ℕ, ℤ, pos, List, Bool, Option, Some, None}
use Rattle.semantics.specs.Core.{number}
use Rattle.arrivals.specs.Points.{Point}
use Rattle.facts.specs.Symbols.{Fact, constant, minus}
use Rattle.linear.specs.Exact.{multiple}

-- a number divides a form
pub record Congruence : Type 0 where
  pub modulus : ℕ
  pub form : Fact

-- a form is a multiple of another one
pub record Multiple : Type 0 where
  pub of : Fact
  pub form : Fact

-- where a loop opens its ranking is at most a number, and above 0 where its test is true; a turn makes it less by a step at least, or at
-- most half. Or it is at least the least where the loop opens, at most a number where its test is true, and a turn at least doubles it
pub data Bound : Type 0 where
  Down : (step : ℕ) (most : ℤ) → Bound
  Halving : (most : ℤ) → Bound
  Doubling : (least most : ℤ) → Bound

pub record Ranking : Type 0 where
  pub form : Fact
  pub bound : Bound

-- of a barrier the slots that two items of a group have alike there; of a place, by the numbers of its barrier and of its loop, facts and
-- congruences, and, in the wide walk, multiples of forms; of a loop its ranking; the slots whose ranges are known at a barrier or loop; of
-- a claim, by its number, the quotient that its entry names, and whether it has an entry; and whether the walk is the wide one, and joins
-- ways
pub record Notes : Type 0 where
  pub same : (barrier : ℕ) → List ℕ
  pub facts : (anchor head : Option ℕ) → List Fact
  pub congruences : (anchor head : Option ℕ) → List Congruence
  pub multiples : (anchor head : Option ℕ) → List Multiple
  pub ranking : (loop : ℕ) → Ranking
  pub visible : (statement : Option ℕ) → List ℕ
  pub quotient : (claim : ℕ) → Fact
  pub has_entry : (claim : ℕ) → Bool
  pub is_wide : Bool
  pub joins : Bool

abbrev pub number_at : Option Point → Option ℕ
number_at None = None
number_at (Some p) = Some (number p.statement)

-- what is at least 0 where the loop opens, by the form of its ranking
abbrev pub opens : Bound → Fact → Fact
opens (Down step n) now = minus (constant n) now
opens (Halving n) now = minus (constant n) now
opens (Doubling least n) now = minus now (constant least)

-- where its test is true
abbrev pub holds : Bound → Fact → Fact
holds (Down step n) now = minus now (constant (pos 1))
holds (Halving n) now = minus now (constant (pos 1))
holds (Doubling least n) now = minus (constant n) now

-- and after a turn, of a ranking that was the first form at the test before and is the second one
abbrev pub fallen : Bound → Fact → Fact → Fact
fallen (Down step n) before now = minus (minus before now) (constant (pos step))
fallen (Halving n) before now = minus before (multiple (pos 2) now)
fallen (Doubling least n) before now = minus now (multiple (pos 2) before)

-- the form that is made on the way
abbrev pub fallen_by : Bound → Fact → Fact → Fact
fallen_by (Down step n) before now = minus before now
fallen_by (Halving n) before now = multiple (pos 2) now
fallen_by (Doubling least n) before now = multiple (pos 2) before
