-- Variables that may be read before they are set: the value of a variable that was not set is indeterminate (C99 6.7.8p10), so a core in
-- which this may be is of no use. It is said of one slot at a time. A path may take either part of an `if`, go round a loop as often as it
-- likes, and leave it at its test or at a `break`; every part of a term counts as read. Loops are left as `is_placed` says.
use Rattle.std.specs.Prelude.{ℕ, zero, suc, ◌+◌, Bool, true, false, ◌&&◌, ◌||◌, nat_eq, min, cond, not, ℤ, pos, negsuc, length}
use Rattle.std.specs.Prelude.{Option, Some, None}
use Rattle.semantics.specs.Core as core
use Rattle.semantics.specs.Core.{Term, Literal, Variable, Id, Load, Unary, Binary, Convert, Compare, Not, And, Or, Select}
use Rattle.semantics.specs.Core.{Minimum, Maximum, Shift, Opaque, Statement, Set, Store, If, Loop, Barrier, Return, Break}
use Rattle.semantics.specs.Core.{Continue, Statements, none, one}
use Rattle.semantics.specs.Launch.{Kernel}

-- the term names the variable of slot x
abbrev pub reads : (x : ℕ) → Term → Bool
reads x (Literal k z) = false
reads x (Variable y) = nat_eq y x
reads x (Id k f d) = false
reads x (Load a site index) = reads x index
reads x (Unary op k site e) = reads x e
reads x (Binary op k site left right) = reads x left || reads x right
reads x (Convert k site e) = reads x e
reads x (Compare r k left right) = reads x left || reads x right
reads x (Not e) = reads x e
reads x (And left right) = reads x left || reads x right
reads x (Or left right) = reads x left || reads x right
reads x (Select test taken skipped) = reads x test || (reads x taken || reads x skipped)
reads x (Minimum left right) = reads x left || reads x right
reads x (Maximum left right) = reads x left || reads x right
reads x (Shift o k value count) = reads x value || reads x count
reads x (core.Within site n index) = reads x index
reads x (Opaque n at k a b c) = reads x a || (reads x b || reads x c)

-- a test that is a number other than 0 is always true, as that of `for (;;)` (C99 6.8.5.3p2)
abbrev pub is_number_but_0 : ℤ → Bool
is_number_but_0 (pos n) = not (nat_eq n 0)
is_number_but_0 (negsuc n) = true

abbrev pub is_always : Term → Bool
is_always (Literal k z) = is_number_but_0 z
is_always (Variable y) = false
is_always (Id k f d) = false
is_always (Load a site index) = false
is_always (Unary op k site e) = false
is_always (Binary op k site left right) = false
is_always (Convert k site e) = false
is_always (Compare r k left right) = false
is_always (Not e) = false
is_always (And left right) = false
is_always (Or left right) = false
is_always (Select test taken skipped) = false
is_always (Minimum left right) = false
is_always (Maximum left right) = false
is_always (Shift o k value count) = false
is_always (core.Within site n index) = false
is_always (Opaque n at k a b c) = false

-- of a slot: the least number of a statement that may read it unset; whether it is set behind the statements, and at each `break` and each
-- `continue` of the loop around them. What no path comes to has it set
pub record Ways : Type 0 where
  pub unset : Option ℕ
  pub after : Bool
  pub broken : Bool
  pub continued : Bool

-- the less of two numbers, where there are two
abbrev pub earlier : Option ℕ → Option ℕ → Option ℕ
earlier None b = b
earlier (Some m) None = Some m
earlier (Some m) (Some n) = Some (min m n)

-- the statement's number, where it reads what is not set
abbrev pub unset_at : (number : ℕ) (is_read set : Bool) → Option ℕ
unset_at n is_read set = cond (is_read && not set) (Some n) None

-- a statement that is left at its end alone
abbrev pub steps : (unset : Option ℕ) (after : Bool) → Ways
steps unset after = record { unset = unset; after = after; broken = true; continued = true }

-- one after another: the second begins as the first ends
abbrev pub follows : Ways → Ways → Ways
follows a b = record {
  unset = earlier a.unset b.unset;
  after = b.after;
  broken = a.broken && b.broken;
  continued = a.continued && b.continued;
}

-- one or the other, behind a test
abbrev pub either : (test : Option ℕ) → Ways → Ways → Ways
either test a b = record { unset = earlier test (earlier a.unset b.unset); after = a.after && b.after; broken = a.broken && b.broken; continued = a.continued && b.continued }

-- a loop is left where its test is false, by a `break`, and not at all where the test is always true and there is no `break`. What is set
-- before it is set whenever its test is reckoned
abbrev pub turns : (test : Option ℕ) (always set : Bool) → (body update : Ways) → Ways
turns test always set body update = steps (earlier test (earlier body.unset update.unset)) ((always || set) && body.broken)

-- of the variable of slot x, which is set before or is not
abbrev mutual
  pub ways : (x : ℕ) (set : Bool) → Statement → Ways
  ways x set (Set n y e) = steps (unset_at n (reads x e) set) (set || nat_eq y x)
  ways x set (Store n a site k e) = steps (unset_at n (reads x k || reads x e) set) set
  ways x set (If n e taken skipped) = either (unset_at n (reads x e) set) (all_ways x set taken) (all_ways x set skipped)
  ways x set (Loop n e body update) =
      turns (unset_at n (reads x e) set) (is_always e) set (all_ways x set body)
      (all_ways x ((all_ways x set body).after && (all_ways x set body).continued) update)
  ways x set (Barrier n l g) = steps None set
  ways x set (Return n) = steps None true
  ways x set (Break n loop) = record { unset = None; after = true; broken = set; continued = true }
  ways x set (Continue n loop) = record { unset = None; after = true; broken = true; continued = set }

  pub all_ways : (x : ℕ) (set : Bool) → Statements → Ways
  all_ways x set none = steps None set
  all_ways x set (one s ss) = follows (ways x set s) (all_ways x (ways x set s).after ss)

-- the same of so many slots, from one on
abbrev pub unset_among : Statements → (first count : ℕ) → Option ℕ
unset_among ss first zero = None
unset_among ss first (suc n) = earlier (unset_among ss first n) (all_ways (first + n) false ss).unset

-- the first statement of a kernel that may read a variable which is not set: value parameters are set, private variables are not
abbrev pub first_unset : Kernel → Option ℕ
first_unset k = unset_among k.body (length k.arguments) (length k.variables)
