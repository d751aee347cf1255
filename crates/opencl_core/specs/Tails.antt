-- The body of a function of the file, which is put where it is called: a `return` gives the slot of the result its value, and stands last
-- on its way (C99 6.8.6.4). What stands behind an `if` of which one part always returns goes into the other part.
use Rattle.std.specs.Prelude.{Bool, true, false, cond, not, ◌||◌, ◌&&◌, Option, Ok}
use Rattle.semantics.specs.Core.{Site}
use Rattle.opencl_tree.specs.Tree.{Expression, Statement, Declare, Typedef, Evaluate, If, While, Do, For, Switch, Case, Default, Break, Continue, Return, Block, Empty, Statements, none, one}
use Rattle.opencl_values.specs.Faults.{Checked, LeftOut, Function, refused, then}
use Rattle.opencl_core.specs.Rooms.{Room}
use Rattle.opencl_core.specs.Writing.{Outside, block, choice_of, returned, write_statement, write_all}

-- whether there is a `return` in it
abbrev mutual
  pub returns_in : Statement → Bool
  returns_in (Declare d) = false
  returns_in (Typedef d) = false
  returns_in (Evaluate n at e) = false
  returns_in (If n at t a b) = returns_among a || returns_among b
  returns_in (While n at t body) = returns_among body
  returns_in (Do n at body t) = returns_among body
  returns_in (For n at first t update body) = returns_among body
  returns_in (Switch n at t body) = returns_among body
  returns_in (Case n at e) = false
  returns_in (Default n at) = false
  returns_in (Break n at) = false
  returns_in (Continue n at) = false
  returns_in (Return n at e) = true
  returns_in (Block n at body) = returns_among body
  returns_in (Empty n at) = false

  pub returns_among : Statements → Bool
  returns_among none = false
  returns_among (one s ss) = returns_in s || returns_among ss

-- whether its last statement is a `return`, whichever way is gone
abbrev mutual
  pub ends_with : Statement → Bool
  ends_with (Return n at e) = true
  ends_with (If n at t a b) = ends_behind false a && ends_behind false b
  ends_with (Block n at body) = ends_behind false body
  ends_with s = false

  pub ends_behind : (so : Bool) → Statements → Bool
  ends_behind so none = so
  ends_behind so (one s ss) = ends_behind (ends_with s) ss

abbrev pub ends : Statements → Bool
ends ss = ends_behind false ss

abbrev pub is_none : Statements → Bool
is_none none = true
is_none (one s ss) = false

abbrev pub is_if : Statement → Bool
is_if (If n at t a b) = true
is_if s = false

-- a `return` that does not stand last on its way is left out
abbrev pub not_last : Site → Room → Checked Room
not_last at r = refused (LeftOut Function) at

-- statements as a block, and what stands behind it
abbrev pub block_then : (first : Statements) → (behind : Room → Checked Room) → Room → Checked Room
block_then a behind r = then (block (write_all Outside a) r) behind

abbrev pub last_return : Site → Option Expression → (is_last : Bool) → Room → Checked Room
last_return at e is_last r = cond is_last (returned at e r) (not_last at r)

abbrev pub last_block : Site → (is_last : Bool) → (body : Room → Checked Room) → Room → Checked Room
last_block at is_last body r = cond is_last (block body r) (not_last at r)

-- an `if` with a `return` in it: `x` and `y` write its parts as the end of a function, `z` the second one and what stands behind
unfoldable pub tail_if : Site → Expression → (taken skipped : Statements) → (is_last : Bool) → (x y z behind : Room → Checked Room) → Room → Checked Room
tail_if at t a b is_last x y z behind r =
    cond is_last (choice_of at t x y r)
    (cond (ends a) (choice_of at t x z r)
    (cond (ends b && not (returns_among a)) (choice_of at t (block_then a behind) y r) (not_last at r)))

-- a statement that stands last or not, and what stands behind it
unfoldable mutual
  pub write_tail : Statements → Room → Checked Room
  write_tail none r = Ok r
  write_tail (one s ss) r =
      cond (returns_in s) (tail_returning s (is_none ss) (write_tail ss) r) (then (write_statement Outside s r) (write_tail ss))

  pub tail_returning : Statement → (is_last : Bool) → (behind : Room → Checked Room) → Room → Checked Room
  tail_returning (Return n at e) is_last behind r = last_return at e is_last r
  tail_returning (Block n at body) is_last behind r = last_block at is_last (write_tail body) r
  tail_returning (If n at t a b) is_last behind r =
      tail_if at t a b is_last (write_tail a) (write_tail b) (else_tail at is_last b behind) behind r
  tail_returning (While n at t body) is_last behind r = not_last at r
  tail_returning (Do n at body t) is_last behind r = not_last at r
  tail_returning (For n at first t update body) is_last behind r = not_last at r
  tail_returning (Switch n at t body) is_last behind r = not_last at r
  tail_returning s is_last behind r = Ok r

  -- a part of an `if` whose other part always returns, and what stands behind the `if`
  pub else_tail : Site → (is_last : Bool) → (part : Statements) → (behind : Room → Checked Room) → Room → Checked Room
  else_tail at is_last none behind r = block_then none behind r
  else_tail at is_last (one s ss) behind r =
      cond (is_if s && is_none ss)
      (cond (returns_in s) (tail_returning s is_last behind r) (then (write_statement Outside s r) behind))
      (cond (returns_among (one s ss)) (not_last at r) (block_then (one s ss) behind r))

abbrev pub tail_of : Statement → (is_last : Bool) → (behind : Room → Checked Room) → Room → Checked Room
tail_of s is_last behind r = cond (returns_in s) (tail_returning s is_last behind r) (then (write_statement Outside s r) behind)
