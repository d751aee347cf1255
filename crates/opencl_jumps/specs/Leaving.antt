-- Statements that are left early, written without these exits: what stands behind one goes into the other part of its `if`, or behind a
-- test of a variable.
use Rattle.std.specs.Prelude.{ℕ, Bool, false, cond, not, ◌&&◌, Option, Some, None}
use Rattle.semantics.specs.Core.{Site}
use Rattle.opencl_tree.specs.Tree.{Expression, Statement, If, While, Do, For, Break, Continue, Return, Block, Statements, none, one}
use Rattle.opencl_jumps.specs.Exits.{Exit, Returning, exits_in, exits_among, ends, is_none, is_if, needs}
use Rattle.opencl_jumps.specs.Made.{flag_of, result_name, variable, assigned, flag_set, unless_set, flag_declared}

abbrev pub alone : Statement → Statements
alone s = one s none

abbrev pub before : Statement → Statements → Statements
before s ss = one s ss

-- the variable is set, where there is one
abbrev pub jump : Exit → (flagged : Bool) → Site → Statements
jump x flagged at = cond flagged (one (flag_set at (flag_of x)) none) none

abbrev pub given : (flagged : Bool) → Site → Option Expression → Statements
given flagged at None = jump Returning flagged at
given flagged at (Some e) = one (assigned at result_name e) (jump Returning flagged at)

-- what stands behind, unless they were left
abbrev pub guarded : Exit → Site → (behind : Statements) → Statements
guarded x at none = none
guarded x at (one s ss) = one (unless_set at (flag_of x) (one s ss)) none

abbrev pub block : Site → Statements → Statement
block at ss = Block 0 at ss

abbrev pub block_before : Site → (first behind : Statements) → Statements
block_before at none behind = behind
block_before at (one s ss) behind = one (block at (one s ss)) behind

-- the loop around is left
abbrev pub broken : Site → Statements
broken at = one (Break 0 at) none

abbrev pub left_with : Site → Statements
left_with at = one (flag_set at (flag_of Returning)) (broken at)

-- a `return` in a loop leaves the loop, and so do the loops around it
abbrev pub returned : Site → Option Expression → Statement
returned at None = block at (left_with at)
returned at (Some e) = block at (one (assigned at result_name e) (left_with at))

abbrev pub left_if_set : Site → Statement
left_if_set at = If 0 at (variable at (flag_of Returning)) (broken at) none

abbrev pub inner : Site → Statement → Statement
inner at s = block at (one s (alone (left_if_set at)))

abbrev mutual
  -- a statement in a loop
  pub looped_one : Statement → Statement
  looped_one (If n at t a b) = If n at t (all_looped a) (all_looped b)
  looped_one (Block n at body) = Block n at (all_looped body)
  looped_one (While n at t body) = inner at (While n at t (all_looped body))
  looped_one (Do n at body t) = inner at (Do n at (all_looped body) t)
  looped_one (For n at first t update body) = inner at (For n at first t update (all_looped body))
  looped_one (Return n at e) = returned at e
  looped_one s = s

  pub all_looped : Statements → Statements
  all_looped none = none
  all_looped (one s ss) = one (cond (exits_in Returning s) (looped_one s) s) (all_looped ss)

abbrev pub looped : Statement → Statement
looped s = cond (exits_in Returning s) (looped_one s) s

abbrev pub loop_before : Exit → Site → Statement → (behind : Statements) → Statements
loop_before x at s behind = one s (guarded x at behind)

-- behind statements that always jump stands nothing that is reached
abbrev pub behind_all : Exit → Site → (all_end : Bool) → (behind : Statements) → Statements
behind_all x at all_end behind = cond all_end none (guarded x at behind)

abbrev pub choice : (number : ℕ) → Site → Expression → (taken skipped : Statements) → Statement
choice n at t a b = If n at t a b

-- an `if`: `x`, `y` are its parts without exits, `z` the second one with what stands behind
abbrev pub left_if : Exit → (number : ℕ) → Site → Expression → (taken skipped x y z behind : Statements) → Statements
left_if by n at t a b x y z behind =
    cond (ends a) (one (choice n at t x z) none)
    (cond (ends b && not (exits_among by a)) (one (choice n at t (block_before at a behind) y) none)
    (one (choice n at t x y) (guarded by at behind)))

-- statements as a block, and what stands behind; `x` is them without exits
abbrev pub left_block : Exit → Site → (part x behind : Statements) → Statements
left_block by at ss x behind = cond (exits_among by ss) (one (block at x) (behind_all by at (ends ss) behind)) (one (block at ss) behind)

abbrev mutual
  -- `behind` is written already
  pub leave : Exit → (flagged : Bool) → Statements → (behind : Statements) → Statements
  leave x f none behind = behind
  leave x f (one s ss) behind = cond (exits_in x s) (leave_one x f s (leave x f ss behind)) (one s (leave x f ss behind))

  pub leave_one : Exit → (flagged : Bool) → Statement → (behind : Statements) → Statements
  leave_one x f (Break n at) behind = jump x f at
  leave_one x f (Continue n at) behind = jump x f at
  leave_one x f (Return n at e) behind = given f at e
  leave_one x f (Block n at body) behind = one (Block n at (leave x f body none)) (behind_all x at (ends body) behind)
  leave_one x f (If n at t a b) behind = left_if x n at t a b (leave x f a none) (leave x f b none) (leave_part x f at b (leave x f b none) behind) behind
  leave_one x f (While n at t body) behind = loop_before x at (While n at t (all_looped body)) behind
  leave_one x f (Do n at body t) behind = loop_before x at (Do n at (all_looped body) t) behind
  leave_one x f (For n at first t update body) behind = loop_before x at (For n at first t update (all_looped body)) behind
  leave_one x f s behind = one s behind

  -- the second part of an `if` whose first one always jumps; `whole` is it without exits
  pub leave_part : Exit → (flagged : Bool) → Site → Statements → (whole behind : Statements) → Statements
  leave_part x f at none whole behind = behind
  leave_part x f at (one s ss) whole behind =
      cond (is_if s && is_none ss) (cond (exits_in x s) (leave_one x f s behind) (one s behind)) (left_block x at (one s ss) whole behind)

abbrev pub leave_at : Exit → (flagged : Bool) → Statement → (behind : Statements) → Statements
leave_at x f s behind = cond (exits_in x s) (leave_one x f s behind) (one s behind)

abbrev pub leave_if : Exit → (flagged : Bool) → (number : ℕ) → Site → Expression → (taken skipped behind : Statements) → Statements
leave_if x f n at t a b behind = left_if x n at t a b (leave x f a none) (leave x f b none) (leave_part x f at b (leave x f b none) behind) behind

abbrev pub leave_block : Exit → (flagged : Bool) → Site → (part behind : Statements) → Statements
leave_block x f at ss behind = left_block x at ss (leave x f ss none) behind

abbrev pub left_by : Exit → Site → (flagged : Bool) → Statements → Statements
left_by x at flagged ss = cond flagged (one (flag_declared at (flag_of x)) (leave x flagged ss none)) (leave x flagged ss none)

-- what is left by such exits, without them
abbrev pub region : Exit → Site → Statements → Statements
region x at ss = cond (exits_among x ss) (left_by x at (needs x false ss) ss) ss
