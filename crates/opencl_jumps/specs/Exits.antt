-- Ways to leave statements early: a `switch` by `break`, the body of a `do` by `continue`, a function by `return` (C99 6.8.6.2 to 6.8.6.4).
-- A jump inside a loop is that loop's, but for `return`. A `switch` that is left as it stands is refused later, so nothing is said of it.
use Rattle.std.specs.Prelude.{Bool, true, false, cond, not, ◌||◌, ◌&&◌}
use Rattle.opencl_tree.specs.Tree.{Statement, Declare, Typedef, Evaluate, If, While, Do, For, Switch, Case, Default, Break, Continue, Return, Block, Empty, Statements, none, one}

pub data Exit : Type 0 where
  Breaking Continuing Returning : Exit

abbrev pub is_breaking : Exit → Bool
is_breaking Breaking = true
is_breaking Continuing = false
is_breaking Returning = false

abbrev pub is_continuing : Exit → Bool
is_continuing Breaking = false
is_continuing Continuing = true
is_continuing Returning = false

abbrev pub is_returning : Exit → Bool
is_returning Breaking = false
is_returning Continuing = false
is_returning Returning = true

-- whether there is such an exit in it
abbrev mutual
  pub exits_in : Exit → Statement → Bool
  exits_in x (Declare d) = false
  exits_in x (Typedef d) = false
  exits_in x (Evaluate n at e) = false
  exits_in x (If n at t a b) = exits_among x a || exits_among x b
  exits_in x (While n at t body) = is_returning x && exits_among x body
  exits_in x (Do n at body t) = is_returning x && exits_among x body
  exits_in x (For n at first t update body) = is_returning x && exits_among x body
  exits_in x (Switch n at t body) = false
  exits_in x (Case n at e) = false
  exits_in x (Default n at) = false
  exits_in x (Break n at) = is_breaking x
  exits_in x (Continue n at) = is_continuing x
  exits_in x (Return n at e) = is_returning x
  exits_in x (Block n at body) = exits_among x body
  exits_in x (Empty n at) = false

  pub exits_among : Exit → Statements → Bool
  exits_among x none = false
  exits_among x (one s ss) = exits_in x s || exits_among x ss

-- whether its last statement is a jump, whichever way is gone
abbrev mutual
  pub ends_with : Statement → Bool
  ends_with (Break n at) = true
  ends_with (Continue n at) = true
  ends_with (Return n at e) = true
  ends_with (If n at t a b) = ends_behind false a && ends_behind false b
  ends_with (Block n at body) = ends_behind false body
  ends_with s = false

  pub ends_behind : (so : Bool) → Statements → Bool
  ends_behind so none = so
  ends_behind so (one s ss) = ends_behind (ends_with s) ss

abbrev pub ends : Statements → Bool
ends ss = ends_behind false ss

abbrev pub is_none : Statements → Bool
is_none none = true
is_none (one s ss) = false

abbrev pub is_if : Statement → Bool
is_if (If n at t a b) = true
is_if s = false

abbrev pub is_label : Statement → Bool
is_label (Case n at e) = true
is_label (Default n at) = true
is_label s = false

-- up to the next label there are jumps alone, which nothing reaches
abbrev pub is_idle : Statement → Bool
is_idle (Break n at) = true
is_idle (Continue n at) = true
is_idle (Empty n at) = true
is_idle s = false

abbrev pub are_idle : Statements → Bool
are_idle none = true
are_idle (one s ss) = is_label s || (is_idle s && are_idle ss)

abbrev pub leaves_idle : Exit → Statement → (behind : Statements) → Bool
leaves_idle x s ss = not (exits_in x s && ends_with s) || are_idle ss

-- nothing that may have a fault of its own stands behind such an exit
abbrev mutual
  pub fits_in : Exit → Statement → Bool
  fits_in x (If n at t a b) = fits x a && fits x b
  fits_in x (Block n at body) = fits x body
  fits_in x s = true

  pub fits : Exit → Statements → Bool
  fits x none = true
  fits x (one s ss) = fits_in x s && (leaves_idle x s ss && fits x ss)

-- of an `if`: `x` and `y` say it of its parts alone, `z` of the second one with what stands behind
abbrev pub needs_if : Exit → (so : Bool) → (taken skipped : Statements) → (x y z : Bool) → Bool
needs_if by so a b x y z = cond (ends a) (x || z) (cond (ends b && not (exits_among by a)) y (so || (x || y)))

-- Whether a variable has to tell if the statements were left: what stands behind an `if` of which one part always jumps goes into the other
-- part, and needs none. `so` says whether something stands behind
abbrev mutual
  pub needs_one : Exit → (so : Bool) → Statement → Bool
  needs_one x so (Block n at body) = (so && not (ends body)) || needs x false body
  needs_one x so (If n at t a b) = needs_if x so a b (needs x false a) (needs x false b) (needs_part x so b (needs x false b))
  needs_one x so (While n at t body) = true
  needs_one x so (Do n at body t) = true
  needs_one x so (For n at first t update body) = true
  needs_one x so s = false

  -- `whole` says it of the part alone
  pub needs_part : Exit → (so : Bool) → Statements → (whole : Bool) → Bool
  needs_part x so none whole = false
  needs_part x so (one s ss) whole =
      cond (is_if s && is_none ss) (exits_in x s && needs_one x so s) ((so && (exits_among x (one s ss) && not (ends (one s ss)))) || whole)

  pub needs : Exit → (so : Bool) → Statements → Bool
  needs x so none = false
  needs x so (one s ss) = (exits_in x s && needs_one x (so || not (is_none ss)) s) || needs x so ss

abbrev pub needs_at : Exit → (so : Bool) → Statement → Bool
needs_at x so s = exits_in x s && needs_one x so s

abbrev pub needs_block : Exit → (so : Bool) → Statements → Bool
needs_block x so ss = (so && (exits_among x ss && not (ends ss))) || needs x false ss
