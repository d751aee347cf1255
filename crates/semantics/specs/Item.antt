-- A work-item: what is left of its statements, its private variables, and how it stands.
use Rattle.std.specs.Prelude.{Bool, true, false, ℕ, ◌+◌, List, [], ◌∷◌, ◌++◌, cond, nat_eq}
use Rattle.semantics.specs.Word.{Word, Fault}
use Rattle.semantics.specs.Core.{Site, Statement, Loop, Barrier, Statements, none, one, number}

-- a statement that is left; a loop with the number of its tests that were true so far
pub record Entry : Type 0 where
  pub statement : Statement
  pub turns : ℕ

pub data Status : Type 0 where
  Running : Status
  Waiting : Status
  Ended : Status
  Stopped : (fault : Fault) (site : Site) → Status

abbrev pub has_ended : Status → Bool
has_ended Running = false
has_ended Waiting = false
has_ended Ended = true
has_ended (Stopped f site) = false

-- the answers are those to the loads of the statement in front; an epoch counts the barriers that were passed with
-- the flag of its space
pub record Item : Type 0 where
  pub left : List Entry
  pub variables : List Word
  pub answers : List Word
  pub local_epoch : ℕ
  pub global_epoch : ℕ
  pub steps : ℕ
  pub status : Status

-- statements in front of what is left
abbrev pub enter : Statements → List Entry → List Entry
enter none rest = rest
enter (one s ss) rest = record { statement = s; turns = 0 } ∷ enter ss rest

-- with nothing left an item has ended
abbrev pub status_of : List Entry → Status
status_of [] = Ended
status_of (e ∷ rest) = Running

abbrev pub opening_item : Statements → List Word → Item
opening_item body variables = record { left = enter body []; variables = variables; answers = []; local_epoch = 0; global_epoch = 0; steps = 0; status = status_of (enter body []) }

-- one step later the statement in front is done: these entries are left, and the variables are these
abbrev pub finished : Item → List Entry → List Word → Item
finished it left variables = record { left = left; variables = variables; answers = []; local_epoch = it.local_epoch; global_epoch = it.global_epoch; steps = it.steps + 1; status = status_of left }

-- one step later a load has its answer
abbrev pub answered_by : Item → Word → Item
answered_by it answer = record { left = it.left; variables = it.variables; answers = it.answers ++ answer ∷ []; local_epoch = it.local_epoch; global_epoch = it.global_epoch; steps = it.steps + 1; status = it.status }

-- one step later the item waits at its barrier, or was stopped by a fault
abbrev pub stands : Item → Status → Item
stands it status = record { left = it.left; variables = it.variables; answers = it.answers; local_epoch = it.local_epoch; global_epoch = it.global_epoch; steps = it.steps + 1; status = status }

-- `break` (C99 6.8.6.3): past the loop of that number
abbrev pub leave : ℕ → List Entry → List Entry
leave loop [] = []
leave loop (e ∷ rest) = cond (nat_eq (number e.statement) loop) rest (leave loop rest)

abbrev pub update_of : Statement → Statements
update_of (Loop n e body update) = update
update_of s = none

-- `continue` (C99 6.8.6.2): at the update of the loop of that number, then at its test
abbrev pub resume : ℕ → List Entry → List Entry
resume loop [] = []
resume loop (e ∷ rest) = cond (nat_eq (number e.statement) loop) (enter (update_of e.statement) (e ∷ rest)) (resume loop rest)

abbrev pub local_flag : Statement → ℕ
local_flag (Barrier n local global) = cond local 1 0
local_flag s = 0

abbrev pub global_flag : Statement → ℕ
global_flag (Barrier n local global) = cond global 1 0
global_flag s = 0

-- what tells two lists left apart, since statement numbers are unique in a kernel: of each entry the statement's number, the turns and the
-- fence flags
abbrev pub trail : List Entry → List ℕ
trail [] = []
trail (e ∷ rest) = number e.statement ∷ e.turns ∷ local_flag e.statement ∷ global_flag e.statement ∷ trail rest
