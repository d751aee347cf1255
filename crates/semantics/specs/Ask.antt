-- What a work-item asks for next: the one step that the machine, the solo run and the rounds share (which steps there are is ours).
use Rattle.std.specs.Prelude.{ℕ, ◌+◌, ℤ, List, [], ◌∷◌, Bool, true, false, slice_set}
use Rattle.semantics.specs.Word.{Kind, Word, OutOfBounds, is_zero, as_kind}
use Rattle.semantics.specs.Core.{Site, Array, Statement, Set, Store, If, Loop, Barrier, Return, Break, Continue}
use Rattle.semantics.specs.Setup.{Setup}
use Rattle.semantics.specs.Memory.{Cell, cell, extent, kind_at}
use Rattle.semantics.specs.Evaluation.{Outcome, Gives, Needs, Faults, evaluate, Index, At, Outside, within}
use Rattle.semantics.specs.Item.{Entry, Status, Running, Waiting, Ended, Stopped, Item, enter, status_of, finished, stands, leave, resume, local_flag, global_flag, trail}

-- a load of an element, a store of a number to it, a step with neither, the passing of a barrier, or nothing
pub data Ask : Type 0 where
  Loads : (at : Cell) (kind : Kind) (site : Site) → Ask
  Stores : (at : Cell) (site : Site) (value : ℤ) (next : Item) → Ask
  Goes : (next : Item) → Ask
  Waits : (next : Item) → Ask
  Rests : Ask

abbrev pub loads : Setup → Cell → Site → Ask
loads s c site = Loads c (kind_at s c) site

-- a load and a fault are alike in all statements
abbrev pub on_value : Setup → ℕ → Item → Outcome → (Word → List Word → Ask) → Ask
on_value s i it (Gives v rest) go = go v rest
on_value s i it (Needs a k site) go = loads s (cell s i a k) site
on_value s i it (Faults f site) go = Goes (stands it (Stopped f site))

abbrev pub writes : Setup → Cell → Site → ℤ → Item → Ask
writes s c site value next = Stores c site (as_kind (kind_at s c) value) next

-- a store's index is tested when its value is known (ours). The value has the array's kind already, since elaboration writes
-- conversions out; `as_kind` leaves such a number as it is
abbrev pub stores : Setup → ℕ → Item → Array → Site → Index → ℤ → List Entry → Ask
stores s i it a site (At k) value rest = writes s (cell s i a k) site value (finished it rest it.variables)
stores s i it a site Outside value rest = Goes (stands it (Stopped OutOfBounds site))

abbrev pub choose : Bool → List Entry → List Entry → List Entry
choose true if_true if_false = if_true
choose false if_true if_false = if_false

-- by the statement in front, its turns and what is left behind it (C99 6.8.4, 6.8.5 and 6.8.6)
abbrev pub act : Setup → ℕ → Item → Statement → ℕ → List Entry → Ask
act s i it (Set n x e) turns rest =
    on_value s i it (evaluate s i (trail it.left) e it.variables it.answers) (λ v _. Goes (finished it rest (slice_set it.variables x v)))
act s i it (Store n a site k e) turns rest =
    on_value s i it (evaluate s i (trail it.left) k it.variables it.answers) (λ index later.
    on_value s i it (evaluate s i (trail it.left) e it.variables later) (λ v _.
    stores s i it a site (within (extent s a) index.value) v.value rest))
act s i it (If n e taken skipped) turns rest =
    on_value s i it (evaluate s i (trail it.left) e it.variables it.answers) (λ v _.
    Goes (finished it (choose (is_zero v.value) (enter skipped rest) (enter taken rest)) it.variables))
act s i it (Loop n e body update) turns rest =
    on_value s i it (evaluate s i (trail it.left) e it.variables it.answers) (λ v _.
    Goes (finished it (choose (is_zero v.value) rest
    (enter body (enter update (record { statement = Loop n e body update; turns = turns + 1 } ∷ rest)))) it.variables))
act s i it (Barrier n l g) turns rest = Goes (stands it Waiting)
act s i it (Return n) turns rest = Goes (finished it [] it.variables)
act s i it (Break n loop) turns rest = Goes (finished it (leave loop rest) it.variables)
act s i it (Continue n loop) turns rest = Goes (finished it (resume loop rest) it.variables)

abbrev pub front : Setup → ℕ → Item → List Entry → Ask
front s i it [] = Goes (finished it [] it.variables)
front s i it (e ∷ rest) = act s i it e.statement e.turns rest

-- past the barrier in front: its flags raise the epochs (OpenCL 1.2, 6.12.8)
abbrev pub passes : Item → List Entry → Ask
passes it [] = Waits (record { left = []; variables = it.variables; answers = []; local_epoch = it.local_epoch; global_epoch = it.global_epoch; steps = it.steps; status = Ended })
passes it (e ∷ rest) = Waits (record { left = rest; variables = it.variables; answers = []; local_epoch = it.local_epoch + local_flag e.statement; global_epoch = it.global_epoch + global_flag e.statement; steps = it.steps; status = status_of rest })

abbrev pub by_status : Setup → ℕ → Item → Status → Ask
by_status s i it Running = front s i it it.left
by_status s i it Waiting = passes it it.left
by_status s i it Ended = Rests
by_status s i it (Stopped f site) = Rests

unfoldable pub ask : Setup → ℕ → Item → Ask
ask s i it = by_status s i it it.status
