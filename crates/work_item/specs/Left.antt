-- What is left of a work-item in the code, as the definitions have it.
use Rattle.std.specs.Prelude.{◌≤◌, ◌+◌, ℕ, List, [], ◌∷◌, Option, Some, None, vec_len, vec_capacity}
use Rattle.semantics.specs.Core.{Statement}
use Rattle.semantics.specs.Item.{Entry, enter}
use Rattle.core_code.specs.View.{statement, statements}
use Rattle.work_item.specs.declared.left.Frame.{Frame}
use Rattle.work_item.specs.declared.left.Left.{Left}

-- a block's statements, in front of what is around it
abbrev pub opened : Frame → List Entry → List Entry
opened f around = record { statement = statement f.statement.now; turns = f.turns } ∷ enter (statements f.others.now) around

-- blocks within one another, the outermost first
abbrev pub stacked : List Frame → List Entry → List Entry
stacked [] around = around
stacked (f ∷ fs) around = stacked fs (opened f around)

abbrev pub fronted : Option Frame → List Frame → List Entry
fronted None fs = []
fronted (Some f) fs = opened f (stacked fs [])

abbrev pub left : Left → List Entry
left l = fronted l.front l.around.items

abbrev pub behind : List Entry → List Entry
behind [] = []
behind (e ∷ rest) = rest

-- one turn more of the loop in front
abbrev pub turned : List Entry → List Entry
turned [] = []
turned (e ∷ rest) = record { statement = e.statement; turns = e.turns + 1 } ∷ rest

abbrev pub HasRoom : Left → ℕ → Type 0
HasRoom l n = vec_len l.around + n ≤ vec_capacity l.around

-- a flag of the statement in front
abbrev pub front_flag : (Statement → ℕ) → List Entry → ℕ
front_flag flag [] = 0
front_flag flag (e ∷ rest) = flag e.statement
