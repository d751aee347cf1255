-- A solo run: one work-item alone, each load answered by any number of the element's kind, each barrier passed at once
-- (the adversarial reads of GPUVerify). It is a list of answers, one for each move (only a load heeds its own), the newest first; so
-- without its newest moves it is a solo run too.
use Rattle.std.specs.Prelude.{ℕ, zero, suc, ◌+◌, ◌++◌, ℤ, pos, List, [], ◌∷◌, map, Bool, true, false, ◌⊎◌, ◌≡◌, Option, Some, None}
use Rattle.semantics.specs.Core.{Site}
use Rattle.semantics.specs.Word.{as_kind, word}
use Rattle.semantics.specs.Setup.{Setup}
use Rattle.semantics.specs.Memory.{Cell}
use Rattle.semantics.specs.Item.{Item, Status, Running, Waiting, Ended, Stopped, opening_item, answered_by, trail}
use Rattle.semantics.specs.Ask.{Ask, Loads, Stores, Goes, Waits, Rests, ask}

-- the item after its move; a load reads the number as its element's kind
abbrev pub moved : Item → Ask → ℤ → Item
moved it (Loads at kind site) answer = answered_by it (word kind (as_kind kind answer))
moved it (Stores at site value next) answer = next
moved it (Goes next) answer = next
moved it (Waits next) answer = next
moved it Rests answer = it

abbrev pub move : Setup → ℕ → Item → ℤ → Item
move s i it answer = moved it (ask s i it) answer

-- arguments in their slots; a private variable is set by its declaration before anything reads it
unfoldable pub opening : Setup → ℕ → Item
opening s i = opening_item s.kernel.body (s.launch.arguments ++ map (λ k. word k (pos 0)) s.kernel.variables)

abbrev pub after : Setup → ℕ → List ℤ → Item
after s i [] = opening s i
after s i (answer ∷ ws) = move s i (after s i ws) answer

-- an access of an element, with the item's epoch of the element's space
pub record Access : Type 0 where
  pub item : ℕ
  pub at : Cell
  pub is_store : Bool
  pub epoch : ℕ
  pub site : Site

abbrev pub epoch : Item → ℕ → ℕ
epoch it zero = it.global_epoch
epoch it (suc g) = it.local_epoch

-- the access that an item makes by its next move
abbrev pub touch : ℕ → Item → Ask → Option Access
touch i it (Loads at kind site) = Some (record { item = i; at = at; is_store = false; epoch = epoch it at.owner; site = site })
touch i it (Stores at site value next) = Some (record { item = i; at = at; is_store = true; epoch = epoch it at.owner; site = site })
touch i it (Goes next) = None
touch i it (Waits next) = None
touch i it Rests = None

-- the access is one of the solo run
abbrev pub Touched : Setup → ℕ → List ℤ → Access → Type 0
Touched s i [] a = ⊥
Touched s i (answer ∷ ws) a = (touch i (after s i ws) (ask s i (after s i ws)) ≡ Some a) ⊎ Touched s i ws a

abbrev pub is_waiting : Status → ℕ
is_waiting Running = 0
is_waiting Waiting = 1
is_waiting Ended = 0
is_waiting (Stopped f site) = 0

-- how many barriers a solo run has passed, and at how many it has arrived
abbrev pub passed : Setup → ℕ → List ℤ → ℕ
passed s i [] = 0
passed s i (answer ∷ ws) = passed s i ws + is_waiting (after s i ws).status

abbrev pub arrived : Setup → ℕ → List ℤ → ℕ
arrived s i ws = passed s i ws + is_waiting (after s i ws).status

-- the lists left with which it arrived, the oldest first
abbrev pub noted_trail : Status → List ℕ → List (List ℕ) → List (List ℕ)
noted_trail Running t ts = ts
noted_trail Waiting t ts = ts ++ t ∷ []
noted_trail Ended t ts = ts
noted_trail (Stopped f site) t ts = ts

abbrev pub arrivals : Setup → ℕ → List ℤ → List (List ℕ)
arrivals s i [] = []
arrivals s i (answer ∷ ws) = noted_trail (after s i (answer ∷ ws)).status (trail (after s i (answer ∷ ws)).left) (arrivals s i ws)
