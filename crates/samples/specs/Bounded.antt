-- Kernels of one work-item, with a line that bounds what their first buffer holds.
use Rattle.std.specs.Prelude.{pos, List, [], ◌∷◌, true}
use Rattle.semantics.specs.Core.{Load, Store}
use Rattle.semantics.specs.Setup.{Setup}
use Rattle.semantics.specs.Conditions.{Content, Constant}
use Rattle.samples.specs.Terms.{at, uint, buffer, setup}

-- values index <= 3
abbrev pub at_most_three : List Content
at_most_three = record { buffer = 0; is_upper = true; sum = Constant (pos 3) ∷ [] } ∷ []

-- out[0] = table[index[0]]; where table has four elements
abbrev pub gathers : Setup
gathers = setup 1 1 ((pos 2 ∷ []) ∷ (pos 5 ∷ pos 6 ∷ pos 7 ∷ pos 8 ∷ []) ∷ (pos 0 ∷ []) ∷ []) [] [] (
    Store 1 (buffer 2) (at 1) (uint 0) (Load (buffer 1) (at 2) (Load (buffer 0) (at 3) (uint 0))) ∷ [])

-- index[0] = 4u;
abbrev pub spoils : Setup
spoils = setup 1 1 ((pos 2 ∷ []) ∷ []) [] [] (Store 1 (buffer 0) (at 1) (uint 0) (uint 4) ∷ [])

-- out[0] = 4u; where out is the second buffer
abbrev pub spares : Setup
spares = setup 1 1 ((pos 2 ∷ []) ∷ (pos 0 ∷ []) ∷ []) [] [] (Store 1 (buffer 1) (at 1) (uint 0) (uint 4) ∷ [])
