-- Launches whose machine tells what it was asked.
use Rattle.std.specs.Prelude.{ℕ, ◌+◌, ◌*◌, pos, [], ◌∷◌, Bool, slice_index_or}
use Rattle.std.specs.Ordering.{int_eq}
use Rattle.semantics.specs.Word.{Uint, Add, Less}
use Rattle.semantics.specs.Core.{Variable, Binary, Compare, Opaque, Set, Store, Loop}
use Rattle.semantics.specs.Launch.{Machine}
use Rattle.semantics.specs.Setup.{Setup}
use Rattle.semantics.specs.World.{World}
use Rattle.samples.specs.Terms.{at, uint, buffer, body, setup}

-- the operation, its place, the item, and the turn of the loop around the statement, as decimal digits
abbrev pub telling : Machine
telling o = pos (1000 * o.operation + 100 * o.place + 10 * o.item + slice_index_or o.moment 5 0)

abbrev pub on_machine : Machine → Setup → Setup
on_machine m s = record s { launch = record s.launch { machine = m } }

-- uint i = 0u; while (i < 2u) { i += 1u; a[i] = the operation 0 at the place 1; } of one item
abbrev pub asked_twice : Setup
asked_twice = on_machine telling (setup 1 1 ((pos 0 ∷ pos 0 ∷ pos 0 ∷ []) ∷ []) [] (Uint ∷ []) (
    Set 1 0 (uint 0) ∷
    Loop 2 (Compare Less Uint (Variable 0) (uint 2))
    (body (Set 3 0 (Binary Add Uint (at 1) (Variable 0) (uint 1)) ∷ Store 4 (buffer 0) (at 2) (Variable 0) (Opaque 0 1 Uint (uint 0) (uint 0) (uint 0)) ∷ []))
    (body []) ∷ []))

-- the first buffer has a number at an index
abbrev pub noted : (index value : ℕ) → World → Bool
noted k n w = int_eq (w.memory (record { owner = 0; array = 0; index = k })) (pos n)
