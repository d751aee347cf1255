-- Kernels whose meaning the checker computes.
use Rattle.std.specs.Prelude.{ℕ, pos, List, [], ◌∷◌, ◌++◌, Bool, true, false, ◌||◌, replicate}
use Rattle.semantics.specs.Word.{Int, Uint, Add, Subtract, BitAnd, Less, Equal}
use Rattle.semantics.specs.Core.{Variable, Load, Binary, Convert, Compare, Id, GroupId, Statement, Set, Store, If, Loop, Barrier, Break, Continue}
use Rattle.semantics.specs.Setup.{Setup}
use Rattle.semantics.specs.Solo.{Access}
use Rattle.semantics.specs.World.{Event, Step, Release}
use Rattle.semantics.specs.Tests.{clashes}
use Rattle.samples.specs.Terms.{at, uint, lid, buffer, array, body, setup}

-- if (get_local_id(0) < 32u) barrier(CLK_LOCAL_MEM_FENCE);
abbrev pub half_waits : Setup
half_waits = setup 64 1 [] [] [] (If 1 (Compare Less Uint lid (uint 32)) (body (Barrier 2 true false ∷ [])) (body []) ∷ [])

-- uint lid = get_local_id(0); for (uint i = 0u; i < 2u; i += 1u) if (i == (lid & 1u)) barrier(CLK_LOCAL_MEM_FENCE);
abbrev pub other_turns : Setup
other_turns = setup 4 1 [] [] (Uint ∷ Uint ∷ []) (
    Set 1 0 lid ∷ Set 3 1 (uint 0) ∷
    Loop 2 (Compare Less Uint (Variable 1) (uint 2))
    (body (If 5 (Compare Equal Uint (Variable 1) (Binary BitAnd Uint (at 1) (Variable 0) (uint 1))) (body (Barrier 6 true false ∷ [])) (body []) ∷ []))
    (body (Set 4 1 (Binary Add Uint (at 2) (Variable 1) (uint 1)) ∷ [])) ∷ [])

abbrev pub steps : ℕ → ℕ → List Event
steps n i = replicate n (Step i)

abbrev pub turned : List Event
turned = steps 5 0 ++ steps 8 1 ++ steps 5 2 ++ steps 8 3

-- a[lid] = 1u; barrier(..); b[lid] = a[1u - lid]; of two items, with the flags of its barrier, or without one
abbrev pub crossing : List Statement → Setup
crossing between = setup 2 1 ((pos 0 ∷ pos 0 ∷ []) ∷ (pos 7 ∷ pos 7 ∷ []) ∷ []) [] [] (
    (Store 1 (buffer 0) (at 1) lid (uint 1) ∷ between) ++
    (Store 3 (buffer 1) (at 3) lid (Load (buffer 0) (at 4) (Binary Subtract Uint (at 5) (uint 1) lid)) ∷ []))

abbrev pub crossed : List Event
crossed = Step 0 ∷ Step 1 ∷ Step 1 ∷ Step 0 ∷ Release 0 ∷ Step 0 ∷ Step 0 ∷ []

-- __local uint t[2]; t[lid] = 1u; barrier(..); a[lid] = t[1u - lid]; of two items, with the flags of its barrier
abbrev pub crossing_local : (local global : Bool) → Setup
crossing_local l g = setup 2 1 ((pos 7 ∷ pos 7 ∷ []) ∷ []) (record { kind = Uint; length = 2 } ∷ []) [] (
    Store 1 (array 0) (at 1) lid (uint 1) ∷ Barrier 2 l g ∷
    Store 3 (buffer 0) (at 3) lid (Load (array 0) (at 4) (Binary Subtract Uint (at 5) (uint 1) lid)) ∷ [])

-- two accesses of a list clash
abbrev pub clash_with : Setup → Access → List Access → Bool
clash_with s a [] = false
clash_with s a (b ∷ bs) = clashes s a b || clash_with s a bs

abbrev pub has_clash : Setup → List Access → Bool
has_clash s [] = false
has_clash s (a ∷ as') = clash_with s a as' || has_clash s as'

-- a[0] = 1u; of two groups of one item
abbrev pub two_groups : Setup
two_groups = setup 1 2 ((pos 0 ∷ []) ∷ []) [] [] (Store 1 (buffer 0) (at 1) (uint 0) (uint 1) ∷ [])

-- __local uint t[1]; a[get_group_id(0)] = t[0]; t[0] = get_group_id(0); a[get_group_id(0)] = t[0]; of two groups of one item
abbrev pub own_array : Setup
own_array = setup 1 2 ((pos 5 ∷ pos 5 ∷ []) ∷ []) (record { kind = Uint; length = 1 } ∷ []) [] (
    Store 1 (buffer 0) (at 1) (Id Uint GroupId 0) (Load (array 0) (at 2) (uint 0)) ∷
    Store 2 (array 0) (at 3) (uint 0) (Id Uint GroupId 0) ∷
    Store 3 (buffer 0) (at 4) (Id Uint GroupId 0) (Load (array 0) (at 5) (uint 0)) ∷ [])

-- while (1u) { break; while (1u) { } } a[0] = 1u;
abbrev pub broken : Setup
broken = setup 1 1 ((pos 0 ∷ []) ∷ []) [] [] (
    Loop 1 (uint 1) (body (Break 2 1 ∷ Loop 3 (uint 1) (body []) (body []) ∷ [])) (body []) ∷
    Store 4 (buffer 0) (at 1) (uint 0) (uint 1) ∷ [])

-- for (x = 0u; x < 2u; x += 1u) { continue; while (1u) { } }
abbrev pub continued : Setup
continued = setup 1 1 [] [] (Uint ∷ []) (
    Set 2 0 (uint 0) ∷
    Loop 1 (Compare Less Uint (Variable 0) (uint 2)) (body (Continue 4 1 ∷ Loop 5 (uint 1) (body []) (body []) ∷ []))
    (body (Set 3 0 (Binary Add Uint (at 1) (Variable 0) (uint 1)) ∷ [])) ∷ [])

-- while (1u) { x = 0u; while (x < 1u) { x = x + 1u; } }
abbrev pub nested : Setup
nested = setup 1 1 [] [] (Uint ∷ []) (
    Loop 1 (uint 1) (body (Set 2 0 (uint 0) ∷
    Loop 3 (Compare Less Uint (Variable 0) (uint 1)) (body (Set 4 0 (Binary Add Uint (at 1) (Variable 0) (uint 1)) ∷ [])) (body []) ∷ [])) (body []) ∷ [])

-- while (1u) { a[0] = 1u; } of two items
abbrev pub for_ever : Setup
for_ever = setup 2 1 ((pos 0 ∷ []) ∷ []) [] [] (
    Loop 1 (uint 1) (body (Store 2 (buffer 0) (at 1) (uint 0) (uint 1) ∷ [])) (body []) ∷ [])

-- a[b[0]] = c[0]; and a[5] = (int) 2147483648u; over a of one `int`
abbrev pub indexed : Setup
indexed = setup 1 1 ((pos 0 ∷ []) ∷ (pos 0 ∷ []) ∷ (pos 0 ∷ []) ∷ []) [] [] (
    Store 1 (buffer 0) (at 1) (Load (buffer 1) (at 2) (uint 0)) (Load (buffer 2) (at 3) (uint 0)) ∷ [])

abbrev pub converted : Setup
converted = setup 1 1 ((pos 0 ∷ []) ∷ []) [] [] (
    Store 1 (buffer 0) (at 1) (uint 5) (Convert Int (at 2) (uint 2147483648)) ∷ [])
