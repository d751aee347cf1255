-- a[get_global_id(0)] = 1u; in one dimension.
use Rattle.std.specs.Prelude.{ℕ, ℤ, List, [], ◌∷◌}
use Rattle.semantics.specs.Word.{Uint}
use Rattle.semantics.specs.Core.{GlobalId, Id, Store}
use Rattle.semantics.specs.Setup.{Setup}
use Rattle.samples.specs.Terms.{at, uint, buffer, setup}

abbrev pub one_store : (size groups : ℕ) → List ℤ → Setup
one_store size groups a = setup size groups (a ∷ []) [] [] (Store 1 (buffer 0) (at 1) (Id Uint GlobalId 0) (uint 1) ∷ [])
