-- The latest narrowed elements behind the first so many, by their symbols.
use Rattle.std.specs.Prelude.{◌≡◌, ◌≤◌, ℕ, List, [], ◌∷◌, ◌++◌, drop, length, cond, nat_eq, Option, None, Some}
use Rattle.std.specs.BTreeMap.{get}
use Rattle.std.specs.Ordering.{nat_cmp}
use Rattle.path_steps.specs.declared.marks.Marks.{Marks}
use Rattle.path_steps.specs.declared.path.Narrowed.{Narrowed}

-- the latest of a symbol, or what stands here so far
abbrev pub latest_of : {E : Type 0} → Option E → List (Narrowed E) → (symbol : ℕ) → Option E
latest_of found [] s = found
latest_of found (n ∷ ns) s = latest_of (cond (nat_eq n.symbol.number s) (Some n.element) found) ns s

-- each symbol that has an element behind the first so many has its latest one
abbrev pub AreMarked : {E : Type 0} → Marks E → List (Narrowed E) → Type 0
AreMarked m ns = (m.from ≤ length ns) × ((s : ℕ) → get nat_cmp m.latest s ≡ latest_of None (drop m.from ns) s)

-- of elements of which the last one comes next to those that were marked, all are marked
abbrev pub IsMarkedNext : {E : Type 0} → (before : Marks E) → Narrowed E → (behind : Marks E) → List (Narrowed E) → Type 0
IsMarkedNext {E} m x n ms = (ns : List (Narrowed E)) → AreMarked m ns → ms ≡ ns ++ x ∷ [] → AreMarked n ms
