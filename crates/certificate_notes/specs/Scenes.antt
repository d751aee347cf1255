-- The variables that are visible at the loops and barriers of a kernel, and the loops around them. A variable is the declaration of a
-- name: its slot says which. Value parameters take the first slots, private variables those behind them.
use Rattle.std.specs.Prelude.{ℕ, suc, Bool, true, false, cond, nat_le, nat_lt, ◌&&◌, List, [], ◌∷◌, ◌++◌, length}
use Rattle.semantics.specs.Launch as launch
use Rattle.obligations.specs.Roots.{is_kept}
use Rattle.texts.specs.Surface.{Parameter, Buffer, Value}
use Rattle.kernel_names.specs.NameMap as maps
use Rattle.kernel_names.specs.NameMap.{NameMap, Sort, Turning, Waiting, Other}

pub record Named : Type 0 where
  pub name : List ℕ
  pub slot : ℕ

-- a loop's test or a barrier, by its statement's number: the variables that are visible there, and the loops around it
pub record Scene : Type 0 where
  pub number : ℕ
  pub is_loop : Bool
  pub here : List Named
  pub around : List ℕ

-- names, each with the next slot
abbrev pub with_name : (name : List ℕ) → List Named → List Named
with_name x names = names ++ record { name = x; slot = length names } ∷ []

abbrev pub take_argument : Parameter → List Named → List Named
take_argument (Buffer constant kind site name) names = names
take_argument (Value kind site name) names = with_name name names

abbrev pub take_arguments : List Parameter → List Named → List Named
take_arguments [] names = names
take_arguments (p ∷ ps) names = take_arguments ps (take_argument p names)

abbrev pub take_variables : List maps.Variable → List Named → List Named
take_variables [] names = names
take_variables (v ∷ vs) names = take_variables vs (with_name v.name names)

-- a value parameter that nothing assigns has no symbol but its argument
abbrev pub take_assigned : launch.Kernel → Named → List Named → List Named
take_assigned k n here = cond (is_kept k n.slot) here (here ++ n ∷ [])

abbrev pub all_assigned : launch.Kernel → List Named → List Named → List Named
all_assigned k [] here = here
all_assigned k (n ∷ ns) here = all_assigned k ns (take_assigned k n here)

-- a private variable of a slot, where it is visible in the statement of a number
abbrev pub take_visible : (number slot : ℕ) → maps.Variable → List Named → List Named
take_visible n slot v here = cond (nat_le v.first n && nat_le n v.last) (here ++ record { name = v.name; slot = slot } ∷ []) here

abbrev pub all_visible : (number slot : ℕ) → List maps.Variable → List Named → List Named
all_visible n slot [] here = here
all_visible n slot (v ∷ vs) here = all_visible n (suc slot) vs (take_visible n slot v here)

abbrev pub is_turning : Sort → Bool
is_turning Turning = true
is_turning Waiting = false
is_turning Other = false

-- a loop, where the statement of a number is inside
abbrev pub take_around : (number : ℕ) → maps.Standing → List ℕ → List ℕ
take_around n s around = cond (is_turning s.sort && (nat_lt s.number n && nat_le n s.last)) (around ++ s.number ∷ []) around

abbrev pub all_around : (number : ℕ) → List maps.Standing → List ℕ → List ℕ
all_around n [] around = around
all_around n (s ∷ ss) around = all_around n ss (take_around n s around)

-- how many value parameters there are, and which of them something assigns
abbrev pub scene_of : (count : ℕ) → (entry : List Named) → NameMap → (number : ℕ) (is_loop : Bool) → Scene
scene_of count entry m n l = record { number = n; is_loop = l; here = all_visible n count m.variables entry; around = all_around n m.statements [] }

abbrev pub take_scene : (count : ℕ) → (entry : List Named) → NameMap → (number : ℕ) → Sort → List Scene → List Scene
take_scene count entry m n Turning scenes = scenes ++ scene_of count entry m n true ∷ []
take_scene count entry m n Waiting scenes = scenes ++ scene_of count entry m n false ∷ []
take_scene count entry m n Other scenes = scenes

abbrev pub all_scenes : (count : ℕ) → (entry : List Named) → NameMap → List maps.Standing → List Scene → List Scene
all_scenes count entry m [] scenes = scenes
all_scenes count entry m (s ∷ ss) scenes = all_scenes count entry m ss (take_scene count entry m s.number s.sort scenes)
