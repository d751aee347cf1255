-- Small pieces of kernels, and questions to ask of a run.
use Rattle.std.specs.Prelude.{ℕ, ℤ, pos, List, [], ◌∷◌, Bool, true, false, Option, Some, None, bytes_eq}
use Rattle.semantics.specs.Word.{Kind, Uint, Exact}
use Rattle.semantics.specs.Core.{Site, Array, Global, Local, Term, Literal, Id, LocalId, Statement, Statements, none, one}
use Rattle.semantics.specs.Launch.{Three, LocalArray, silent}
use Rattle.semantics.specs.Setup.{Setup}
use Rattle.semantics.specs.Item.{trail}
use Rattle.semantics.specs.Solo.{Access}
use Rattle.semantics.specs.World.{World, Event, opening_world, happens, run}

abbrev pub at : ℕ → Site
at column = record { line = 1; column = column }

abbrev pub uint : ℕ → Term
uint n = Literal Uint (pos n)

abbrev pub lid : Term
lid = Id Uint LocalId 0

abbrev pub buffer : ℕ → Array
buffer n = record { space = Global; number = n }

abbrev pub array : ℕ → Array
array n = record { space = Local; number = n }

abbrev pub body : List Statement → Statements
body [] = none
body (s ∷ ss) = one s (body ss)

abbrev pub flat : ℕ → Three ℕ
flat n = record { x = n; y = 1; z = 1 }

-- groups of so many items, in one dimension, over buffers of `uint`
abbrev pub setup : (size groups : ℕ) → List (List ℤ) → List LocalArray → List Kind → List Statement → Setup
setup size groups buffers arrays variables ss = record {
  kernel = record { sizes = flat size; buffers = kinds buffers; arguments = []; arrays = arrays; variables = variables; body = body ss };
  launch = record { groups = flat groups; arguments = []; buffers = buffers; fill = 9; machine = silent };
  width = Exact;
}
  where
    kinds : List (List ℤ) → List Kind
    kinds [] = []
    kinds (b ∷ bs) = Uint ∷ kinds bs

-- the events are a run, and the test holds of its last world
abbrev pub asked : Option World → (World → Bool) → Bool
asked None test = false
asked (Some w) test = test w

abbrev pub after_run : Setup → List Event → (World → Bool) → Bool
after_run s es test = asked (run s es (opening_world s)) test

abbrev pub happened : Option World → Bool
happened None = false
happened (Some w) = true

abbrev pub is_possible : Setup → World → Event → Bool
is_possible s w e = happened (happens s w e)

-- what an item has left
abbrev pub front_is : ℕ → List ℕ → World → Bool
front_is i entries w = bytes_eq (trail (w.items i).left) entries

-- the array of the last access of a run
abbrev pub last_array : List Access → ℕ
last_array [] = 0
last_array (a ∷ []) = a.at.array
last_array (a ∷ b ∷ as') = last_array (b ∷ as')

abbrev pub array_of : Option World → ℕ
array_of None = 0
array_of (Some w) = last_array w.history

abbrev pub number_at : Setup → List Event → ℕ
number_at s es = array_of (run s es (opening_world s))
