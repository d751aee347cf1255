-- What may hold a value that comes of an operation that is not reckoned: variables, buffers and local arrays are marked, pass by pass.
use Rattle.std.specs.Prelude.{ℕ, zero, suc, ◌+◌, List, length, replicate, Bool, true, false, cond, ◌||◌, slice_index_or, slice_set}
use Rattle.semantics.specs.Core.{Array, Space, Global, Local, Term, Literal, Variable, Id, Load, Unary, Binary, Convert, Compare, Not, And, Or, Select, Minimum, Maximum, Shift, Within, Opaque, Statement, Set, Store, If, Loop, Barrier, Return, Break, Continue, Statements, none, one}
use Rattle.semantics.specs.Launch.{Kernel}

pub record Marks : Type 0 where
  pub slots : List Bool
  pub buffers : List Bool
  pub arrays : List Bool

abbrev pub no_marks : Kernel → Marks
no_marks k = record { slots = replicate (length k.arguments + length k.variables) false; buffers = replicate (length k.buffers) false; arrays = replicate (length k.arrays) false }

abbrev pub has_slot : Marks → (slot : ℕ) → Bool
has_slot m x = slice_index_or m.slots x false

abbrev pub has_in : Marks → Space → (number : ℕ) → Bool
has_in m Global n = slice_index_or m.buffers n false
has_in m Local n = slice_index_or m.arrays n false

abbrev pub has : Marks → Array → Bool
has m a = has_in m a.space a.number

-- a term's value may come of one
abbrev pub comes : Marks → Term → Bool
comes m (Literal k z) = false
comes m (Variable x) = has_slot m x
comes m (Id k f d) = false
comes m (Load a site index) = has m a
comes m (Unary op k site e) = comes m e
comes m (Binary op k site a b) = comes m a || comes m b
comes m (Convert k site e) = comes m e
comes m (Compare r k a b) = comes m a || comes m b
comes m (Not e) = comes m e
comes m (And a b) = comes m a || comes m b
comes m (Or a b) = comes m a || comes m b
comes m (Select t a b) = comes m a || comes m b
comes m (Minimum a b) = comes m a || comes m b
comes m (Maximum a b) = comes m a || comes m b
comes m (Shift d k a b) = comes m a || comes m b
comes m (Within site n e) = comes m e
comes m (Opaque n at k a b c) = true

abbrev pub set : Marks → (slot : ℕ) → Term → Marks
set m x e = cond (comes m e) (record { slots = slice_set m.slots x true; buffers = m.buffers; arrays = m.arrays }) m

abbrev pub mark_in : Marks → Space → (number : ℕ) → Marks
mark_in m Global n = record { slots = m.slots; buffers = slice_set m.buffers n true; arrays = m.arrays }
mark_in m Local n = record { slots = m.slots; buffers = m.buffers; arrays = slice_set m.arrays n true }

abbrev pub store : Marks → Array → Term → Marks
store m a e = cond (comes m e) (mark_in m a.space a.number) m

-- one pass over statements
abbrev mutual
  pub mark : Marks → Statement → Marks
  mark m (Set n x e) = set m x e
  mark m (Store n a site k e) = store m a e
  mark m (If n e taken skipped) = mark_all (mark_all m taken) skipped
  mark m (Loop n e body update) = mark_all (mark_all m body) update
  mark m (Barrier n l g) = m
  mark m (Return n) = m
  mark m (Break n k) = m
  mark m (Continue n k) = m

  pub mark_all : Marks → Statements → Marks
  mark_all m none = m
  mark_all m (one s ss) = mark_all (mark m s) ss

abbrev pub passed : (times : ℕ) → Statements → Marks → Marks
passed zero ss m = m
passed (suc n) ss m = passed n ss (mark_all m ss)

-- by 16 passes: what is not marked then though it should be is told where it is asked what decides
abbrev pub marks_of : Kernel → Marks
marks_of k = passed 16 k.body (no_marks k)
