-- Core statements put elsewhere: a text that was written out once, apart from all kernels, stands in a kernel, behind what is written
-- there. Its statements have higher numbers there, its variables higher slots, and its buffers, which are parameters, are arrays of the
-- kernel.
use Rattle.std.specs.Prelude.{ℕ, ◌+◌, List, slice_index_or}
use Rattle.semantics.specs.Core.{Space, Global, Local, Array, Term, Literal, Variable, Id, Load, Unary, Binary, Convert, Compare, Not, And, Or, Select, Minimum, Maximum, Shift, Within, Opaque, Statement, Set, Store, If, Loop, Barrier, Return, Break, Continue, Statements, none, one}

-- what a parameter stands for: an array, from its first element on
pub record Target : Type 0 where
  pub array : Array

-- by how much numbers of statements and slots rise, and what the buffers are, in order
pub record Move : Type 0 where
  pub statements : ℕ
  pub slots : ℕ
  pub arrays : List Target

abbrev pub whole : Array → Target
whole a = record { array = a }

-- a buffer without a target stays itself, and so does a local array
abbrev pub array_in : Space → (number : ℕ) → Move → Array
array_in Global n m = (slice_index_or m.arrays n (whole (record { space = Global; number = n }))).array
array_in Local n m = record { space = Local; number = n }

abbrev pub moved_array : Move → Array → Array
moved_array m a = array_in a.space a.number m

abbrev pub moved_slot : Move → (slot : ℕ) → ℕ
moved_slot m slot = slot + m.slots

abbrev pub moved_number : Move → (number : ℕ) → ℕ
moved_number m n = n + m.statements

abbrev pub moved_term : Move → Term → Term
moved_term m (Literal k z) = Literal k z
moved_term m (Variable slot) = Variable (moved_slot m slot)
moved_term m (Id k f d) = Id k f d
moved_term m (Load a s i) = Load (moved_array m a) s (moved_term m i)
moved_term m (Unary op k s t) = Unary op k s (moved_term m t)
moved_term m (Binary op k s l r) = Binary op k s (moved_term m l) (moved_term m r)
moved_term m (Convert k s t) = Convert k s (moved_term m t)
moved_term m (Compare rel k l r) = Compare rel k (moved_term m l) (moved_term m r)
moved_term m (Not t) = Not (moved_term m t)
moved_term m (And l r) = And (moved_term m l) (moved_term m r)
moved_term m (Or l r) = Or (moved_term m l) (moved_term m r)
moved_term m (Select t a b) = Select (moved_term m t) (moved_term m a) (moved_term m b)
moved_term m (Minimum l r) = Minimum (moved_term m l) (moved_term m r)
moved_term m (Maximum l r) = Maximum (moved_term m l) (moved_term m r)
moved_term m (Shift d k t c) = Shift d k (moved_term m t) (moved_term m c)
moved_term m (Within s n i) = Within s n (moved_term m i)
moved_term m (Opaque op at k a b c) = Opaque op at k (moved_term m a) (moved_term m b) (moved_term m c)

abbrev pub single : Statement → Statements
single s = one s none

abbrev pub join : Statements → Statements → Statements
join none others = others
join (one s ss) others = one s (join ss others)

-- `so` are statements that are moved
abbrev mutual
  pub moved_statement : Move → Statement → Statement
  moved_statement m (Set n slot value) = Set (moved_number m n) (moved_slot m slot) (moved_term m value)
  moved_statement m (Store n a s index value) = Store (moved_number m n) (moved_array m a) s (moved_term m index) (moved_term m value)
  moved_statement m (If n test taken skipped) = If (moved_number m n) (moved_term m test) (moved_behind m none taken) (moved_behind m none skipped)
  moved_statement m (Loop n test body update) = Loop (moved_number m n) (moved_term m test) (moved_behind m none body) (moved_behind m none update)
  moved_statement m (Barrier n local global) = Barrier (moved_number m n) local global
  moved_statement m (Return n) = Return (moved_number m n)
  moved_statement m (Break n loop) = Break (moved_number m n) (moved_number m loop)
  moved_statement m (Continue n loop) = Continue (moved_number m n) (moved_number m loop)

  pub moved_behind : Move → (so : Statements) → Statements → Statements
  moved_behind m so none = so
  moved_behind m so (one s ss) = moved_behind m (join so (single (moved_statement m s))) ss

abbrev pub moved_statements : Move → Statements → Statements
moved_statements m ss = moved_behind m none ss
