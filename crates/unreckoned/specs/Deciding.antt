-- Whether what comes of an operation that is not reckoned decides anything: where a work-item goes on, which element it loads or stores,
-- how far it shifts, or whether it stops at a fault. Where it decides nothing, a run does the same on every device, but for values.
use Rattle.std.specs.Prelude.{ℕ, Bool, true, false, not, ◌||◌, ◌&&◌}
use Rattle.semantics.specs.Word.{Kind, Int, Uint, Size, Operator, Add, Subtract, Multiply, Divide, Remainder, BitAnd, BitOr, BitXor}
use Rattle.semantics.specs.Core.{Array, Term, Literal, Variable, Id, Load, Unary, Binary, Convert, Compare, Not, And, Or, Select, Minimum, Maximum, Shift, Within, Opaque, Statement, Set, Store, If, Loop, Barrier, Return, Break, Continue, Statements, none, one}
use Rattle.semantics.specs.Launch.{Kernel}
use Rattle.unreckoned.specs.Marking.{Marks, has_slot, has, comes, marks_of}

-- a result of this kind may be out of its range, which is a fault
abbrev pub has_range : Kind → Bool
has_range Int = true
has_range Uint = false
has_range Size = true

abbrev pub divides : Operator → Bool
divides Add = false
divides Subtract = false
divides Multiply = false
divides Divide = true
divides Remainder = true
divides BitAnd = false
divides BitOr = false
divides BitXor = false

abbrev pub decides_range : Marks → Kind → Term → Bool
decides_range m k e = has_range k && comes m e

abbrev pub decides_result : Marks → Operator → Kind → (left right : Term) → Bool
decides_result m op k a b = (decides_range m k a || decides_range m k b) || (divides op && comes m b)

abbrev pub decides : Marks → Term → Bool
decides m (Literal k z) = false
decides m (Variable x) = false
decides m (Id k f d) = false
decides m (Load a site index) = comes m index || decides m index
decides m (Unary op k site e) = decides_range m k e || decides m e
decides m (Binary op k site a b) = decides_result m op k a b || (decides m a || decides m b)
decides m (Convert k site e) = decides_range m k e || decides m e
decides m (Compare r k a b) = decides m a || decides m b
decides m (Not e) = decides m e
decides m (And a b) = comes m a || (decides m a || decides m b)
decides m (Or a b) = comes m a || (decides m a || decides m b)
decides m (Select t a b) = comes m t || (decides m t || (decides m a || decides m b))
decides m (Minimum a b) = decides m a || decides m b
decides m (Maximum a b) = decides m a || decides m b
decides m (Shift d k a b) = comes m b || (decides m a || decides m b)
decides m (Within site n e) = comes m e || decides m e
decides m (Opaque n at k a b c) = decides m a || (decides m b || decides m c)

abbrev pub decides_test : Marks → Term → Bool
decides_test m e = comes m e || decides m e

-- what is set has to be marked, else nothing is known of it
abbrev pub decides_set : Marks → (slot : ℕ) → Term → Bool
decides_set m x e = decides m e || (comes m e && not (has_slot m x))

abbrev pub decides_store : Marks → Array → (index value : Term) → Bool
decides_store m a k e = decides_test m k || (decides m e || (comes m e && not (has m a)))

abbrev mutual
  pub decides_in : Marks → Statement → Bool
  decides_in m (Set n x e) = decides_set m x e
  decides_in m (Store n a site k e) = decides_store m a k e
  decides_in m (If n e taken skipped) = decides_test m e || (decides_in_any m taken || decides_in_any m skipped)
  decides_in m (Loop n e body update) = decides_test m e || (decides_in_any m body || decides_in_any m update)
  decides_in m (Barrier n l g) = false
  decides_in m (Return n) = false
  decides_in m (Break n k) = false
  decides_in m (Continue n k) = false

  pub decides_in_any : Marks → Statements → Bool
  decides_in_any m none = false
  decides_in_any m (one s ss) = decides_in m s || decides_in_any m ss

abbrev pub decides_nothing : Kernel → Bool
decides_nothing k = not (decides_in_any (marks_of k) k.body)
