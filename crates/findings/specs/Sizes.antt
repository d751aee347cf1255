-- Which overflows are of sizes: those at an operator or a conversion that gives a size.
use Rattle.std.specs.Prelude.{◌||◌, ◌&&◌, Bool, true, false, nat_eq}
use Rattle.semantics.specs.Core.{Site, Term, Literal, Variable, Id, Load, Unary, Binary, Convert, Compare, Not, And, Or, Select, Minimum, Maximum, Shift, Within, Opaque, Statement, Set, Store, If, Loop, Barrier, Return, Break, Continue, Statements, none, one}
use Rattle.semantics.specs.Word.{Kind, Int, Uint, Size, Fault, DivisionByZero, Overflow, OutOfBounds}

abbrev pub is_size : Kind → Bool
is_size Int = false
is_size Uint = false
is_size Size = true

-- the site is the one that is asked for, and what stands there gives a size
abbrev pub is_size_at : (at : Site) → Kind → Site → Bool
is_size_at at k s = is_size k && (nat_eq s.line at.line && nat_eq s.column at.column)

-- a term has an operator or a conversion at the site that gives a size
abbrev pub gives_size : (at : Site) → Term → Bool
gives_size at (Literal k n) = false
gives_size at (Variable x) = false
gives_size at (Id k f d) = false
gives_size at (Load a s i) = gives_size at i
gives_size at (Unary op k s e) = is_size_at at k s || gives_size at e
gives_size at (Binary op k s l r) = is_size_at at k s || (gives_size at l || gives_size at r)
gives_size at (Convert k s e) = is_size_at at k s || gives_size at e
gives_size at (Compare r k a b) = gives_size at a || gives_size at b
gives_size at (Not e) = gives_size at e
gives_size at (And a b) = gives_size at a || gives_size at b
gives_size at (Or a b) = gives_size at a || gives_size at b
gives_size at (Select t a b) = gives_size at t || (gives_size at a || gives_size at b)
gives_size at (Minimum a b) = gives_size at a || gives_size at b
gives_size at (Maximum a b) = gives_size at a || gives_size at b
gives_size at (Shift d k a b) = gives_size at a || gives_size at b
gives_size at (Within s n i) = gives_size at i
gives_size at (Opaque n p k a b c) = gives_size at a || (gives_size at b || gives_size at c)

abbrev mutual
  pub has_size : (at : Site) → Statement → Bool
  has_size at (Set n x e) = gives_size at e
  has_size at (Store n a s i e) = gives_size at i || gives_size at e
  has_size at (If n e t f) = gives_size at e || (have_size at t || have_size at f)
  has_size at (Loop n e b u) = gives_size at e || (have_size at b || have_size at u)
  has_size at (Barrier n l g) = false
  has_size at (Return n) = false
  has_size at (Break n k) = false
  has_size at (Continue n k) = false

  pub have_size : (at : Site) → Statements → Bool
  have_size at none = false
  have_size at (one s ss) = has_size at s || have_size at ss

-- whether a fault at a site of these statements is of a size, which lies outside 0 to 4294967295; each other overflow is of a signed result
abbrev pub is_of_size : Statements → Fault → Site → Bool
is_of_size body DivisionByZero at = false
is_of_size body OutOfBounds at = false
is_of_size body Overflow at = have_size at body
