-- The places of operations that are not reckoned: each has one of its own, counted from 1 in the order of the core, an operation before its
-- operands. `n` is the place of the next one.
use Rattle.std.specs.Prelude.{ℕ, ◌+◌}
use Rattle.semantics.specs.Core.{Term, Literal, Variable, Id, Load, Unary, Binary, Convert, Compare, Not, And, Or, Select, Minimum, Maximum, Shift, Within, Opaque, Statement, Set, Store, If, Loop, Barrier, Return, Break, Continue, Statements, none, one}
use Rattle.opencl_core.specs.Rooms.{single, join}

-- one term, or two, with the place of the next operation
pub record Placed : Type 0 where
  pub term : Term
  pub next : ℕ

pub record Two : Type 0 where
  pub left : Term
  pub right : Term
  pub next : ℕ

abbrev pub with_place : Term → (next : ℕ) → Placed
with_place t n = record { term = t; next = n }

abbrev pub of_one : (Term → Term) → Placed → Placed
of_one make a = with_place (make a.term) a.next

abbrev pub two_of : Placed → (ℕ → Placed) → Two
two_of a second = record { left = a.term; right = (second a.next).term; next = (second a.next).next }

abbrev pub of_two : (Term → Term → Term) → Two → Placed
of_two make b = with_place (make b.left b.right) b.next

abbrev pub of_three : (Term → Term → Term → Term) → Placed → (ℕ → Two) → Placed
of_three make a others = of_two (make a.term) (others a.next)

-- with the place of the next one behind it
abbrev pub placed : Term → (n : ℕ) → Placed
placed (Literal k z) n = with_place (Literal k z) n
placed (Variable slot) n = with_place (Variable slot) n
placed (Id k f d) n = with_place (Id k f d) n
placed (Load a s i) n = of_one (Load a s) (placed i n)
placed (Unary op k s t) n = of_one (Unary op k s) (placed t n)
placed (Binary op k s l r) n = of_two (Binary op k s) (two_of (placed l n) (placed r))
placed (Convert k s t) n = of_one (Convert k s) (placed t n)
placed (Compare rel k l r) n = of_two (Compare rel k) (two_of (placed l n) (placed r))
placed (Not t) n = of_one Not (placed t n)
placed (And l r) n = of_two And (two_of (placed l n) (placed r))
placed (Or l r) n = of_two Or (two_of (placed l n) (placed r))
placed (Select t a b) n = of_three Select (placed t n) (λ m. two_of (placed a m) (placed b))
placed (Minimum l r) n = of_two Minimum (two_of (placed l n) (placed r))
placed (Maximum l r) n = of_two Maximum (two_of (placed l n) (placed r))
placed (Shift d k t c) n = of_two (Shift d k) (two_of (placed t n) (placed c))
placed (Within s m i) n = of_one (Within s m) (placed i n)
placed (Opaque op at k a b c) n = of_three (Opaque op n k) (placed a (n + 1)) (λ m. two_of (placed b m) (placed c))

abbrev pub both : (left right : Term) → (n : ℕ) → Two
both l r n = two_of (placed l n) (placed r)

pub record PlacedStatement : Type 0 where
  pub statement : Statement
  pub next : ℕ

pub record PlacedStatements : Type 0 where
  pub statements : Statements
  pub next : ℕ

abbrev pub with_statement : Statement → (next : ℕ) → PlacedStatement
with_statement s n = record { statement = s; next = n }

abbrev pub with_all : Statements → (next : ℕ) → PlacedStatements
with_all ss n = record { statements = ss; next = n }

abbrev pub with_parts : (Statements → Statements → Statement) → PlacedStatements → (ℕ → PlacedStatements) → PlacedStatement
with_parts make a second = with_statement (make a.statements (second a.next).statements) (second a.next).next

-- `so` are statements that have their places
abbrev mutual
  pub placed_in : Statement → (n : ℕ) → PlacedStatement
  placed_in (Set number slot value) n = with_statement (Set number slot (placed value n).term) (placed value n).next
  placed_in (Store number a s index value) n = with_statement (Store number a s (both index value n).left (both index value n).right) (both index value n).next
  placed_in (If number test taken skipped) n =
      with_parts (If number (placed test n).term) (placed_behind none taken (placed test n).next) (placed_behind none skipped)
  placed_in (Loop number test body update) n =
      with_parts (Loop number (placed test n).term) (placed_behind none body (placed test n).next) (placed_behind none update)
  placed_in (Barrier number local global) n = with_statement (Barrier number local global) n
  placed_in (Return number) n = with_statement (Return number) n
  placed_in (Break number loop) n = with_statement (Break number loop) n
  placed_in (Continue number loop) n = with_statement (Continue number loop) n

  pub placed_behind : (so : Statements) → Statements → (n : ℕ) → PlacedStatements
  placed_behind so none n = with_all so n
  placed_behind so (one s ss) n = placed_behind (join so (single (placed_in s n).statement)) ss (placed_in s n).next

abbrev pub placed_all : Statements → (n : ℕ) → PlacedStatements
placed_all ss n = placed_behind none ss n
