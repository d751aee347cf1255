-- Which expressions store, what they store to and read, and where C leaves the order of two of them open (C99 6.5p2 and p3). All is said by
-- names alone, and without types: memory is one, whatever array an element is of.
use Rattle.std.specs.Prelude.{ℕ, List, [], ◌∷◌, take, Bool, true, false, ◌||◌, ◌&&◌, bytes_eq, codes}
use Rattle.texts.specs.Surface.{AssignSign, Plain, With, WithLeftShift, WithRightShift}
use Rattle.opencl_tree.specs.Tree.{Minus, Plus, LogicalNot, BitNot, Indirection, AddressOf, Expression, Integer, Real, Name, Call, Index, Member, Prefix, Step, Cast, Vector, Infix, Conditional, Assign, Comma, SizeofType, SizeofOf, Expressions, nothing, also}

-- a function of the file, which is written out where it is called, and whether it may store to what its parameters point to
pub record Helper : Type 0 where
  pub name : List ℕ
  pub stores : Bool

abbrev pub is_helper : List Helper → (name : List ℕ) → Bool
is_helper [] name = false
is_helper (h ∷ hs) name = bytes_eq h.name name || is_helper hs name

abbrev pub may_store : List Helper → (name : List ℕ) → Bool
may_store [] name = false
may_store (h ∷ hs) name = (bytes_eq h.name name && h.stores) || may_store hs name

-- built-in functions that read memory, and those that store to it, by how their names begin (OpenCL 1.2, 6.12.7, 6.12.10 and 6.12.11)
abbrev pub reads_by_name : (name : List ℕ) → Bool
reads_by_name name = bytes_eq (take 5 name) (codes "vload")

abbrev pub stores_by_name : (name : List ℕ) → Bool
stores_by_name name = bytes_eq (take 6 name) (codes "vstore") || (bytes_eq (take 4 name) (codes "atom") || bytes_eq (take 6 name) (codes "async_"))

abbrev pub call_stores : List Helper → (name : List ℕ) → Bool
call_stores hs name = stores_by_name name || may_store hs name

abbrev pub call_touches : List Helper → (name : List ℕ) → Bool
call_touches hs name = stores_by_name name || (reads_by_name name || is_helper hs name)

-- whether it has to be written out as statements: it stores, or has a call of a function of the file, or a comma. The operand of `sizeof`
-- is not evaluated (6.5.3.4p2)
abbrev mutual
  pub has_effect : List Helper → Expression → Bool
  has_effect hs (Integer s k n) = false
  has_effect hs (Real s spelling) = false
  has_effect hs (Name s name) = false
  has_effect hs (Call s name es) = is_helper hs name || any_effect hs es
  has_effect hs (Index s e i) = has_effect hs e || has_effect hs i
  has_effect hs (Member s e name) = has_effect hs e
  has_effect hs (Prefix s sign e) = has_effect hs e
  has_effect hs (Step s side sign e) = true
  has_effect hs (Cast s t e) = has_effect hs e
  has_effect hs (Vector s t es) = any_effect hs es
  has_effect hs (Infix s sign l r) = has_effect hs l || has_effect hs r
  has_effect hs (Conditional s t a b) = has_effect hs t || (has_effect hs a || has_effect hs b)
  has_effect hs (Assign s sign x e) = true
  has_effect hs (Comma s a b) = true
  has_effect hs (SizeofType s t) = false
  has_effect hs (SizeofOf s e) = false

  pub any_effect : List Helper → Expressions → Bool
  any_effect hs nothing = false
  any_effect hs (also e es) = has_effect hs e || any_effect hs es

-- whether a variable of a name is read or stored to
abbrev mutual
  pub occurs : (name : List ℕ) → Expression → Bool
  occurs x (Integer s k n) = false
  occurs x (Real s spelling) = false
  occurs x (Name s name) = bytes_eq name x
  occurs x (Call s name es) = occurs_in x es
  occurs x (Index s e i) = occurs x e || occurs x i
  occurs x (Member s e name) = occurs x e
  occurs x (Prefix s sign e) = occurs x e
  occurs x (Step s side sign e) = occurs x e
  occurs x (Cast s t e) = occurs x e
  occurs x (Vector s t es) = occurs_in x es
  occurs x (Infix s sign l r) = occurs x l || occurs x r
  occurs x (Conditional s t a b) = occurs x t || (occurs x a || occurs x b)
  occurs x (Assign s sign y e) = occurs x y || occurs x e
  occurs x (Comma s a b) = occurs x a || occurs x b
  occurs x (SizeofType s t) = false
  occurs x (SizeofOf s e) = false

  pub occurs_in : (name : List ℕ) → Expressions → Bool
  occurs_in x nothing = false
  occurs_in x (also e es) = occurs x e || occurs_in x es

-- whether a variable that is stored to, or the address of which is taken, occurs in another expression, `with`. Of an expression that is
-- assigned to, `target_meets` tells of that variable too
abbrev mutual
  pub stores_meet : (with : Expression) → Expression → Bool
  stores_meet w (Integer s k n) = false
  stores_meet w (Real s spelling) = false
  stores_meet w (Name s name) = false
  stores_meet w (Call s name es) = any_meet w es
  stores_meet w (Index s e i) = stores_meet w e || stores_meet w i
  stores_meet w (Member s e name) = stores_meet w e
  stores_meet w (Prefix s Minus e) = stores_meet w e
  stores_meet w (Prefix s Plus e) = stores_meet w e
  stores_meet w (Prefix s LogicalNot e) = stores_meet w e
  stores_meet w (Prefix s BitNot e) = stores_meet w e
  stores_meet w (Prefix s Indirection e) = stores_meet w e
  stores_meet w (Prefix s AddressOf e) = target_meets w e
  stores_meet w (Step s side sign e) = target_meets w e
  stores_meet w (Cast s t e) = stores_meet w e
  stores_meet w (Vector s t es) = any_meet w es
  stores_meet w (Infix s sign l r) = stores_meet w l || stores_meet w r
  stores_meet w (Conditional s t a b) = stores_meet w t || (stores_meet w a || stores_meet w b)
  stores_meet w (Assign s sign x e) = target_meets w x || stores_meet w e
  stores_meet w (Comma s a b) = stores_meet w a || stores_meet w b
  stores_meet w (SizeofType s t) = false
  stores_meet w (SizeofOf s e) = false

  pub target_meets : (with : Expression) → Expression → Bool
  target_meets w (Integer s k n) = false
  target_meets w (Real s spelling) = false
  target_meets w (Name s name) = occurs name w
  target_meets w (Call s name es) = any_meet w es
  target_meets w (Index s e i) = target_meets w e || stores_meet w i
  target_meets w (Member s e name) = target_meets w e
  target_meets w (Prefix s sign e) = target_meets w e
  target_meets w (Step s side sign e) = target_meets w e
  target_meets w (Cast s t e) = target_meets w e
  target_meets w (Vector s t es) = any_meet w es
  target_meets w (Infix s sign l r) = target_meets w l || target_meets w r
  target_meets w (Conditional s t a b) = stores_meet w t || (target_meets w a || target_meets w b)
  target_meets w (Assign s sign x e) = target_meets w x || stores_meet w e
  target_meets w (Comma s a b) = stores_meet w a || target_meets w b
  target_meets w (SizeofType s t) = false
  target_meets w (SizeofOf s e) = false

  pub any_meet : (with : Expression) → Expressions → Bool
  any_meet w nothing = false
  any_meet w (also e es) = stores_meet w e || any_meet w es

-- whether what is assigned to lies in memory
abbrev pub is_memory : Expression → Bool
is_memory (Index s e i) = true
is_memory (Member s e name) = is_memory e
is_memory (Prefix s Indirection e) = true
is_memory e = false

-- whether memory is stored to. Of an expression that is assigned to, only what is evaluated within it is looked at
abbrev mutual
  pub stores_memory : List Helper → Expression → Bool
  stores_memory hs (Integer s k n) = false
  stores_memory hs (Real s spelling) = false
  stores_memory hs (Name s name) = false
  stores_memory hs (Call s name es) = call_stores hs name || any_stores hs es
  stores_memory hs (Index s e i) = stores_memory hs e || stores_memory hs i
  stores_memory hs (Member s e name) = stores_memory hs e
  stores_memory hs (Prefix s sign e) = stores_memory hs e
  stores_memory hs (Step s side sign e) = is_memory e || stores_memory hs e
  stores_memory hs (Cast s t e) = stores_memory hs e
  stores_memory hs (Vector s t es) = any_stores hs es
  stores_memory hs (Infix s sign l r) = stores_memory hs l || stores_memory hs r
  stores_memory hs (Conditional s t a b) = stores_memory hs t || (stores_memory hs a || stores_memory hs b)
  stores_memory hs (Assign s sign x e) = is_memory x || (stores_memory hs x || stores_memory hs e)
  stores_memory hs (Comma s a b) = stores_memory hs a || stores_memory hs b
  stores_memory hs (SizeofType s t) = false
  stores_memory hs (SizeofOf s e) = false

  pub any_stores : List Helper → Expressions → Bool
  any_stores hs nothing = false
  any_stores hs (also e es) = stores_memory hs e || any_stores hs es

-- whether memory is read or stored to
abbrev mutual
  pub touches_memory : List Helper → Expression → Bool
  touches_memory hs (Integer s k n) = false
  touches_memory hs (Real s spelling) = false
  touches_memory hs (Name s name) = false
  touches_memory hs (Call s name es) = call_touches hs name || any_touches hs es
  touches_memory hs (Index s e i) = true
  touches_memory hs (Member s e name) = touches_memory hs e
  touches_memory hs (Prefix s Minus e) = touches_memory hs e
  touches_memory hs (Prefix s Plus e) = touches_memory hs e
  touches_memory hs (Prefix s LogicalNot e) = touches_memory hs e
  touches_memory hs (Prefix s BitNot e) = touches_memory hs e
  touches_memory hs (Prefix s Indirection e) = true
  touches_memory hs (Prefix s AddressOf e) = touches_memory hs e
  touches_memory hs (Step s side sign e) = touches_memory hs e
  touches_memory hs (Cast s t e) = touches_memory hs e
  touches_memory hs (Vector s t es) = any_touches hs es
  touches_memory hs (Infix s sign l r) = touches_memory hs l || touches_memory hs r
  touches_memory hs (Conditional s t a b) = touches_memory hs t || (touches_memory hs a || touches_memory hs b)
  touches_memory hs (Assign s sign x e) = touches_memory hs x || touches_memory hs e
  touches_memory hs (Comma s a b) = touches_memory hs a || touches_memory hs b
  touches_memory hs (SizeofType s t) = false
  touches_memory hs (SizeofOf s e) = false

  pub any_touches : List Helper → Expressions → Bool
  any_touches hs nothing = false
  any_touches hs (also e es) = touches_memory hs e || any_touches hs es

-- whether one stores to memory, and the other reads or stores to it
abbrev pub memory_meets : List Helper → (a b : Expression) → Bool
memory_meets hs a b = stores_memory hs a && touches_memory hs b

-- whether one stores to a variable that occurs in the other
abbrev pub names_meet : (a b : Expression) → Bool
names_meet a b = stores_meet b a || stores_meet a b

-- whether one of two operands stores what the other may read or store, where neither is evaluated first (6.5p2 and p3)
abbrev pub clash : List Helper → (a b : Expression) → Bool
clash hs a b = names_meet a b || (memory_meets hs a b || memory_meets hs b a)

abbrev pub clash_with_any : List Helper → Expression → Expressions → Bool
clash_with_any hs a nothing = false
clash_with_any hs a (also e es) = clash hs a e || clash_with_any hs a es

-- the same of two arguments of a call, or of two parts of a vector
abbrev pub clash_among : List Helper → Expressions → Bool
clash_among hs nothing = false
clash_among hs (also e es) = clash_with_any hs e es || clash_among hs es

-- whether memory is touched where it is found what is assigned to
abbrev pub finding_touches : List Helper → Expression → Bool
finding_touches hs (Index s e i) = finding_touches hs e || touches_memory hs i
finding_touches hs (Member s e name) = finding_touches hs e
finding_touches hs (Prefix s sign e) = touches_memory hs e
finding_touches hs e = false

-- `x op= e` reads `x` too
abbrev pub target_touches : List Helper → AssignSign → (target : Expression) → Bool
target_touches hs Plain x = finding_touches hs x
target_touches hs (With op) x = touches_memory hs x
target_touches hs WithLeftShift x = touches_memory hs x
target_touches hs WithRightShift x = touches_memory hs x

-- whether what is assigned to and an element that is assigned within are two stores to memory, neither of which is first. A call has stored
-- when its value is known
abbrev pub stores_twice : (target within : Expression) → Bool
stores_twice x e = is_memory x && stores_memory [] e

-- whether an assignment has parts of which C leaves the order open. The store itself comes behind both of its operands (6.5.16)
abbrev pub memory_clash_assigned : List Helper → AssignSign → (target value : Expression) → Bool
memory_clash_assigned hs sign x e =
    (stores_memory hs e && target_touches hs sign x) || (memory_meets hs x e || (stores_twice x e || stores_twice x x))

abbrev pub clash_assigned : List Helper → AssignSign → (target value : Expression) → Bool
clash_assigned hs sign x e = names_meet e x || memory_clash_assigned hs sign x e
