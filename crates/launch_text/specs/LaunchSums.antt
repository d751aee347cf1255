-- Sums of a conditions text, read from the left.
use Rattle.std.specs.Prelude.{ℕ, zero, suc, ◌+◌, ℤ, pos, List, [], ◌∷◌, ◌++◌, Bool, false, cond, nat_eq, ◌||◌, ◌&&◌, Option, None, Some, Ok, bytes_eq, codes}
use Rattle.semantics.specs.Conditions.{Factor, ArgumentFactor, GroupsFactor, Summand, Constant, Argument, Groups, Product}
use Rattle.lines.specs.Bytes.{is_decimal_digit}
use Rattle.texts.specs.Surface.{Parameter, Buffer, Value}
use Rattle.launch_text.specs.LaunchFaults.{Expected, UnknownName, LimitPassed, Cursor, Step, refused, then, sees, past}
use Rattle.launch_text.specs.LaunchWords.{factor_at, name_at, is_known}

-- which of the value parameters has a name, counted from `before`
abbrev pub value_number : (before : ℕ) → List Parameter → List ℕ → Option ℕ
value_number before [] name = None
value_number before (Buffer constant kind site own ∷ ps) name = value_number before ps name
value_number before (Value kind site own ∷ ps) name = cond (bytes_eq own name) (Some before) (value_number (before + 1) ps name)

-- which of the buffer parameters has a name
abbrev pub buffer_number : (before : ℕ) → List Parameter → List ℕ → Option ℕ
buffer_number before [] name = None
buffer_number before (Buffer constant kind site own ∷ ps) name = cond (bytes_eq own name) (Some before) (buffer_number (before + 1) ps name)
buffer_number before (Value kind site own ∷ ps) name = buffer_number before ps name

-- a value has no number among the buffers
abbrev pub buffer_found : List Parameter → (name : List ℕ) → Option ℕ → Cursor → Step (ℕ × Cursor)
buffer_found ps name (Some n) c = Ok (n, c)
buffer_found ps name None c = cond (is_known ps name) (refused Expected c) (refused UnknownName c)

-- the name of a buffer
unfoldable pub buffer_at : List Parameter → Cursor → Step (ℕ × Cursor)
buffer_at ps c = then (name_at c) (λ t. buffer_found ps t.0 (buffer_number 0 ps t.0) t.1)

-- a buffer has no number
abbrev pub argument_found : List Parameter → (name : List ℕ) → Option ℕ → Cursor → Step (Factor × Cursor)
argument_found ps name (Some n) c = Ok (ArgumentFactor n, c)
argument_found ps name None c = cond (is_known ps name) (refused Expected c) (refused UnknownName c)

unfoldable pub argument_at : List Parameter → Cursor → Step (Factor × Cursor)
argument_at ps c = then (name_at c) (λ t. argument_found ps t.0 (value_number 0 ps t.0) t.1)

-- a group count or an argument
unfoldable pub symbol_at : List Parameter → Cursor → Step (Factor × Cursor)
symbol_at ps c =
    cond (sees (codes "groups.0") c) (Ok (GroupsFactor 0, past 8 c)) (
    cond (sees (codes "groups.1") c) (Ok (GroupsFactor 1, past 8 c)) (
    cond (sees (codes "groups.2") c) (Ok (GroupsFactor 2, past 8 c)) (
    argument_at ps c)))

abbrev pub times : (number : ℤ) → Factor → Summand
times z (ArgumentFactor n) = Argument z n
times z (GroupsFactor d) = Groups z d

-- `NAME` or, where products may stand, `NAME*NAME`, times a number
unfoldable pub symbols_at : (has_products : Bool) → List Parameter → (number : ℤ) → Cursor → Step (Summand × Cursor)
symbols_at has_products ps z c =
    then (symbol_at ps c) (λ a.
    cond (has_products && sees (codes "*") a.1) (then (symbol_at ps (past 1 a.1)) (λ b. Ok (Product z a.0 b.0, b.1))) (Ok (times z a.0, a.1)))

abbrev pub begins_number : List ℕ → Bool
begins_number [] = false
begins_number (b ∷ bytes) = nat_eq b 45 || is_decimal_digit b

-- `C`, `NAME` or `C*NAME`; where products may stand, `NAME*NAME` or `C*NAME*NAME` as well
unfoldable pub term_at : (has_products : Bool) → List Parameter → Cursor → Step (Summand × Cursor)
term_at has_products ps c =
    cond (begins_number c.rest)
    (then (factor_at c) (λ t. cond (sees (codes "*") t.1) (symbols_at has_products ps t.0 (past 1 t.1)) (Ok (Constant t.0, t.1))))
    (symbols_at has_products ps (pos 1) c)

-- terms joined by ` + ` behind those that there are, at most as many as there is room for
unfoldable pub sum_at : (has_products : Bool) → List Parameter → (room : ℕ) → List Summand → Cursor → Step (List Summand × Cursor)
sum_at has_products ps zero terms c = refused LimitPassed c
sum_at has_products ps (suc room) terms c =
    then (term_at has_products ps c) (λ t.
    cond (sees (codes " + ") t.1) (sum_at has_products ps room (terms ++ t.0 ∷ []) (past 3 t.1)) (Ok (terms ++ t.0 ∷ [], t.1)))
