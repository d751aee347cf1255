-- The terms that the walk covers.
use Rattle.std.specs.Prelude.{Bool, true, false, ◌&&◌, nat_lt}
use Rattle.semantics.specs.Word.{Kind, Int, Uint, Size, in_kind, UnaryOperator, Negate, Complement, ShiftLeft, ShiftRight}
use Rattle.semantics.specs.Core.{Space, Term, Literal, Variable, Id, Load, Unary, Binary, Convert, Compare, Not, And, Or, Select, Minimum, Maximum, Shift, Within, Opaque}

abbrev pub is_uint : Kind → Bool
is_uint Int = false
is_uint Uint = true
is_uint Size = false

-- the kinds of ids: they are numbers of 32 bits
abbrev pub is_id_kind : Kind → Bool
is_id_kind Int = false
is_id_kind Uint = true
is_id_kind Size = true

-- a shift is by 0 to 31, and of a `uint`
abbrev pub is_covered_unary : UnaryOperator → Kind → Bool
is_covered_unary Negate k = true
is_covered_unary Complement k = true
is_covered_unary (ShiftLeft by) k = nat_lt by 32
is_covered_unary (ShiftRight by) k = nat_lt by 32 && is_uint k

-- with loads of arrays of these spaces alone
abbrev pub covers_term : (spaces : Space → Bool) → Term → Bool
covers_term sp (Literal k z) = in_kind k z
covers_term sp (Variable x) = true
covers_term sp (Id k f d) = is_id_kind k
covers_term sp (Load a site i) = sp a.space && covers_term sp i
covers_term sp (Unary op k site e) = is_covered_unary op k && covers_term sp e
covers_term sp (Binary op k site a b) = covers_term sp a && covers_term sp b
covers_term sp (Convert k site e) = covers_term sp e
covers_term sp (Compare r k a b) = covers_term sp a && covers_term sp b
covers_term sp (Not e) = covers_term sp e
covers_term sp (And a b) = covers_term sp a && covers_term sp b
covers_term sp (Or a b) = covers_term sp a && covers_term sp b
covers_term sp (Select t a b) = covers_term sp t && (covers_term sp a && covers_term sp b)
covers_term sp (Minimum a b) = covers_term sp a && covers_term sp b
covers_term sp (Maximum a b) = covers_term sp a && covers_term sp b
covers_term sp (Shift d k a b) = covers_term sp a && covers_term sp b
covers_term sp (Within site n i) = covers_term sp i
covers_term sp (Opaque n at k a b e) = covers_term sp a && (covers_term sp b && covers_term sp e)
