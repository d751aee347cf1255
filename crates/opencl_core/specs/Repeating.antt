-- Terms that may be written twice: without loads and without operations that are not reckoned, so that both copies have one value.
use Rattle.std.specs.Prelude.{Bool, true, false, ◌&&◌}
use Rattle.semantics.specs.Core.{Term, Literal, Variable, Id, Load, Unary, Binary, Convert, Compare, Not, And, Or, Select, Minimum, Maximum, Shift, Within, Opaque}

abbrev pub is_steady : Term → Bool
is_steady (Literal k z) = true
is_steady (Variable slot) = true
is_steady (Id k f d) = true
is_steady (Load a s i) = false
is_steady (Unary op k s t) = is_steady t
is_steady (Binary op k s l r) = is_steady l && is_steady r
is_steady (Convert k s t) = is_steady t
is_steady (Compare rel k l r) = is_steady l && is_steady r
is_steady (Not t) = is_steady t
is_steady (And l r) = is_steady l && is_steady r
is_steady (Or l r) = is_steady l && is_steady r
is_steady (Select t a b) = is_steady t && (is_steady a && is_steady b)
is_steady (Minimum l r) = is_steady l && is_steady r
is_steady (Maximum l r) = is_steady l && is_steady r
is_steady (Shift d k t c) = is_steady t && is_steady c
is_steady (Within s m i) = is_steady i
is_steady (Opaque op at k a b c) = false
