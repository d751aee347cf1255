-- The forms of operators, of operands that have been brought to one kind.
use Rattle.std.specs.Prelude.{ℕ, ◌+◌, ◌^◌, ℤ, pos, negsuc, ◌+ℤ◌, [], ◌∷◌, Bool, true, false, not, ◌&&◌, ◌||◌, cond, int_lt, nat_le, length, Option, Some, None}
use Rattle.semantics.specs.Word.{Kind, Int, Uint, Size, Operator, Add, Subtract, Multiply, Divide, Remainder, BitAnd, BitOr, BitXor, UnaryOperator, Negate, Complement, ShiftLeft, ShiftRight}
use Rattle.linear.specs.Exact.{Terms, sum, multiple}
use Rattle.linear.specs.Products.{and_then, product as form_product}
use Rattle.domain.specs.declared.Bounds.{Bounds}
use Rattle.facts.specs.Symbols.{Fact, constant, minus}
use Rattle.facts.specs.Elements.{is_from_zero}
use Rattle.walk_trees.specs.Trees.{OfRange, OfDivisor, OfQuotient, Goal, Either, Tree}
use Rattle.walk_trees.specs.Values.{Value, value}
use Rattle.walk_trees.specs.Shares.{Shared, shared_of}
use Rattle.walk_trees.specs.Walks.{Setting, State, Onward, element_of, bounds_of, claim, claim_form, know_all, bound_facts, newest, invent, any_of, unknown, ranged, is_number, known_form}
use Rattle.walk_trees.specs.Covered.{is_uint}
use Rattle.walk_trees.specs.Quotients.{quotient, left_by, is_power}
use Rattle.walk_trees.specs.SharedQuotients.{is_shared, found_or_made, quotient_or_new, left_or_new}
use Rattle.walk_trees.specs.Bits.{meet, join, differ}

-- the product of two forms, where it is and has at most 24 terms
abbrev pub small_product : Fact → Fact → Option Fact
small_product f g = and_then (form_product f g) (λ h. cond (nat_le (length h.terms) 24) (Some h) None)

-- a form with what the domain knows of it as facts, else a new symbol
abbrev pub multiplied : {E : Type 0} → Setting E → Option Fact → E → State E → (Fact → State E → Tree E) → Tree E
multiplied s None e st go = invent s e st go
multiplied s (Some h) e st go = know_all (bound_facts h (s.domain.bounds_of e)) (go h st)

-- in the wide walk
abbrev pub product_in : {E : Type 0} → Setting E → (is_wide : Bool) → Fact → Fact → E → State E → (Fact → State E → Tree E) → Tree E
product_in s true f g e st go = multiplied s (small_product f g) e st go
product_in s false f g e st go = invent s e st go

-- by a constant form exactly, else a new symbol; the wide walk has the product of the forms, where it is
abbrev pub product : {E : Type 0} → Setting E → (left right : Terms) → Fact → Fact → State E → (Fact → State E → Tree E) → Tree E
product s ts [] f g st go = go (multiple g.constant f) st
product s [] (u ∷ us) f g st go = go (multiple f.constant g) st
product s (t ∷ ts) (u ∷ us) f g st go = product_in s s.is_wide f g (s.domain.mul_of (element_of s st f) (element_of s st g)) st go

-- bounds leave out a number
abbrev pub is_over : Option ℤ → ℤ → Bool
is_over None z = false
is_over (Some low) z = int_lt z low

abbrev pub is_under : Option ℤ → ℤ → Bool
is_under None z = false
is_under (Some high) z = int_lt high z

abbrev pub lacks : Bounds → ℤ → Bool
lacks b z = is_over b.low z || is_under b.high z

-- a divisor is not 0 (C99 6.5.5): it is at least 1, or at most -1
abbrev pub divisor_goal : Fact → Goal
divisor_goal y = Either (minus y (constant (pos 1))) (minus (constant (negsuc 0)) y)

-- the least `int` is not divided by -1: the divisor is at least 0, or the dividend is above the least `int`
abbrev pub quotient_goal : (dividend divisor : Fact) → Goal
quotient_goal x y = Either y (minus x (constant (negsuc 2147483646)))

abbrev pub claim_quotient : {E : Type 0} → Setting E → Kind → (dividend divisor : Fact) → State E → (State E → Tree E) → Tree E
claim_quotient s Uint x y st go = go st
claim_quotient s Size x y st go = go st
claim_quotient s Int x y st go = claim OfQuotient true (lacks (bounds_of s st y) (negsuc 0) || lacks (bounds_of s st x) (negsuc 2147483647)) (quotient_goal x y) st go

abbrev pub claim_divisor : {E : Type 0} → Setting E → Kind → (dividend divisor : Fact) → State E → (State E → Tree E) → Tree E
claim_divisor s k x y st go = claim OfDivisor true (lacks (bounds_of s st y) (pos 0)) (divisor_goal y) st (λ st'. claim_quotient s k x y st' go)

-- a number above 0
abbrev pub is_positive : Fact → Bool
is_positive y = is_number y && int_lt (pos 0) y.constant

-- the divisor is a number above 0, and the dividend is known to be at least 0; in the wide walk a `uint` is
abbrev pub is_exact : {E : Type 0} → Setting E → State E → Kind → (dividend divisor : Fact) → Bool
is_exact s st k x y = is_positive y && ((s.is_wide && is_uint k) || is_from_zero (bounds_of s st x).low)

-- the wide walk asks of an `int` that is divided by a number above 0, and may be negative, whether its entry shows that it is not
abbrev pub asks_dividend : {E : Type 0} → Setting E → State E → Kind → (dividend divisor : Fact) → Bool
asks_dividend s st k x y = s.is_wide && (is_positive y && not (is_uint k || is_from_zero (bounds_of s st x).low))

-- whether the quotient is exact
abbrev pub claim_dividend : {E : Type 0} → Setting E → Kind → (dividend divisor : Fact) → State E → (Bool → State E → Tree E) → Tree E
claim_dividend s k x y st go =
    cond (asks_dividend s st k x y) (claim_form s (OfRange Uint) (s.has_entry (st.claims + 1)) x st (λ st'. go (s.has_entry (st.claims + 1)) st')) (go (is_exact s st k x y) st)

-- what there is of a quotient by a form
abbrev pub share : {E : Type 0} → Setting E → Kind → (dividend divisor : Fact) → State E → (Option Shared → State E → Tree E) → Tree E
share s k x y st go = cond (is_shared s st k x y) (found_or_made s (shared_of x y st.quotients) (small_product (newest st) y) k x y st go) (go None st)

abbrev pub divided : {E : Type 0} → Setting E → Bool → Kind → (dividend divisor : Fact) → State E → (Fact → State E → Tree E) → Tree E
divided s true k x y st go = quotient s k x y.constant st (λ q r st'. go q st')
divided s false k x y st go = share s k x y st (λ q st'. quotient_or_new s q x y st' go)

abbrev pub remaining : {E : Type 0} → Setting E → Bool → Kind → (dividend divisor : Fact) → State E → (Fact → State E → Tree E) → Tree E
remaining s true k x y st go = left_by s k x y.constant st go
remaining s false k x y st go = share s k x y st (λ q st'. left_or_new s q x y st' go)

-- the lowest bits of a `uint` or a size; in the wide walk those of an `int`, too
abbrev pub is_mask : (is_wide : Bool) → Kind → Fact → Bool
is_mask w Int y = w && (is_number y && is_power 31 (y.constant +ℤ pos 1))
is_mask w Uint y = is_number y && is_power 32 (y.constant +ℤ pos 1)
is_mask w Size y = is_number y && is_power 32 (y.constant +ℤ pos 1)

abbrev pub are_from_zero : {E : Type 0} → Setting E → State E → Fact → Fact → Bool
are_from_zero s st x y = is_from_zero (bounds_of s st x).low && is_from_zero (bounds_of s st y).low

abbrev pub masked_by : {E : Type 0} → Setting E → Bool → Kind → Fact → Fact → State E → (Fact → State E → Tree E) → Tree E
masked_by s true k x y st go = invent s (s.domain.mask_of (element_of s st x) (element_of s st y)) st go
masked_by s false k x y st go = invent s (any_of s.domain k) st go

abbrev pub masked : {E : Type 0} → Setting E → Bool → Kind → Fact → Fact → State E → (Fact → State E → Tree E) → Tree E
masked s true k x y st go = left_by s k x (y.constant +ℤ pos 1) st go
masked s false k x y st go = cond s.is_wide (meet s k x y st go) (masked_by s (are_from_zero s st x y) k x y st go)

-- sums, differences and products are exact, and then in the range of their kind; quotients, remainders and bits are in it by themselves
abbrev pub operate : {E : Type 0} → Setting E → Operator → Kind → Fact → Fact → State E → Onward E → Tree E
operate s Add k x y st go = ranged s k (sum x y) st go
operate s Subtract k x y st go = ranged s k (minus x y) st go
operate s Multiply k x y st go = product s x.terms y.terms x y st (λ f st'. ranged s k f st' go)
operate s Divide k x y st go = claim_divisor s k x y st (λ st1. claim_dividend s k x y st1 (λ b st2. divided s b k x y st2 (λ f st'. go (value k f) st')))
operate s Remainder k x y st go = claim_divisor s k x y st (λ st1. claim_dividend s k x y st1 (λ b st2. remaining s b k x y st2 (λ f st'. go (value k f) st')))
operate s BitAnd k x y st go = masked s (is_mask s.is_wide k y) k x y st (λ f st'. go (value k f) st')
operate s BitOr k x y st go = cond s.is_wide (join s k x y st (λ f st'. go (value k f) st')) (unknown s k st go)
operate s BitXor k x y st go = cond s.is_wide (differ s k x y st (λ f st'. go (value k f) st')) (unknown s k st go)

-- of operands of which one number is left
abbrev pub known_operands : {E : Type 0} → Setting E → Operator → Kind → Fact → Fact → State E → Onward E → Tree E
known_operands s op k x y st go = operate s op k (known_form s st x) (known_form s st y) st go

-- but for sums and differences operands of which one number is left are that number
abbrev pub binary : {E : Type 0} → Setting E → Operator → Kind → Fact → Fact → State E → Onward E → Tree E
binary s Add k x y st go = operate s Add k x y st go
binary s Subtract k x y st go = operate s Subtract k x y st go
binary s Multiply k x y st go = known_operands s Multiply k x y st go
binary s Divide k x y st go = known_operands s Divide k x y st go
binary s Remainder k x y st go = known_operands s Remainder k x y st go
binary s BitAnd k x y st go = known_operands s BitAnd k x y st go
binary s BitOr k x y st go = known_operands s BitOr k x y st go
binary s BitXor k x y st go = known_operands s BitXor k x y st go

abbrev pub complement : Kind → Fact → Fact
complement Int f = minus (constant (negsuc 0)) f
complement Uint f = minus (constant (pos 4294967295)) f
complement Size f = minus (constant (negsuc 0)) f

-- of a `uint` or a size the quotient
abbrev pub shifted : {E : Type 0} → Setting E → (from to : Kind) → Fact → ℕ → State E → Onward E → Tree E
shifted s Uint k f by st go = quotient s k f (pos (2 ^ by)) st (λ q r st'. go (value k q) st')
shifted s Size k f by st go = quotient s k f (pos (2 ^ by)) st (λ q r st'. go (value k q) st')
shifted s Int k f by st go = unknown s k st go

abbrev pub unary : {E : Type 0} → Setting E → UnaryOperator → Kind → Value → State E → Onward E → Tree E
unary s Negate k x st go = ranged s k (multiple (negsuc 0) x.form) st go
unary s Complement k x st go = ranged s k (complement k x.form) st go
unary s (ShiftLeft by) k x st go = ranged s k (multiple (pos (2 ^ by)) x.form) st go
unary s (ShiftRight by) k x st go = shifted s x.kind k x.form by st go
