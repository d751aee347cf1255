-- Steps of the bits of two operands, each from where the walk stands.
use Rattle.std.specs.Prelude.{ℕ, ◌^◌, ℤ, pos, ◌+ℤ◌, int_div, Bool, ◌&&◌, cond}
use Rattle.semantics.specs.Word.{Kind}
use Rattle.linear.specs.Exact.{sum, multiple, fits}
use Rattle.facts.specs.Symbols.{Fact, constant, minus}
use Rattle.walk_trees.specs.Trees.{Tree}
use Rattle.walk_trees.specs.Walks.{Setting, State}
use Rattle.walk_trees.specs.Quotients.{left_by}
use Rattle.walk_trees.specs.Bits.{is_natural, tell_where, bits_from, is_upper, joins}

-- what the bits from a place on leave by the width of a run
abbrev pub left_run : {E : Type 0} → Setting E → Kind → Fact → ℕ → ℤ → State E → (Fact → State E → Tree E) → Tree E
left_run s k q b c st go = left_by s k q (int_div (c +ℤ pos (2 ^ b)) (pos (2 ^ b))) st (λ r st'. go (multiple (pos (2 ^ b)) r) st')

-- the bits of a run, of those from its lowest place on
abbrev pub run_above : {E : Type 0} → Setting E → Kind → Fact → ℕ → ℤ → State E → (Fact → State E → Tree E) → Tree E
run_above s k q b c st go = cond (is_upper k b c) (go (multiple (pos (2 ^ b)) q) st) (left_run s k q b c st go)

-- a form is at least each of two, where that is said
abbrev pub told_above : {E : Type 0} → Setting E → Bool → Fact → Fact → Fact → State E → (State E → Tree E) → Tree E
told_above s o x y r st go = tell_where s o (minus r x) st (λ st'. tell_where s o (minus r y) st' go)

-- it is at most their sum, where that is of 64 bits
abbrev pub told_sum : {E : Type 0} → Setting E → Fact → Fact → Fact → State E → (State E → Tree E) → Tree E
told_sum s x y r st go = tell_where s (fits (sum x y)) (minus (sum x y) r) st go

-- a bit of a form
abbrev pub bit_from : {E : Type 0} → Setting E → Kind → Fact → ℕ → State E → (Fact → State E → Tree E) → Tree E
bit_from s k x b st go = bits_from s k x b st (λ q st'. left_by s k q (pos 2) st' go)

-- a form with a bit more, and so many times that bit less
abbrev pub changed : Fact → ℕ → (times : ℤ) → Fact → Fact
changed x b t r = minus (sum x (constant (pos (2 ^ b)))) (multiple t r)

-- `x | y` or `x ^ y`, by what is known of the operands there
abbrev pub both_joined : {E : Type 0} → Setting E → (is_or : Bool) → Kind → Fact → Fact → State E → (Fact → State E → Tree E) → Tree E
both_joined s o k x y st go = joins s (is_natural s st k x && is_natural s st k y) o k x y st go
