-- What a walk tells of the bits of two operands has own symbols alone.
use Rattle.std.proofs.Common.{ℕ, zero, suc, ◌^◌, Bool, true, false, cond, ◌&&◌, Option, Some, None}
use Rattle.std.specs.Prelude.{ℤ, pos, ◌+ℤ◌, int_div}
use Rattle.semantics.specs.Word.{Kind}
use Rattle.linear.specs.Exact.{sum, multiple, fits}
use Rattle.facts.specs.Symbols.{Fact, constant, minus}
use Rattle.walk_trees.specs.Trees.{Tree}
use Rattle.walk_trees.specs.Walks.{Setting, State, any_of}
use Rattle.walk_trees.specs.Quotients.{left_by}
use Rattle.walk_trees.specs.Bits.{is_natural, tell_where, bits_from, is_upper, in_run, met, meet_any, meet_by, run_in, meet, bit_in, with_bit, joined, join_any, join_by, joins, join, differ}
use Rattle.walk_trees.proofs.OwnForms.{IsOwn, own-sum, own-multiple, own-minus}
use Rattle.walk_trees.proofs.OwnQuotients.{IsOwnTree, HasOwn, GoesOn, invents, quotients, leaves_by, tells}

module _ {E : Type 0} (s : Setting E) where
  pub from_bits : (b : ℕ) (k : Kind) (x : Fact) (st : State E) (go : Fact → State E → Tree E) → IsOwn x → HasOwn st → GoesOn go → IsOwnTree (bits_from s k x b st go)
  from_bits zero k x st go i h g = g x st i h
  from_bits (suc b) k x st go i h g = quotients s k x (pos (2 ^ suc b)) st (λ q r st'. go q st') i h (λ q r st' j l h'. g q st' j h')

  runs : (u : Bool) (k : Kind) (b : ℕ) (c : ℤ) (q : Fact) (st : State E) (go : Fact → State E → Tree E) → IsOwn q → HasOwn st → GoesOn go → IsOwnTree (cond u (go (multiple (pos (2 ^ b)) q) st) (left_by s k q (int_div (c +ℤ pos (2 ^ b)) (pos (2 ^ b))) st (λ r st2. go (multiple (pos (2 ^ b)) r) st2)))
  runs true k b c q st go i h g = g (multiple (pos (2 ^ b)) q) st (own-multiple (pos (2 ^ b)) q i) h
  runs false k b c q st go i h g = leaves_by s k q (int_div (c +ℤ pos (2 ^ b)) (pos (2 ^ b))) st (λ r st2. go (multiple (pos (2 ^ b)) r) st2) i h (λ r st2 j h2. g (multiple (pos (2 ^ b)) r) st2 (own-multiple (pos (2 ^ b)) r j) h2)

  runs_in : (k : Kind) (x : Fact) (b : ℕ) (c : ℤ) (st : State E) (go : Fact → State E → Tree E) → IsOwn x → HasOwn st → GoesOn go → IsOwnTree (in_run s k x b c st go)
  runs_in k x b c st go i h g =
      from_bits b k x st (λ q st1. cond (is_upper k b c) (go (multiple (pos (2 ^ b)) q) st1) (left_by s k q (int_div (c +ℤ pos (2 ^ b)) (pos (2 ^ b))) st1 (λ r st2. go (multiple (pos (2 ^ b)) r) st2))) i h
      (λ q st1 j h1. runs (is_upper k b c) k b c q st1 go j h1 g)

  meets_any : (k : Kind) (x y : Fact) (st : State E) (go : Fact → State E → Tree E) → IsOwn x → IsOwn y → HasOwn st → GoesOn go → IsOwnTree (meet_any s k x y st go)
  meets_any k x y st go i j h g =
      invents s (met s st k x y) st (λ r st1. tell_where s (is_natural s st k x) (minus x r) st1 (λ st2. tell_where s (is_natural s st k y) (minus y r) st2 (λ st3. go r st3))) h (λ r st1 l h1.
      tells s (is_natural s st k x) (minus x r) st1 (λ st2. tell_where s (is_natural s st k y) (minus y r) st2 (λ st3. go r st3)) (own-minus x r i l) h1 (λ st2 h2.
      tells s (is_natural s st k y) (minus y r) st2 (λ st3. go r st3) (own-minus y r j l) h2 (λ st3 h3. g r st3 l h3)))

  meets_by : (o : Option ℕ) (k : Kind) (x y : Fact) (st : State E) (go : Fact → State E → Tree E) → IsOwn x → IsOwn y → HasOwn st → GoesOn go → IsOwnTree (meet_by s o k x y st go)
  meets_by None k x y st go i j h g = meets_any k x y st go i j h g
  meets_by (Some b) k x y st go i j h g = runs_in k x b y.constant st go i h g

  pub own_meet : (k : Kind) (x y : Fact) (st : State E) (go : Fact → State E → Tree E) → IsOwn x → IsOwn y → HasOwn st → GoesOn go → IsOwnTree (meet s k x y st go)
  own_meet k x y st go i j h g = meets_by (run_in k y) k x y st go i j h g

  bits_with : (k : Kind) (x : Fact) (b : ℕ) (t : ℤ) (st : State E) (go : Fact → State E → Tree E) → IsOwn x → HasOwn st → GoesOn go → IsOwnTree (with_bit s k x b t st go)
  bits_with k x b t st go i h g =
      let more : Fact → Fact = λ r. minus (sum x (constant (pos (2 ^ b)))) (multiple t r) in
      let last : Fact → State E → Tree E = λ r st2. tell_where s true (more r) st2 (λ st3. go (more r) st3) in
      from_bits b k x st (λ q st1. left_by s k q (pos 2) st1 last) i h (λ q st1 j h1.
      leaves_by s k q (pos 2) st1 last j h1 (λ r st2 l h2.
      let m : IsOwn (more r) = own-minus (sum x (constant (pos (2 ^ b)))) (multiple t r) (own-sum x (constant (pos (2 ^ b))) i tt) (own-multiple t r l) in
      tells s true (more r) st2 (λ st3. go (more r) st3) m h2 (λ st3 h3. g (more r) st3 m h3)))

  joins_any : (o : Bool) (k : Kind) (x y : Fact) (st : State E) (go : Fact → State E → Tree E) → IsOwn x → IsOwn y → HasOwn st → GoesOn go → IsOwnTree (join_any s o k x y st go)
  joins_any o k x y st go i j h g =
      let last : Fact → State E → Tree E = λ r st3. tell_where s (fits (sum x y)) (minus (sum x y) r) st3 (λ st4. go r st4) in
      let second : Fact → State E → Tree E = λ r st2. tell_where s o (minus r y) st2 (λ st3. last r st3) in
      invents s (joined s st k x y) st (λ r st1. tell_where s o (minus r x) st1 (λ st2. second r st2)) h (λ r st1 l h1.
      tells s o (minus r x) st1 (λ st2. second r st2) (own-minus r x l i) h1 (λ st2 h2.
      tells s o (minus r y) st2 (λ st3. last r st3) (own-minus r y l j) h2 (λ st3 h3.
      tells s (fits (sum x y)) (minus (sum x y) r) st3 (λ st4. go r st4) (own-minus (sum x y) r (own-sum x y i j) l) h3 (λ st4 h4. g r st4 l h4))))

  joins_by : (b : Option ℕ) (o : Bool) (k : Kind) (x y : Fact) (st : State E) (go : Fact → State E → Tree E) → IsOwn x → IsOwn y → HasOwn st → GoesOn go → IsOwnTree (join_by s b o k x y st go)
  joins_by None o k x y st go i j h g = joins_any o k x y st go i j h g
  joins_by (Some b) true k x y st go i j h g = bits_with k x b (pos (2 ^ b)) st go i h g
  joins_by (Some b) false k x y st go i j h g = bits_with k x b (pos (2 ^ suc b)) st go i h g

  own_joins : (b o : Bool) (k : Kind) (x y : Fact) (st : State E) (go : Fact → State E → Tree E) → IsOwn x → IsOwn y → HasOwn st → GoesOn go → IsOwnTree (joins s b o k x y st go)
  own_joins true o k x y st go i j h g = joins_by (bit_in y) o k x y st go i j h g
  own_joins false o k x y st go i j h g = invents s (any_of s.domain k) st go h g

  pub own_join : (k : Kind) (x y : Fact) (st : State E) (go : Fact → State E → Tree E) → IsOwn x → IsOwn y → HasOwn st → GoesOn go → IsOwnTree (join s k x y st go)
  own_join k x y st go i j h g = own_joins (is_natural s st k x && is_natural s st k y) true k x y st go i j h g

  pub own_differ : (k : Kind) (x y : Fact) (st : State E) (go : Fact → State E → Tree E) → IsOwn x → IsOwn y → HasOwn st → GoesOn go → IsOwnTree (differ s k x y st go)
  own_differ k x y st go i j h g = own_joins (is_natural s st k x && is_natural s st k y) false k x y st go i j h g
