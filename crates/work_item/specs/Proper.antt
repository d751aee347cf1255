-- Proper kernels: each value of a term is a word of 32 bits, and all work-items of a launch have numbers of 64 bits. Those which are read
-- from a text are proper (`sound_kernels`); of others `is_proper` tests it.
use Rattle.std.specs.Prelude.{ℕ, ◌^◌, List, [], ◌∷◌, Bool, true, false, ◌&&◌, nat_le, nat_lt}
use Rattle.semantics.specs.Word.{Kind, Int, Uint, Size, UnaryOperator, Negate, Complement, ShiftLeft, ShiftRight, in_kind}
use Rattle.semantics.specs.Core.{Term, Literal, Variable, Id, Load, Unary, Binary, Convert, Compare, Not, And, Or, Select, Minimum, Maximum, Shift, Within, Opaque, Statement, Set, Store, If, Loop, Barrier, Return, Break, Continue, Statements, none, one}
use Rattle.semantics.specs.Launch.{Three, product, Kernel}
use Rattle.semantics.specs.Item.{Entry}

-- a shift is one of `uint`, by 0 to 31
abbrev pub is_shift : Kind → ℕ → Bool
is_shift Int by = false
is_shift Uint by = nat_le by 31
is_shift Size by = false

-- a shift by a term is one of `int` or `uint`: a number that is taken for a size may be none, and so may its quotient
abbrev pub is_shift_kind : Kind → Bool
is_shift_kind Int = true
is_shift_kind Uint = true
is_shift_kind Size = false

-- a length is a number of 32 bits
abbrev pub is_length : ℕ → Bool
is_length n = nat_lt n (2 ^ 32)

-- an id is a number of 32 bits, and an `int` need not have it
abbrev pub is_id_kind : Kind → Bool
is_id_kind Int = false
is_id_kind Uint = true
is_id_kind Size = true

abbrev pub is_proper_unary : UnaryOperator → Kind → Bool
is_proper_unary Negate k = true
is_proper_unary Complement k = true
is_proper_unary (ShiftLeft by) k = is_shift k by
is_proper_unary (ShiftRight by) k = is_shift k by

abbrev pub is_proper_term : Term → Bool
is_proper_term (Literal k z) = in_kind k z
is_proper_term (Variable x) = true
is_proper_term (Id k f d) = is_id_kind k
is_proper_term (Load a site index) = is_proper_term index
is_proper_term (Unary op k site e) = is_proper_unary op k && is_proper_term e
is_proper_term (Binary op k site a b) = is_proper_term a && is_proper_term b
is_proper_term (Convert k site e) = is_proper_term e
is_proper_term (Compare r k a b) = is_proper_term a && is_proper_term b
is_proper_term (Not e) = is_proper_term e
is_proper_term (And a b) = is_proper_term a && is_proper_term b
is_proper_term (Or a b) = is_proper_term a && is_proper_term b
is_proper_term (Select t a b) = is_proper_term t && (is_proper_term a && is_proper_term b)
is_proper_term (Minimum a b) = is_proper_term a && is_proper_term b
is_proper_term (Maximum a b) = is_proper_term a && is_proper_term b
is_proper_term (Shift d k a b) = is_shift_kind k && (is_proper_term a && is_proper_term b)
is_proper_term (Within site n e) = is_length n && is_proper_term e
is_proper_term (Opaque n at k a b c) = is_proper_term a && (is_proper_term b && is_proper_term c)

abbrev mutual
  pub is_proper_statement : Statement → Bool
  is_proper_statement (Set n x e) = is_proper_term e
  is_proper_statement (Store n a site k e) = is_proper_term k && is_proper_term e
  is_proper_statement (If n e taken skipped) = is_proper_term e && (are_proper taken && are_proper skipped)
  is_proper_statement (Loop n e body update) = is_proper_term e && (are_proper body && are_proper update)
  is_proper_statement (Barrier n l g) = true
  is_proper_statement (Return n) = true
  is_proper_statement (Break n k) = true
  is_proper_statement (Continue n k) = true

  pub are_proper : Statements → Bool
  are_proper none = true
  are_proper (one s ss) = is_proper_statement s && are_proper ss

-- local sizes as a device has them (OpenCL 1.2, 4.2 lets it choose; ours are 1 to 1,024 work-items together)
abbrev pub are_sizes : Three ℕ → Bool
are_sizes t = nat_le t.x 1024 && (nat_le t.y 1024 && (nat_le t.z 1024 && (nat_lt 0 (product t) && nat_le (product t) 1024)))

abbrev pub is_proper : Kernel → Bool
is_proper k = are_sizes k.sizes && are_proper k.body

-- all statements that are left
abbrev pub is_proper_left : List Entry → Bool
is_proper_left [] = true
is_proper_left (e ∷ rest) = is_proper_statement e.statement && is_proper_left rest
