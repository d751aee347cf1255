-- What is declared stays declared where more is.
use Rattle.std.proofs.Common.{ℕ, ◌≤◌, arith}
use Rattle.semantics.specs.Core as core
use Rattle.semantics.specs.Core.{Space, Global, Local, Term, Literal, Variable, Id, Load, Unary, Binary, Convert, Compare, Not, And, Or, Select, Minimum, Maximum, Shift, Opaque, Statement, Set, Store, If, Loop, Barrier, Return, Break, Continue, Statements, none, one}
use Rattle.types.specs.Elaboration.{join}
use Rattle.sound_cores.specs.Declarations.{Declared, IsOf, TermWithin, Within, AllWithin}

pub record Grows (d e : Declared) : Type 0 where
  pub slots : d.slots ≤ e.slots
  pub buffers : d.buffers ≤ e.buffers
  pub arrays : d.arrays ≤ e.arrays

pub grows-on : (d e f : Declared) → Grows d e → Grows e f → Grows d f
grows-on d e f g h = record { slots = omega (arith, g.slots, h.slots); buffers = omega (arith, g.buffers, h.buffers); arrays = omega (arith, g.arrays, h.arrays) }

pub grows-same : (d : Declared) → Grows d d
grows-same d = record { slots = omega arith; buffers = omega arith; arrays = omega arith }

pub array-grows : (d e : Declared) → Grows d e → (space : Space) (n : ℕ) → IsOf d space n → IsOf e space n
array-grows d e g Global n h = omega (arith, g.buffers, h)
array-grows d e g Local n h = omega (arith, g.arrays, h)

pub term-grows : (d e : Declared) → Grows d e → (t : Term) → TermWithin d t → TermWithin e t
term-grows d e g (Literal k z) h = tt
term-grows d e g (Variable x) h = omega (arith, g.slots, h)
term-grows d e g (Id k f i) h = tt
term-grows d e g (Load a site index) h = (array-grows d e g a.space a.number h.0, term-grows d e g index h.1)
term-grows d e g (Unary op k site t) h = term-grows d e g t h
term-grows d e g (Binary op k site left right) h = (term-grows d e g left h.0, term-grows d e g right h.1)
term-grows d e g (Convert k site t) h = term-grows d e g t h
term-grows d e g (Compare r k left right) h = (term-grows d e g left h.0, term-grows d e g right h.1)
term-grows d e g (Not t) h = term-grows d e g t h
term-grows d e g (And left right) h = (term-grows d e g left h.0, term-grows d e g right h.1)
term-grows d e g (Or left right) h = (term-grows d e g left h.0, term-grows d e g right h.1)
term-grows d e g (Select test taken skipped) h = (term-grows d e g test h.0, term-grows d e g taken h.1, term-grows d e g skipped h.2)
term-grows d e g (Minimum left right) h = (term-grows d e g left h.0, term-grows d e g right h.1)
term-grows d e g (Maximum left right) h = (term-grows d e g left h.0, term-grows d e g right h.1)
term-grows d e g (Shift o k value count) h = (term-grows d e g value h.0, term-grows d e g count h.1)
term-grows d e g (core.Within site n index) h = term-grows d e g index h
term-grows d e g (Opaque n at k a b c) h = (term-grows d e g a h.0, term-grows d e g b h.1, term-grows d e g c h.2)

mutual
  pub statement-grows : (d e : Declared) → Grows d e → (s : Statement) → Within d s → Within e s
  statement-grows d e g (Set m x t) h = (omega (arith, g.slots, h.0), term-grows d e g t h.1)
  statement-grows d e g (Store m a site k t) h = (array-grows d e g a.space a.number h.0, term-grows d e g k h.1, term-grows d e g t h.2)
  statement-grows d e g (If m t taken skipped) h = (term-grows d e g t h.0, all-grow d e g taken h.1, all-grow d e g skipped h.2)
  statement-grows d e g (Loop m t body update) h = (term-grows d e g t h.0, all-grow d e g body h.1, all-grow d e g update h.2)
  statement-grows d e g (Barrier m l f) h = tt
  statement-grows d e g (Return m) h = tt
  statement-grows d e g (Break m loop) h = tt
  statement-grows d e g (Continue m loop) h = tt

  pub all-grow : (d e : Declared) → Grows d e → (ss : Statements) → AllWithin d ss → AllWithin e ss
  all-grow d e g none h = tt
  all-grow d e g (one s ss) h = (statement-grows d e g s h.0, all-grow d e g ss h.1)

pub join-within : (d : Declared) (ss others : Statements) → AllWithin d ss → AllWithin d others → AllWithin d (join ss others)
join-within d none others h k = k
join-within d (one s ss) others h k = (h.0, join-within d ss others h.1 k)
