-- What a kernel's statements name is declared: slots, buffers and local arrays, each by a number below how many there are.
use Rattle.std.specs.Prelude.{ℕ, ◌+◌, ◌<◌, length}
use Rattle.semantics.specs.Core as core
use Rattle.semantics.specs.Core.{Space, Global, Local, Array, Term, Literal, Variable, Id, Load, Unary, Binary, Convert, Compare}
use Rattle.semantics.specs.Core.{Not, And, Or, Select, Minimum, Maximum, Shift, Opaque, Statement, Set, Store, If, Loop, Barrier}
use Rattle.semantics.specs.Core.{Return, Break, Continue, Statements, none, one}
use Rattle.semantics.specs.Launch.{Kernel}

-- how many of each there are
pub record Declared : Type 0 where
  pub slots : ℕ
  pub buffers : ℕ
  pub arrays : ℕ

abbrev pub declared_by : Kernel → Declared
declared_by k = record { slots = length k.arguments + length k.variables; buffers = length k.buffers; arrays = length k.arrays }

abbrev pub IsOf : Declared → Space → ℕ → Type 0
IsOf d Global n = n < d.buffers
IsOf d Local n = n < d.arrays

abbrev pub HasArray : Declared → Array → Type 0
HasArray d a = IsOf d a.space a.number

abbrev pub TermWithin : Declared → Term → Type 0
TermWithin d (Literal k z) = Unit {0}
TermWithin d (Variable x) = x < d.slots
TermWithin d (Id k f i) = Unit {0}
TermWithin d (Load a site index) = HasArray d a × TermWithin d index
TermWithin d (Unary op k site e) = TermWithin d e
TermWithin d (Binary op k site left right) = TermWithin d left × TermWithin d right
TermWithin d (Convert k site e) = TermWithin d e
TermWithin d (Compare r k left right) = TermWithin d left × TermWithin d right
TermWithin d (Not e) = TermWithin d e
TermWithin d (And left right) = TermWithin d left × TermWithin d right
TermWithin d (Or left right) = TermWithin d left × TermWithin d right
TermWithin d (Select test taken skipped) = TermWithin d test × TermWithin d taken × TermWithin d skipped
TermWithin d (Minimum left right) = TermWithin d left × TermWithin d right
TermWithin d (Maximum left right) = TermWithin d left × TermWithin d right
TermWithin d (Shift o k value count) = TermWithin d value × TermWithin d count
TermWithin d (core.Within site n index) = TermWithin d index
TermWithin d (Opaque n at k a b c) = TermWithin d a × TermWithin d b × TermWithin d c

abbrev mutual
  pub Within : Declared → Statement → Type 0
  Within d (Set m x e) = (x < d.slots) × TermWithin d e
  Within d (Store m a site k e) = HasArray d a × TermWithin d k × TermWithin d e
  Within d (If m e taken skipped) = TermWithin d e × AllWithin d taken × AllWithin d skipped
  Within d (Loop m e body update) = TermWithin d e × AllWithin d body × AllWithin d update
  Within d (Barrier m l g) = Unit {0}
  Within d (Return m) = Unit {0}
  Within d (Break m loop) = Unit {0}
  Within d (Continue m loop) = Unit {0}

  pub AllWithin : Declared → Statements → Type 0
  AllWithin d none = Unit {0}
  AllWithin d (one st rest) = Within d st × AllWithin d rest
