-- What names slots that are declared names none past the last one.
use Rattle.semantics.specs.Core as core
use Rattle.semantics.specs.Core.{Term, Literal, Variable, Id, Load, Unary, Binary, Convert, Compare, Not, And, Or, Select, Minimum, Maximum, Shift, Opaque, Statement, Set, Store, If, Loop, Barrier, Return, Break, Continue, Statements, none, one}
use Rattle.lanes.specs.Lowering as lanes
use Rattle.sound_cores.specs.Declarations.{Declared, TermWithin, Within, AllWithin}

module _ (d : Declared) where
  term-slots : (e : Term) → TermWithin d e → lanes.TermWithin d.slots e
  term-slots (Literal k z) h = h
  term-slots (Variable x) h = h
  term-slots (Id k f i) h = h
  term-slots (Load a site index) h = term-slots index h.1
  term-slots (Unary op k site e) h = term-slots e h
  term-slots (Binary op k site left right) h = (term-slots left h.0, term-slots right h.1)
  term-slots (Convert k site e) h = term-slots e h
  term-slots (Compare r k left right) h = (term-slots left h.0, term-slots right h.1)
  term-slots (Not e) h = term-slots e h
  term-slots (And left right) h = (term-slots left h.0, term-slots right h.1)
  term-slots (Or left right) h = (term-slots left h.0, term-slots right h.1)
  term-slots (Select test taken skipped) h = (term-slots test h.0, term-slots taken h.1, term-slots skipped h.2)
  term-slots (Minimum left right) h = (term-slots left h.0, term-slots right h.1)
  term-slots (Maximum left right) h = (term-slots left h.0, term-slots right h.1)
  term-slots (Shift o k value count) h = (term-slots value h.0, term-slots count h.1)
  term-slots (core.Within site n index) h = term-slots index h
  term-slots (Opaque n at k a b c) h = (term-slots a h.0, term-slots b h.1, term-slots c h.2)

  mutual
    slots : (st : Statement) → Within d st → lanes.Within d.slots st
    slots (Set m x e) h = (h.0, term-slots e h.1)
    slots (Store m a site k e) h = (term-slots k h.1, term-slots e h.2)
    slots (If m e taken skipped) h = (term-slots e h.0, all-slots taken h.1, all-slots skipped h.2)
    slots (Loop m e body update) h = (term-slots e h.0, all-slots body h.1, all-slots update h.2)
    slots (Barrier m l g) h = h
    slots (Return m) h = h
    slots (Break m loop) h = h
    slots (Continue m loop) h = h

    pub all-slots : (ss : Statements) → AllWithin d ss → lanes.AllWithin d.slots ss
    all-slots none h = h
    all-slots (one st rest) h = (slots st h.0, all-slots rest h.1)
