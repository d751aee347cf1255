-- Sound cores: a test of any core, by one recursion each. Laws say that a core which passes keeps what each core of a text of the plain
-- language keeps. Numbers are to rise more strictly than in those, where the update of a `for` is numbered before its body. Beside that no
-- size is one that is not reckoned: a device may have more bits of it than a word carries.
use Rattle.std.specs.Prelude.{ℕ, ◌+◌, Bool, true, false, ◌&&◌, nat_lt, nat_eq, cond, Option, Some, None}
use Rattle.semantics.specs.Word as word
use Rattle.semantics.specs.Word.{Kind}
use Rattle.semantics.specs.Core as core
use Rattle.semantics.specs.Core.{Space, Global, Local, Array, Term, Literal, Variable, Id, Load, Unary, Binary, Convert, Compare}
use Rattle.semantics.specs.Core.{Not, And, Or, Select, Minimum, Maximum, Shift, Opaque, Statement, Set, Store, If, Loop, Barrier}
use Rattle.semantics.specs.Core.{Return, Break, Continue, Statements, none, one}
use Rattle.semantics.specs.Launch.{Kernel}
use Rattle.work_item.specs.Proper.{is_proper}
use Rattle.sound_cores.specs.Declarations.{Declared, declared_by}

-- the number after this one, unless it is below the next one that is free
abbrev pub after : (next number : ℕ) → Option ℕ
after next n = cond (nat_lt n next) None (Some (n + 1))

abbrev pub then : Option ℕ → (ℕ → Option ℕ) → Option ℕ
then None go = None
then (Some next) go = go next

-- the next free number behind a statement, where numbers rise in the order in which statements stand: each before those inside it, what is
-- taken before what is skipped, a loop's body before its update. So no number stands twice
abbrev mutual
  pub numbered : (next : ℕ) → Statement → Option ℕ
  numbered next (Set n x e) = after next n
  numbered next (Store n a site k e) = after next n
  numbered next (If n e taken skipped) = then (after next n) (λ i. then (all_numbered i taken) (λ j. all_numbered j skipped))
  numbered next (Loop n e body update) = then (after next n) (λ i. then (all_numbered i body) (λ j. all_numbered j update))
  numbered next (Barrier n l g) = after next n
  numbered next (Return n) = after next n
  numbered next (Break n loop) = after next n
  numbered next (Continue n loop) = after next n

  pub all_numbered : (next : ℕ) → Statements → Option ℕ
  all_numbered next none = Some next
  all_numbered next (one s ss) = then (numbered next s) (λ i. all_numbered i ss)

abbrev pub is_some : Option ℕ → Bool
is_some None = false
is_some (Some n) = true

-- statements that only assign
abbrev pub is_assignment : Statement → Bool
is_assignment (Set n x e) = true
is_assignment (Store n a site k e) = true
is_assignment (If n e taken skipped) = false
is_assignment (Loop n e body update) = false
is_assignment (Barrier n l g) = false
is_assignment (Return n) = false
is_assignment (Break n loop) = false
is_assignment (Continue n loop) = false

abbrev pub are_assignments : Statements → Bool
are_assignments none = true
are_assignments (one s ss) = is_assignment s && are_assignments ss

-- that loop is the one around
abbrev pub is_around : (around : Option ℕ) → (loop : ℕ) → Bool
is_around None loop = false
is_around (Some n) loop = nat_eq loop n

-- `break` and `continue` are of the innermost loop around them (C99 6.8.6.2 and 6.8.6.3), and a loop's update only assigns
abbrev mutual
  pub is_placed : (around : Option ℕ) → Statement → Bool
  is_placed around (Set n x e) = true
  is_placed around (Store n a site k e) = true
  is_placed around (If n e taken skipped) = are_placed around taken && are_placed around skipped
  is_placed around (Loop n e body update) = are_placed (Some n) body && are_assignments update
  is_placed around (Barrier n l g) = true
  is_placed around (Return n) = true
  is_placed around (Break n loop) = is_around around loop
  is_placed around (Continue n loop) = is_around around loop

  pub are_placed : (around : Option ℕ) → Statements → Bool
  are_placed around none = true
  are_placed around (one s ss) = is_placed around s && are_placed around ss

-- slots, buffers and local arrays that are named are declared
abbrev pub is_of : Declared → Space → ℕ → Bool
is_of d Global n = nat_lt n d.buffers
is_of d Local n = nat_lt n d.arrays

abbrev pub has_array : Declared → Array → Bool
has_array d a = is_of d a.space a.number

-- what is not reckoned is of no kind of sizes, and is not made one at once, as a float is that becomes one
abbrev pub is_carried : Kind → Bool
is_carried word.Size = false
is_carried k = true

abbrev pub is_reckoned_first : Term → Bool
is_reckoned_first (Opaque n at k a b c) = false
is_reckoned_first e = true

abbrev pub may_become : Kind → Term → Bool
may_become word.Size e = is_reckoned_first e
may_become k e = true

abbrev pub is_term_within : Declared → Term → Bool
is_term_within d (Literal k z) = true
is_term_within d (Variable x) = nat_lt x d.slots
is_term_within d (Id k f i) = true
is_term_within d (Load a site index) = has_array d a && is_term_within d index
is_term_within d (Unary op k site e) = is_term_within d e
is_term_within d (Binary op k site left right) = is_term_within d left && is_term_within d right
is_term_within d (Convert k site e) = may_become k e && is_term_within d e
is_term_within d (Compare r k left right) = is_term_within d left && is_term_within d right
is_term_within d (Not e) = is_term_within d e
is_term_within d (And left right) = is_term_within d left && is_term_within d right
is_term_within d (Or left right) = is_term_within d left && is_term_within d right
is_term_within d (Select test taken skipped) = is_term_within d test && (is_term_within d taken && is_term_within d skipped)
is_term_within d (Minimum left right) = is_term_within d left && is_term_within d right
is_term_within d (Maximum left right) = is_term_within d left && is_term_within d right
is_term_within d (Shift o k value count) = is_term_within d value && is_term_within d count
is_term_within d (core.Within site n index) = is_term_within d index
is_term_within d (Opaque n at k a b c) = is_carried k && (is_term_within d a && (is_term_within d b && is_term_within d c))

abbrev mutual
  pub is_within : Declared → Statement → Bool
  is_within d (Set n x e) = nat_lt x d.slots && is_term_within d e
  is_within d (Store n a site k e) = has_array d a && (is_term_within d k && is_term_within d e)
  is_within d (If n e taken skipped) = is_term_within d e && (are_within d taken && are_within d skipped)
  is_within d (Loop n e body update) = is_term_within d e && (are_within d body && are_within d update)
  is_within d (Barrier n l g) = true
  is_within d (Return n) = true
  is_within d (Break n loop) = true
  is_within d (Continue n loop) = true

  pub are_within : Declared → Statements → Bool
  are_within d none = true
  are_within d (one s ss) = is_within d s && are_within d ss

abbrev pub is_sound : Kernel → Bool
is_sound k = is_proper k && (is_some (all_numbered 0 k.body) && (are_placed None k.body && are_within (declared_by k) k.body))
