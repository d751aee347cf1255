-- Elaborated kernels, positions aside.
use Rattle.std.specs.Prelude.{Ok, Err}
use Rattle.semantics.specs.Core.{Term, Literal, Variable, Id, Load, Unary, Binary, Convert, Compare, Not, And, Or, Select, Minimum, Maximum, Shift, Within, Opaque, Statement, Set, Store, If, Loop, Barrier, Return, Break, Continue, Statements, none, one}
use Rattle.semantics.specs.Launch.{Kernel}
use Rattle.texts.specs.Bare.{nowhere}
use Rattle.types.specs.TypeFaults.{Checked}

abbrev pub bare_term : Term → Term
bare_term (Literal kind z) = Literal kind z
bare_term (Variable slot) = Variable slot
bare_term (Id kind function dimension) = Id kind function dimension
bare_term (Load array site index) = Load array nowhere (bare_term index)
bare_term (Unary operator kind site t) = Unary operator kind nowhere (bare_term t)
bare_term (Binary operator kind site l r) = Binary operator kind nowhere (bare_term l) (bare_term r)
bare_term (Convert kind site t) = Convert kind nowhere (bare_term t)
bare_term (Compare relation kind l r) = Compare relation kind (bare_term l) (bare_term r)
bare_term (Not t) = Not (bare_term t)
bare_term (And l r) = And (bare_term l) (bare_term r)
bare_term (Or l r) = Or (bare_term l) (bare_term r)
bare_term (Select test a b) = Select (bare_term test) (bare_term a) (bare_term b)
bare_term (Minimum l r) = Minimum (bare_term l) (bare_term r)
bare_term (Maximum l r) = Maximum (bare_term l) (bare_term r)
bare_term (Shift direction kind l r) = Shift direction kind (bare_term l) (bare_term r)
bare_term (Within site length index) = Within nowhere length (bare_term index)
bare_term (Opaque operation place kind a b c) = Opaque operation place kind (bare_term a) (bare_term b) (bare_term c)

abbrev mutual
  pub bare_step : Statement → Statement
  bare_step (Set n slot value) = Set n slot (bare_term value)
  bare_step (Store n array site index value) = Store n array nowhere (bare_term index) (bare_term value)
  bare_step (If n test taken skipped) = If n (bare_term test) (bare_steps taken) (bare_steps skipped)
  bare_step (Loop n test body update) = Loop n (bare_term test) (bare_steps body) (bare_steps update)
  bare_step (Barrier n local global) = Barrier n local global
  bare_step (Return n) = Return n
  bare_step (Break n loop) = Break n loop
  bare_step (Continue n loop) = Continue n loop

  pub bare_steps : Statements → Statements
  bare_steps none = none
  bare_steps (one s ss) = one (bare_step s) (bare_steps ss)

abbrev pub bare_core : Kernel → Kernel
bare_core k = record k { body = bare_steps k.body }

-- what is checked, or the fault, without its place
abbrev pub bare_checked : {A : Type 0} → (A → A) → Checked A → Checked A
bare_checked bare (Ok a) = Ok (bare a)
bare_checked bare (Err (fault, site)) = Err (fault, nowhere)
