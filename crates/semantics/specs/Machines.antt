-- Kernels of which all is reckoned: no operation that a device has to say stands in them, so the device has no part in what they do.
use Rattle.std.specs.Prelude.{Bool, true, false, ◌&&◌}
use Rattle.semantics.specs.Core.{Term, Literal, Variable, Id, Load, Unary, Binary, Convert, Compare, Not, And, Or, Select, Minimum, Maximum, Shift, Within, Opaque, Statement, Set, Store, If, Loop, Barrier, Return, Break, Continue, Statements, none, one}
use Rattle.semantics.specs.Launch.{Machine, Kernel}
use Rattle.semantics.specs.Setup.{Setup}

abbrev pub is_reckoned_term : Term → Bool
is_reckoned_term (Literal k z) = true
is_reckoned_term (Variable x) = true
is_reckoned_term (Id k f d) = true
is_reckoned_term (Load a site index) = is_reckoned_term index
is_reckoned_term (Unary op k site e) = is_reckoned_term e
is_reckoned_term (Binary op k site a b) = is_reckoned_term a && is_reckoned_term b
is_reckoned_term (Convert k site e) = is_reckoned_term e
is_reckoned_term (Compare r k a b) = is_reckoned_term a && is_reckoned_term b
is_reckoned_term (Not e) = is_reckoned_term e
is_reckoned_term (And a b) = is_reckoned_term a && is_reckoned_term b
is_reckoned_term (Or a b) = is_reckoned_term a && is_reckoned_term b
is_reckoned_term (Select t a b) = is_reckoned_term t && (is_reckoned_term a && is_reckoned_term b)
is_reckoned_term (Minimum a b) = is_reckoned_term a && is_reckoned_term b
is_reckoned_term (Maximum a b) = is_reckoned_term a && is_reckoned_term b
is_reckoned_term (Shift d k a b) = is_reckoned_term a && is_reckoned_term b
is_reckoned_term (Within site n e) = is_reckoned_term e
is_reckoned_term (Opaque n at k a b c) = false

abbrev mutual
  pub is_reckoned_statement : Statement → Bool
  is_reckoned_statement (Set n x e) = is_reckoned_term e
  is_reckoned_statement (Store n a site k e) = is_reckoned_term k && is_reckoned_term e
  is_reckoned_statement (If n e taken skipped) = is_reckoned_term e && (are_reckoned taken && are_reckoned skipped)
  is_reckoned_statement (Loop n e body update) = is_reckoned_term e && (are_reckoned body && are_reckoned update)
  is_reckoned_statement (Barrier n l g) = true
  is_reckoned_statement (Return n) = true
  is_reckoned_statement (Break n k) = true
  is_reckoned_statement (Continue n k) = true

  pub are_reckoned : Statements → Bool
  are_reckoned none = true
  are_reckoned (one s ss) = is_reckoned_statement s && are_reckoned ss

abbrev pub is_reckoned : Kernel → Bool
is_reckoned k = are_reckoned k.body

-- a launch on another machine
abbrev pub with_machine : Machine → Setup → Setup
with_machine m s = record {
  kernel = s.kernel;
  launch = record { groups = s.launch.groups; arguments = s.launch.arguments; buffers = s.launch.buffers; fill = s.launch.fill; machine = m };
  width = s.width;
}
