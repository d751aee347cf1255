-- Kernels without loops.
use Rattle.std.specs.Prelude.{Bool, true, false, ◌&&◌}
use Rattle.semantics.specs.Core.{Statement, Set, Store, If, Loop, Barrier, Return, Break, Continue, Statements, none, one}

abbrev mutual
  pub is_loop_free_statement : Statement → Bool
  is_loop_free_statement (Set n x e) = true
  is_loop_free_statement (Store n a site i e) = true
  is_loop_free_statement (If n e taken skipped) = is_loop_free taken && is_loop_free skipped
  is_loop_free_statement (Loop n e body update) = false
  is_loop_free_statement (Barrier n l g) = true
  is_loop_free_statement (Return n) = true
  is_loop_free_statement (Break n k) = true
  is_loop_free_statement (Continue n k) = true

  -- no loop stands among the statements, nor inside one of them
  pub is_loop_free : Statements → Bool
  is_loop_free none = true
  is_loop_free (one s ss) = is_loop_free_statement s && is_loop_free ss
