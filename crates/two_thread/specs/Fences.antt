-- Statements in which every barrier fences a space.
use Rattle.std.specs.Prelude.{Bool, true, ◌&&◌}
use Rattle.semantics.specs.Core.{Space, Global, Local, Statement, Set, Store, If, Loop, Barrier, Return, Break, Continue, Statements, none, one}

abbrev pub flag : Space → (local global : Bool) → Bool
flag Global l g = g
flag Local l g = l

abbrev mutual
  pub fences : Space → Statement → Bool
  fences sp (Set n x e) = true
  fences sp (Store n a site i e) = true
  fences sp (If n e t f) = all_fence sp t && all_fence sp f
  fences sp (Loop n e b u) = all_fence sp b && all_fence sp u
  fences sp (Barrier n l g) = flag sp l g
  fences sp (Return n) = true
  fences sp (Break n k) = true
  fences sp (Continue n k) = true

  pub all_fence : Space → Statements → Bool
  all_fence sp none = true
  all_fence sp (one s ss) = fences sp s && all_fence sp ss
