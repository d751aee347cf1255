-- What is tested of exits and updates holds.
use Rattle.std.proofs.Common.{◌≡◌, ℕ, true, eqb-true}
use Rattle.std.specs.Prelude.{Option, Some, None}
use Rattle.std.proofs.lemmas.Bool.{and_parts}
use Rattle.semantics.specs.Core.{Statement, Set, Store, If, Loop, Barrier, Return, Break, Continue, Statements, none, one}
use Rattle.sound_cores.specs.Told.{Assigns, AllAssign, Leaves, IsPlaced, ArePlaced}
use Rattle.sound_cores.specs.Sound.{is_assignment, are_assignments, is_around, is_placed, are_placed}

assignment-assigns : (s : Statement) → is_assignment s ≡ true → Assigns s
assignment-assigns (Set n x e) h = tt
assignment-assigns (Store n a site k e) h = tt
assignment-assigns (If n e taken skipped) h = cc
assignment-assigns (Loop n e body update) h = cc
assignment-assigns (Barrier n l g) h = cc
assignment-assigns (Return n) h = cc
assignment-assigns (Break n loop) h = cc
assignment-assigns (Continue n loop) h = cc

assignments-assign : (ss : Statements) → are_assignments ss ≡ true → AllAssign ss
assignments-assign none h = tt
assignments-assign (one s ss) h = let p = and_parts (is_assignment s) (are_assignments ss) h in (assignment-assigns s p.0, assignments-assign ss p.1)

around-leaves : (around : Option ℕ) (loop : ℕ) → is_around around loop ≡ true → Leaves around loop
around-leaves None loop h = cc
around-leaves (Some n) loop h = eqb-true loop n h

mutual
  placed-placed : (around : Option ℕ) (s : Statement) → is_placed around s ≡ true → IsPlaced around s
  placed-placed around (Set n x e) h = tt
  placed-placed around (Store n a site k e) h = tt
  placed-placed around (If n e taken skipped) h =
      let p = and_parts (are_placed around taken) (are_placed around skipped) h in (all-placed around taken p.0, all-placed around skipped p.1)
  placed-placed around (Loop n e body update) h =
      let p = and_parts (are_placed (Some n) body) (are_assignments update) h in (all-placed (Some n) body p.0, assignments-assign update p.1)
  placed-placed around (Barrier n l g) h = tt
  placed-placed around (Return n) h = tt
  placed-placed around (Break n loop) h = around-leaves around loop h
  placed-placed around (Continue n loop) h = around-leaves around loop h

  pub all-placed : (around : Option ℕ) (ss : Statements) → are_placed around ss ≡ true → ArePlaced around ss
  all-placed around none h = tt
  all-placed around (one s ss) h = let p = and_parts (is_placed around s) (are_placed around ss) h in (placed-placed around s p.0, all-placed around ss p.1)
