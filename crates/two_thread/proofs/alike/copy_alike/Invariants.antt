use Rattle.std.proofs.Common.{◌≡◌, ℕ, drop}
use Rattle.obligations.specs.View.{same_of}
use Rattle.two_thread.proofs.Copied.{alike_then}
use Rattle.two_thread.proofs.alike.copy_alike.Given as goal

abbrev pub invariant-loop-lines : goal.invariant-loop-lines
invariant-loop-lines l = (b : ℕ) → alike_then l.found.items b (same_of (drop l.lines-index l.notes.places.items) b) ≡ same_of l.notes.places.items b
