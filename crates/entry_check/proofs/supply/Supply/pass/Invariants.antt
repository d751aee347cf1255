use Rattle.std.proofs.Common.{◌≡◌, ◌<◌, ◌≤◌, ℕ, length}
use Rattle.entry_check.specs.Entries.{entry_of, is_past}
use Rattle.entry_check.specs.Supplied.{IsReady, ahead}
use Rattle.entry_check.proofs.supply.Supply.pass.Given as goal

abbrev pub invariant-loop-self : goal.invariant-loop-self
invariant-loop-self l = record {
  ready : IsReady l.self;
  later : (n : ℕ) → l.last < n → entry_of (ahead l.self) n ≡ entry_of (ahead l.fn.self) n;
  past : (n : ℕ) → l.last ≤ n → is_past (ahead l.self) n ≡ is_past (ahead l.fn.self) n;
}

abbrev pub decreases-loop-self : goal.decreases-loop-self
decreases-loop-self l = length (ahead l.self)
