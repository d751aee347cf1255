-- A kernel that is pair-safe with a bound of its steps is so with each larger one.
use Rattle.std.proofs.Common.{ℕ, ◌≤◌, List, arith}
use Rattle.semantics.specs.Conditions.{Content}
use Rattle.semantics.specs.Setup.{Setup}
use Rattle.semantics.specs.Safety.{IsPairSafeWithin}

pub wider : (cs : List Content) (s : Setup) (low high : ℕ) → low ≤ high → IsPairSafeWithin cs s low → IsPairSafeWithin cs s high
wider cs s low high h p = record { quiet = p.quiet; short = λ i ws within honest. omega (arith, h, p.short i ws within honest); apart = p.apart; agree = p.agree; ends = p.ends; keeps = p.keeps }
