-- Buffers with logs written to them.
use Rattle.std.specs.Prelude.{◌≡◌, ◌<◌, ℕ, zero, suc, ℤ, List, [], Option, map, length, slice_index_or}
use Rattle.semantics.specs.Rounds.{logged}
use Rattle.write_log.specs.Written.{element}

-- what a log has of each element of a buffer
abbrev pub Log : Type 0
Log = (buffer index : ℕ) → Option ℤ

-- a number with the logs of the first n groups in order
abbrev pub in_order : (ℕ → Log) → (buffer index n : ℕ) → ℤ → ℤ
in_order logs buffer index zero z = z
in_order logs buffer index (suc n) z = logged (logs n buffer index) (in_order logs buffer index n z)

-- buffers after a log was written to them
pub record HasLog (log : Log) (old new : List (List ℤ)) : Type 0 where
  pub lengths : map length new ≡ map length old
  pub elements : (buffer index : ℕ) → index < length (slice_index_or old buffer []) → element new buffer index ≡ logged (log buffer index) (element old buffer index)

-- and after those of the first n groups, in order
pub record HasLogs (logs : ℕ → Log) (n : ℕ) (old new : List (List ℤ)) : Type 0 where
  pub lengths : map length new ≡ map length old
  pub elements : (buffer index : ℕ) → index < length (slice_index_or old buffer []) → element new buffer index ≡ in_order logs buffer index n (element old buffer index)
