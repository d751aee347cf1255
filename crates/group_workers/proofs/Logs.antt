-- Logs, written in the order of their groups.
use Rattle.std.proofs.Common.{◌≡◌, ◌<◌, ◌+◌, ℕ, suc, List, [], length, map, ap, sym, ◌∙◌, subst, arith}
use Rattle.std.specs.Prelude.{ℤ, slice_index_or}
use Rattle.semantics.specs.Rounds.{logged}
use Rattle.write_log.proofs.Entries.{row-length}
use Rattle.group_workers.specs.Writing.{Log, HasLog, HasLogs}

pub rows-alike : (xs ys : List (List ℤ)) (b : ℕ) → map length xs ≡ map length ys → length (slice_index_or xs b []) ≡ length (slice_index_or ys b [])
rows-alike xs ys b h = row-length xs b ∙ ap (λ l. slice_index_or l b 0) h ∙ sym (row-length ys b)

-- one group more
pub logs-more : (logs : ℕ → Log) (n : ℕ) (old new newest : List (List ℤ)) → HasLogs logs n old new → HasLog (logs n) new newest → HasLogs logs (n + 1) old newest
logs-more logs n old new newest h k = subst (λ m. HasLogs logs m old newest) next (record {
  lengths = k.lengths ∙ h.lengths;
  elements = λ b i l.
      k.elements b i (subst (λ m. i < m) (sym (rows-alike new old b h.lengths)) l)
      ∙ ap (logged (logs n b i)) (h.elements b i l);
})
  where
    next : suc n ≡ n + 1
    next = omega arith
