use Rattle.std.proofs.Common.{refl, arith}
use Rattle.write_log.proofs.RisingEntries.{rising-none}
use Rattle.write_log.proofs.rising.RisingList.new.Goals as goal

pub invariant_of-result : goal.invariant_of-result
invariant_of-result c = record {
  laid = rw (c.new.ensures.items, c.new-2.ensures.items) (record {
    rising = rising-none;
    begins = refl;
    apart = λ number l. absurd (omega (arith, l));
    fits = λ place l. absurd (omega (arith, l));
  });
}
