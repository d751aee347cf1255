-- The domain that a check takes: an interval, a congruence and known bits of each number.
use Rattle.std.specs.Prelude.{◌&&◌}
use Rattle.domain.specs.contracts.congruence.CongruenceDomain.TheImpl as congruence
use Rattle.domain.specs.declared.congruence.Congruence.{Congruence}
use Rattle.domain.specs.declared.Domain.{Ghosts}
use Rattle.domain.specs.contracts.interval.IntervalDomain.TheImpl as interval
use Rattle.domain.specs.declared.interval.Interval.{Interval}
use Rattle.domain.specs.contracts.known_bits.KnownBitsDomain.TheImpl as known_bits
use Rattle.domain.specs.declared.known_bits.KnownBits.{KnownBits}
use Rattle.domain.specs.Both.{narrowed, finer}
use Rattle.domain.specs.declared.product.Product.{Product}

-- of each of two domains an element
abbrev pub both : {A B : Type 0} → Ghosts A → Ghosts B → Ghosts (Product A B)
both a b = record {
  has = λ p z. a.has p.first z && b.has p.second z;
  top_of = record { first = a.top_of; second = b.top_of };
  number_of = λ n. record { first = a.number_of n; second = b.number_of n };
  join_of = λ p q. record { first = a.join_of p.first q.first; second = b.join_of p.second q.second };
  add_of = λ p q. record { first = a.add_of p.first q.first; second = b.add_of p.second q.second };
  sub_of = λ p q. record { first = a.sub_of p.first q.first; second = b.sub_of p.second q.second };
  mul_of = λ p q. record { first = a.mul_of p.first q.first; second = b.mul_of p.second q.second };
  div_of = λ p q. record { first = a.div_of p.first q.first; second = b.div_of p.second q.second };
  rem_of = λ p q. record { first = a.rem_of p.first q.first; second = b.rem_of p.second q.second };
  mask_of = λ p q. record { first = a.mask_of p.first q.first; second = b.mask_of p.second q.second };
  shl_of = λ p k. record { first = a.shl_of p.first k; second = b.shl_of p.second k };
  shr_of = λ p k. record { first = a.shr_of p.first k; second = b.shr_of p.second k };
  at_least_of = λ p n. record { first = a.at_least_of p.first n; second = b.at_least_of p.second n };
  at_most_of = λ p n. record { first = a.at_most_of p.first n; second = b.at_most_of p.second n };
  bounds_of = λ p. narrowed (a.bounds_of p.first) (b.bounds_of p.second);
  residue_of = λ p. finer (a.residue_of p.first) (b.residue_of p.second);
}

abbrev pub domain : Ghosts (Product (Product Interval Congruence) KnownBits)
domain = both (both interval.ghosts congruence.ghosts) known_bits.ghosts
