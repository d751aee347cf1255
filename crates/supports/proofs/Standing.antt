-- The union of all sets that stand is one that stands.
use Rattle.std.proofs.Common.{◌≡◌, ◌<◌, ◌↔◌, ℕ, [], true, length, get_or}
use Rattle.std.specs.List.{All}
use Rattle.std.proofs.lemmas.List.Elements.{All-weaker}
use Rattle.supports.specs.Candidates.{Supports, Candidates, IsSupported, Stands, IsInGreatest}

pub greatest-stands : (supports : Supports) (set : Candidates) → ((c : ℕ) → (set c ≡ true) ↔ IsInGreatest supports c) → Stands supports set
greatest-stands supports set is c h = go (is c).0
  where
    go : (set c ≡ true → IsInGreatest supports c) → (c < length supports) × All (IsSupported set) (get_or supports c [])
    go f =
        let g = f h in
        let s = g.1 c g.2 in
        (s.0, All-weaker (IsSupported g.0) (IsSupported set) (λ lists p. (p.0, p.1, All-weaker (λ m. g.0 m ≡ true) (λ m. set m ≡ true) (λ m q. (is m).1 (g.0, g.1, q)) p.0 p.2)) (get_or supports c []) s.1)
