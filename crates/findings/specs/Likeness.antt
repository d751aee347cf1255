-- Findings that say the same: what is wrong and where, the sites in either order.
use Rattle.std.specs.Prelude.{◌≡◌, ◌⊎◌, reverse}
use Rattle.findings.specs.declared.finding.Finding.{Finding}

abbrev pub AreAlike : Finding → Finding → Type 0
AreAlike f g = (f.kind ≡ g.kind) × ((f.sites.items ≡ g.sites.items) ⊎ (f.sites.items ≡ reverse g.sites.items))
