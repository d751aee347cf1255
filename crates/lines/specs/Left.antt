-- What is left of a text that is cut.
use Rattle.std.specs.Prelude.{ℕ, List, [], Option, None, Some}
use Rattle.std.specs.Option.{option_map}
use denote.Ref.{Bor}
use Rattle.lines.specs.Lines.{pieces}
use Rattle.lines.specs.declared.pieces.Pieces.{Pieces}

abbrev pub rest_left : (separator : ℕ) → Option (Bor (List ℕ)) → List (List ℕ)
rest_left separator None = []
rest_left separator (Some text) = pieces separator text.now

abbrev pub left : Pieces → List (List ℕ)
left p = rest_left p.separator p.rest

-- what two slices hold
abbrev pub both : Option (Bor (List ℕ) × Bor (List ℕ)) → Option (List ℕ × List ℕ)
both r = option_map (λ p. (p.0.now, p.1.now)) r
