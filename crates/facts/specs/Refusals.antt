-- What an error says of a form.
use Rattle.std.specs.Prelude.{◌≡◌, false}
use Rattle.linear.specs.Exact.{fits}
use Rattle.facts.specs.Symbols.{Fact}
use Rattle.facts.specs.declared.error.WalkError.{WalkError}
use Rattle.facts.specs.declared.error.WalkError.TheVariants as errors

-- there was no memory
abbrev pub IsMemory : WalkError → Type 0
IsMemory e = e ≡ errors.Memory

-- a form was not made: a number of it is no i64, or there was no memory
abbrev pub IsUnfit : WalkError → Fact → Type 0
IsUnfit errors.TooMany f = ⊥
IsUnfit errors.TooLarge f = fits f ≡ false
IsUnfit errors.Memory f = Unit {0}
