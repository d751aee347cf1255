-- What is to be shown of two stops, by its sort.
use Rattle.std.specs.Prelude.{List, Option, Some, None}
use Rattle.facts.specs.Symbols.{Fact}
use Rattle.walk_trees.specs.Trees as trees
use Rattle.walk_trees.specs.Trees.{Sort, OfSame, OfMeeting}
use Rattle.obligations.specs.Crossings.{Crossing, crossing_facts}
use Rattle.obligations.specs.Notes.{Notes}
use Rattle.two_thread.specs.declared.meetings.About.{About}
use Rattle.two_thread.specs.declared.meetings.About.TheVariants as abouts

abbrev pub sort_about : About → Sort
sort_about (abouts.AtLeast x) = OfSame
sort_about (abouts.AtMost x) = OfSame
sort_about abouts.Never = OfMeeting

-- a pair of accesses is shown by its facts alone
abbrev pub crossing_shown : {E : Type 0} → trees.Manner → (launch : List Fact) → Notes → Crossing E → Option (List Fact)
crossing_shown trees.Plainly launch n p = Some (crossing_facts launch n p)
crossing_shown trees.ByPositive launch n p = None
crossing_shown trees.ByNegative launch n p = None
crossing_shown trees.ByQuotient launch n p = None
