-- What a work-item of the code asks for next, as the definitions have it.
use Rattle.std.specs.Prelude.{ℕ, ◌+◌, [], slice_set}
use Rattle.semantics.specs.Memory as memory
use Rattle.semantics.specs.Item as items
use Rattle.semantics.specs.Ask as meaning
use Rattle.words.specs.View.{word, value_of, kind, fault}
use Rattle.core_code.specs.View.{site, statements}
use Rattle.work_item.specs.Left.{behind, turned}
use Rattle.work_item.specs.declared.ask.Owner.{Owner}
use Rattle.work_item.specs.declared.ask.Owner.TheVariants as owners
use Rattle.work_item.specs.declared.ask.Cell.{Cell}
use Rattle.work_item.specs.declared.ask.Ask.{Ask}
use Rattle.work_item.specs.declared.ask.Ask.TheVariants as asks

abbrev pub owner : Owner → ℕ
owner owners.Launch = 0
owner (owners.Group g) = 1 + g

abbrev pub cell : Cell → memory.Cell
cell c = record { owner = owner c.owner; array = c.array; index = c.index }

-- of an item
abbrev pub asked : Ask → items.Item → meaning.Ask
asked (asks.Loads at k s) it = meaning.Loads (cell at) (kind k) (site s)
asked (asks.Stores at s w) it = meaning.Stores (cell at) (site s) (value_of w) (items.finished it (behind it.left) it.variables)
asked (asks.Faults f s) it = meaning.Goes (items.stands it (items.Stopped (fault f) (site s)))
asked (asks.Sets slot w) it = meaning.Goes (items.finished it (behind it.left) (slice_set it.variables slot (word w)))
asked (asks.Takes block) it = meaning.Goes (items.finished it (items.enter (statements block.now) (behind it.left)) it.variables)
asked (asks.Repeats body update) it = meaning.Goes (items.finished it (items.enter (statements body.now) (items.enter (statements update.now) (turned it.left))) it.variables)
asked asks.PassesBy it = meaning.Goes (items.finished it (behind it.left) it.variables)
asked asks.Arrives it = meaning.Goes (items.stands it items.Waiting)
asked asks.Ends it = meaning.Goes (items.finished it [] it.variables)
asked (asks.Leaves n) it = meaning.Goes (items.finished it (items.leave n (behind it.left)) it.variables)
asked (asks.Resumes n) it = meaning.Goes (items.finished it (items.resume n (behind it.left)) it.variables)
asked asks.Waits it = meaning.passes it it.left
asked asks.Rests it = meaning.Rests
