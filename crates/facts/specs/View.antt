-- What the code's values stand for.
use Rattle.std.specs.Prelude.{ℕ, List, Option, None, Some, slice_index}
use Rattle.semantics.specs.Launch.{Three}
use Rattle.linear.specs.Forms.{form}
use Rattle.linear.specs.declared.form.Form.{Form}
use Rattle.linear.specs.declared.form.LinearError.{LinearError}
use Rattle.linear.specs.declared.form.LinearError.TheVariants as linear
use Rattle.facts.specs.Symbols as symbols
use Rattle.facts.specs.Elements as elements
use Rattle.facts.specs.Launching as launching
use Rattle.facts.specs.declared.contents.BufferBound.{BufferBound}
use Rattle.facts.specs.declared.elements.Known.{Known}
use Rattle.facts.specs.declared.error.WalkError.{WalkError}
use Rattle.facts.specs.declared.error.WalkError.TheVariants as errors
use Rattle.facts.specs.declared.side.Side.{Side}
use Rattle.facts.specs.declared.side.Side.TheVariants as items

abbrev pub error_of_form : LinearError → WalkError
error_of_form linear.TooLarge = errors.TooLarge
error_of_form linear.Memory = errors.Memory

abbrev pub side : Side → symbols.Side
side items.First = symbols.First
side items.Second = symbols.Second

abbrev pub known_seen : {E : Type 0} → Known E → elements.Known E
known_seen k = record {
  counts = k.counts.items;
  arguments = k.arguments.items;
  lengths = k.lengths.items;
  locals = k.locals.items;
  groups = k.groups.items;
}

abbrev pub elements_seen : {E : Type 0} → Known E → (first second : List E) → elements.Elements E
elements_seen k first second = record { known = known_seen k; first = first; second = second }

abbrev pub three : List ℕ → Three ℕ
three sizes = record { x = slice_index sizes 0; y = slice_index sizes 1; z = slice_index sizes 2 }

abbrev pub maybe_form : Option Form → Option symbols.Fact
maybe_form None = None
maybe_form (Some f) = Some (form f)

abbrev pub buffer_bound : BufferBound → launching.BufferBound
buffer_bound b = record { buffer = b.buffer; is_upper = b.is_upper; sum = maybe_form b.sum }
