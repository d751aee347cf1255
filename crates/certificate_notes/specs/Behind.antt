-- What is behind others, for the contracts of the code.
use Rattle.std.specs.Prelude.{List, ◌++◌, Option, None, Some}

abbrev pub after : {B : Type 0} → List B → Option (List B) → Option (List B)
after bs None = None
after bs (Some cs) = Some (bs ++ cs)
