-- What nodes stand for, by the `Vec`s that they hold, and how many there are of what is seen.
use Rattle.std.proofs.lemmas.List.{length-map}
use Rattle.opencl_tree.proofs.Rows.{seen_call, seen_vector}

pub ruleset rows = (seen_call, seen_vector)

pub ruleset counts = (length-map)
